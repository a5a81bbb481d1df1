-- The blocks that an opening writes: each role's rows are those of its part, and they are well formed for a step. Assumes nothing.
use Prim.Native.Nat.{ℕ, zero, suc, ◌+◌, ◌-◌, ◌*◌, ◌≤◌, ◌<◌}
use mathlib.Core.Bool.{true}
use mathlib.Core.List.{List, [], ◌++◌}
use mathlib.Core.Logic.{⊎_elim}
use mathlib.Core.Option.{some}
use mathlib.Core.Path.{◌≡◌, refl, sym, ◌∙◌, ap}
use native.Mathlib.Decide.{dec_lt}
use native.Mathlib.Nat.{zero-mul, mul-le-mul_right, div-eq_of_eq-mul_left, eq-or-lt_of_le, le_of_suc-le-suc}
use native.Mathlib.Omega.{arith}
use lib.ListN.{get_or, length, replicate, length-append, get_or-append}
use lib.Seq.{get_or-append-add}
use borrow.Author.Tests.{lt-ltb, le-leb, eq-eqb}
use Rattle.words.specs.Rows.{word, rows_of}
use Rattle.words.proofs.Below.{every_all}
use Rattle.words.proofs.Zeros.{zeros}
use Rattle.table.specs.mirror.Kept.{Inside, Static, Good, Ranged}
use Rattle.table.specs.Limits.{Limits}
use Rattle.table.specs.Tree.{tree_of, rows_in}
use Rattle.parts.specs.Part.{Part}
use Rattle.parts.specs.Layout.{size, layout, block, block_of}
use Rattle.parts.specs.Projection.{part_of}
use Rattle.opening.specs.Opening.{blocks}
use Rattle.blocks.specs.Block.{End, part_row, block_rows}
use Rattle.blocks.specs.Head.{head}
use Rattle.blocks.specs.Tables.{row_good, tables_good}
use Rattle.protocol.proofs.Parts.Sound.{Sound, projected_sound}
use Rattle.parts.proofs.Lengths.{length_layout, length_block}
use Rattle.parts.proofs.Rising.{holds_some}
use Rattle.parts.proofs.Laws.{part_size}
use Rattle.protocol.proofs.Start.Encodes.{Encodes, Heads}
use Rattle.protocol.proofs.Blocks.Laid.{row_at, Laid, laid}
use Rattle.protocol.proofs.Blocks.Leads.{around_nil}
use Rattle.protocol.proofs.Blocks.Good.{rows_good, good_end}
use Rattle.protocol.proofs.Blocks.Views.{view_of, heads, encodes}
use Rattle.protocol.proofs.Blocks.Opening.{Opened}

-- what the rules of the table give its tree
pub record TreeKept (lim : Limits) (t : List ℕ) (roles : ℕ) : Type 0 where
  pub good : Good {A = ℕ} (tree_of t)
  pub inside : Inside {A = ℕ} 0 (tree_of t)
  pub static : Static {A = ℕ} (tree_of t)
  pub ranged : Ranged {A = ℕ} roles lim.labels (tree_of t)
  pub fits : rows_in {A = ℕ} (tree_of t) ≤ rows_of t

-- ---- words of a block

padding_word : (n j : ℕ) (P : Part) → size P * 4 ≤ j → get_or (block n P) j 0 ≡ 0
unfolding block
padding_word n j P h =
    let ws = layout 0 [] P in
    let e : j ≡ length ws + (j - length ws) = omega (arith, length_layout P 0 []) in
    ap (λ k. get_or (ws ++ replicate (n - length ws) 0) k 0) e
    ∙ (get_or-append-add ws (replicate (n - length ws) 0) (j - length ws) 0 ∙ zeros (n - length ws) (j - length ws))

padding_row : (n i : ℕ) (P : Part) → size P ≤ i → row_at (block n P) i ≡ End 0 0 0
padding_row n i P h =
    rw (
      padding_word n (i * 4 + 0) P (omega arith),
      padding_word n (i * 4 + 1) P (omega arith),
      padding_word n (i * 4 + 2) P (omega arith),
      padding_word n (i * 4 + 3) P (omega arith),
    )

-- ---- words of all blocks

module _ (t : List ℕ) (m : ℕ) (sized : (r : ℕ) → r < m → length (block_of t (part_of t r)) ≡ length t) where
  length_blocks : (n : ℕ) → n ≤ m → length (blocks t n) ≡ n * length t
  unfolding blocks
  length_blocks zero h = sym (zero-mul (length t))
  length_blocks (suc n) h = rw (length-append, length_blocks n (omega arith), sized n h) (omega arith)

  blocks_word : (n r j : ℕ) → n ≤ m → r < n → j < length t → get_or (blocks t n) (r * length t + j) 0 ≡ get_or (block_of t (part_of t r)) j 0
  unfolding blocks
  blocks_word zero r j h k i = absurd (omega arith)
  blocks_word (suc n) r j h k i =
      ⊎_elim last (λ less. earlier less (blocks_word n r j (omega arith) less i)) (eq-or-lt_of_le (le_of_suc-le-suc k))
    where
      last : r ≡ n → get_or (blocks t (suc n)) (r * length t + j) 0 ≡ get_or (block_of t (part_of t r)) j 0
      last e = rw (e, ← length_blocks n (omega arith)) (get_or-append-add (blocks t n) (block_of t (part_of t n)) j 0)

      earlier : r < n → get_or (blocks t n) (r * length t + j) 0 ≡ get_or (block_of t (part_of t r)) j 0
          → get_or (blocks t (suc n)) (r * length t + j) 0 ≡ get_or (block_of t (part_of t r)) j 0
      earlier less ih =
          let inside : r * length t + j < length (blocks t n) =
          omega (arith, length_blocks n (omega arith), mul-le-mul_right {m = suc r} {n = n} (length t) less) in
          get_or-append (blocks t n) (block_of t (part_of t n)) 0 (r * length t + j) inside ∙ ih

-- ---- the tables of an opening

place : (r n i k len : ℕ) → n * 4 ≡ len → (r * n + i) * 4 + k ≡ r * len + (i * 4 + k)
place r n i k len e = rw (← e) (omega arith)

module _ (lim : Limits) (t : List ℕ) (roles : ℕ) (o : Opened lim t roles) (kept : TreeKept lim t roles) where
  pub part_fits : (r : ℕ) (P : Part) → part_of t r ≡ some P → size P ≤ rows_of t
  unfolding part_of
  part_fits r P e = omega (arith, holds_some (part_size r (tree_of t)) e, kept.fits)

  pub part_sound : (r : ℕ) (P : Part) → part_of t r ≡ some P → Sound roles lim.labels r 0 P
  unfolding part_of
  part_sound r P e = projected_sound roles lim.labels r P kept.good kept.ranged kept.inside e

  sized : (r : ℕ) → r < roles → length (block_of t (part_of t r)) ≡ length t
  unfolding block_of
  sized r h = let (P, e) = o.parts r h in rw e (length_block (length t) P (omega (arith, part_fits r P e, o.whole)))

  pub length_tables : length (blocks t roles) ≡ roles * length t
  length_tables = length_blocks t roles sized roles (omega arith)

  all_rows : rows_of (blocks t roles) ≡ rows_of t * roles
  all_rows =
      let e : length (blocks t roles) ≡ rows_of t * roles * 4 = length_tables ∙ rows_times roles (rows_of t) (length t) o.whole in
      div-eq_of_eq-mul_left (omega arith) e
    where
      rows_times : (m n len : ℕ) → n * 4 ≡ len → m * len ≡ n * m * 4
      rows_times m n len e = rw (← e) (omega arith)

  pub block_rows_lem : block_rows (blocks t roles) roles ≡ rows_of t
  block_rows_lem = div-eq_of_eq-mul_left (omega (arith, o.some_roles)) all_rows

  word_of : (r i k : ℕ) (P : Part) → r < roles → part_of t r ≡ some P → i < rows_of t → k < 4
      → word (blocks t roles) (r * block_rows (blocks t roles) roles + i) k ≡ word (block (length t) P) i k
  unfolding block_of
  word_of r i k P h e less small =
      let inside : i * 4 + k < length t = omega (arith, o.whole) in
      let at : (r * rows_of t + i) * 4 + k ≡ r * length t + (i * 4 + k) = place r (rows_of t) i k (length t) o.whole in
      let f : get_or (blocks t roles) (r * length t + (i * 4 + k)) 0 ≡ get_or (block_of t (part_of t r)) (i * 4 + k) 0 =
      blocks_word t roles sized roles r (i * 4 + k) (omega arith) h inside in
      ap (λ n. get_or (blocks t roles) ((r * n + i) * 4 + k) 0) block_rows_lem
      ∙ (ap (λ j. get_or (blocks t roles) j 0) at ∙ (f ∙ ap (λ w. get_or (block_of t w) (i * 4 + k) 0) e))

  row_of : (r i : ℕ) (P : Part) → r < roles → part_of t r ≡ some P → i < rows_of t → part_row (blocks t roles) roles r i ≡ row_at (block (length t) P) i
  row_of r i P h e less =
      rw (
        word_of r i 0 P h e less (omega arith),
        word_of r i 1 P h e less (omega arith),
        word_of r i 2 P h e less (omega arith),
        word_of r i 3 P h e less (omega arith),
      )

  laid_of : (r : ℕ) (P : Part) → r < roles → part_of t r ≡ some P → Laid (part_row (blocks t roles) roles r) 0 [] P
  unfolding block
  laid_of r P h e =
      let ws = layout 0 [] P in
      laid (block (length t) P) (part_row (blocks t roles) roles r) (rows_of t) (λ i less. row_of r i P h e less) P 0 [] []
      (replicate (length t - length ws) 0) refl refl (omega (arith, part_fits r P e))

  pub opened_rows : (r x : ℕ) → r < roles → x < block_rows (blocks t roles) roles → row_good lim (blocks t roles) roles r x ≡ true
  opened_rows r x h less = let (P, e) = o.parts r h in go P e (dec_lt x (size P))
    where
      go : (P : Part) → part_of t r ≡ some P → Dec (x < size P) → row_good lim (blocks t roles) roles r x ≡ true
      go P e (yes i) =
          rows_good lim (blocks t roles) roles r (laid_of r P h e) 0 0 refl (part_sound r P e) around_nil
          (omega (arith, part_fits r P e, block_rows_lem)) (λ j b. absurd (omega arith)) x (omega arith) (omega arith)
      go P e (no i) =
          let inside : x < rows_of t = omega (arith, block_rows_lem) in
          good_end lim (blocks t roles) roles r x (row_of r x P h e inside ∙ padding_row (length t) x P (omega arith))

  pub opened_tables : tables_good lim (blocks t roles) roles ≡ true
  unfolding tables_good
  opened_tables =
      let n = block_rows (blocks t roles) roles in
      let length_is : roles * n * 4 ≡ length (blocks t roles) = ap (λ m. roles * m * 4) block_rows_lem ∙ (back ∙ sym length_tables) in
      rw (
        o.roles_kept,
        eq-eqb (roles * n * 4) (length (blocks t roles)) length_is,
        lt-ltb 0 n (omega (arith, block_rows_lem, o.some_row)),
        le-leb n lim.rows (omega (arith, block_rows_lem, o.few_rows)),
      )
      (every_all _ roles (λ r h. every_all _ n (λ i less. opened_rows r i h less)))
    where
      times : (m n len : ℕ) → n * 4 ≡ len → m * n * 4 ≡ m * len
      times m n len e = rw (← e) (omega arith)

      back : roles * rows_of t * 4 ≡ roles * length t
      back = times roles (rows_of t) (length t) o.whole

  pub opened_heads : (r : ℕ) → r < roles → Heads (view_of (blocks t roles) roles r) (head (blocks t roles) roles r)
  opened_heads r h = heads (blocks t roles) roles r h lim (λ x less. opened_rows r x h less)

  pub opened_encodes : (r : ℕ) (P : Part) → r < roles → part_of t r ≡ some P → Encodes (view_of (blocks t roles) roles r) 0 [] P
  opened_encodes r P h e = encodes (blocks t roles) roles r h (laid_of r P h e) (part_sound r P e) (omega (arith, part_fits r P e, block_rows_lem))
