-- The blocks written so far, before the rest of the room: one block more. Assumes nothing.
use Prim.Native.Nat.{ℕ, zero, suc, ◌+◌, ◌*◌, ◌≤◌, ◌<◌}
use mathlib.Core.Bool.{true, true≢false}
use mathlib.Core.List.{List, [], ◌++◌, append_assoc, append-nil}
use mathlib.Core.Logic.{⊎_elim}
use mathlib.Core.Option.{Option, none, some}
use mathlib.Core.Path.{◌≡◌, refl, sym, ◌∙◌, ap, subst}
use native.Mathlib.Nat.{zero-mul, one-mul, add-mul, suc-mul, mul-le-mul, mul-le-mul_right, mul_assoc, eq-or-lt_of_le, le_of_suc-le-suc}
use native.Mathlib.Numerals.{add-one}
use native.Mathlib.Omega.{arith}
use lib.ListN.{length, take, drop, length-append, length-drop}
use lib.Seq.{sets, sets-eq, take_at, drop-append-add, drop-drop, length-take-le}
use Rattle.words.specs.Rows.{rows_of}
use Rattle.table.specs.Limits.{base}
use Rattle.table.specs.Tree.{tree_of}
use Rattle.table.proofs.Sizes.{measured}
use Rattle.table.proofs.Accepted.{obeys}
use Rattle.table.proofs.Weight.{tree_rows}
use Rattle.parts.specs.Part.{Part}
use Rattle.parts.specs.Layout.{size, block, block_of}
use Rattle.parts.specs.Projection.{part_of, present}
use Rattle.parts.specs.mirror.Codes.{codes}
use Rattle.parts.specs.mirror.Stands.{Stands}
use Rattle.parts.proofs.Laws.{part_size}
use Rattle.parts.proofs.Lengths.{length_block}
use Rattle.parts.proofs.Rising.{holds_some}
use Rattle.parts.proofs.Sizes.{words_twice}
use Rattle.parts.proofs.Words.{stands_front, stands_back}
use Rattle.projection.specs.mirror.Projects.{words_of, parts_words, Complete}
use Rattle.layout.specs.mirror.Lay.{lay_out, Spacious}
use Rattle.layout.proofs.Written.{block_is}
use Rattle.opening.specs.Opening.{blocks}

-- the room after k blocks
pub record Filled (t room₀ : List ℕ) (k : ℕ) (room : List ℕ) : Type 0 where
  pub holds : room ≡ blocks t k ++ drop (k * length t) room₀
  pub blocks_long : length (blocks t k) ≡ k * length t

pub filled_none : (t room : List ℕ) → Filled t room 0 room
unfolding blocks
filled_none t room = record { holds = rw zero-mul; blocks_long = rw zero-mul }

-- k + 1 blocks have n words more than k
more_words : (k n : ℕ) → (k + 1) * n ≡ k * n + n
more_words k n = rw (add-mul, one-mul)

module _ (t room₀ room next : List ℕ) (k : ℕ) (f : Filled t room₀ k room) (fits : k * length t + length t ≤ length room)
    (e : next ≡ take (k * length t) room ++ block_of t (part_of t k) ++ drop (k * length t + length t) room) (same : length next ≡ length room) where
  before : take (k * length t) room ≡ blocks t k
  before = rw f.holds (take_at (blocks t k) (drop (k * length t) room₀) (k * length t) f.blocks_long)

  behind : drop (k * length t + length t) room ≡ drop ((k + 1) * length t) room₀
  behind =
      rw (f.holds, more_words k (length t))
      (ap (λ (m : ℕ). drop (m + length t) (blocks t k ++ drop (k * length t) room₀)) (sym f.blocks_long)
      ∙ (drop-append-add (blocks t k) (drop (k * length t) room₀) (length t) ∙ drop-drop (length t) (k * length t) room₀))

  block_long : length (block_of t (part_of t k)) ≡ length t
  block_long =
      let a : length next ≡ length (take (k * length t) room ++ block_of t (part_of t k)) + length (drop (k * length t + length t) room) =
      rw e (length-append (take (k * length t) room ++ block_of t (part_of t k)) (drop (k * length t + length t) room)) in
      let b = length-append (take (k * length t) room) (block_of t (part_of t k)) in
      omega (arith, a, b, same, length-take-le (k * length t) room (omega arith), length-drop (k * length t + length t) room)

  pub filled_more : Filled t room₀ (k + 1) next
  unfolding blocks
  filled_more = record {
    holds = rw (e, before, behind, add-one k);
    blocks_long =
        rw (add-one k)
        (length-append (blocks t k) (block_of t (part_of t k)) ∙ (rw (f.blocks_long, block_long) (sym (suc-mul k (length t)))));
  }

-- ---- the words of the parts

-- those of a role below n, between those before it and those behind it
parts_split : (t : List ℕ) (k n : ℕ) → k < n → (rest : List ℕ) × (parts_words t n ≡ parts_words t k ++ words_of (part_of t k) ++ rest)
unfolding parts_words
parts_split t k zero l = absurd (omega arith)
parts_split t k (suc n) l = ⊎_elim (λ e. ([], rw e (sym (append-nil _)))) (λ m. later (parts_split t k n m)) (eq-or-lt_of_le (le_of_suc-le-suc l))
  where
    later : (rest : List ℕ) × (parts_words t n ≡ parts_words t k ++ words_of (part_of t k) ++ rest)
        → (rest : List ℕ) × (parts_words t n ++ words_of (part_of t n) ≡ parts_words t k ++ words_of (part_of t k) ++ rest)
    later (rest, e) = (rest ++ words_of (part_of t n), rw e (append_assoc (parts_words t k ++ words_of (part_of t k)) rest (words_of (part_of t n))))

-- the block of a role below `roles` ends inside the blocks of all
pub block_inside : (roles k n : ℕ) → k < roles → k * n + n ≤ roles * n
block_inside roles k n l = rw (← suc-mul k n) (mul-le-mul_right n l)

-- ---- one part more

-- the first row of a block is a small number
pub first_row : {t words : List ℕ} {roles k : ℕ} → Complete t roles words → k < roles → k * rows_of t ≤ base.roles * base.rows
first_row {t} {roles = roles} {k = k} complete l =
    let m = measured base t roles (obeys base t roles complete.checked).sizes in
    let low : k ≤ base.roles = omega (arith, m.most) in
    let h : k * rows_of t ≤ base.roles * base.rows = mul-le-mul low m.few in
    omega arith

-- so far: the blocks, and the place behind the words of the parts that are laid out
pub record Laid (t room₀ room : List ℕ) (k code : ℕ) : Type 0 where
  pub filled : Filled t room₀ k room
  pub upto : code ≡ length (parts_words t k)
  pub low : code ≤ k * (rows_of t * 2)

pub laid_none : (t room : List ℕ) → Laid t room room 0 0
unfolding parts_words
laid_none t room = record { filled = filled_none t room; upto = refl; low = omega arith }

module _ {t room₀ words room : List ℕ} (loops : List ℕ) {next : List ℕ} {roles k code code' : ℕ} (complete : Complete t roles words) (fits : roles * length t ≤ length room₀) (l : k < roles)
    (same : length room ≡ length room₀) (many : length loops ≡ base.rows) (laid : Laid t room₀ room k code)
    (ends : code' ≡ (lay_out words code room (k * rows_of t) (rows_of t) loops).res.code) (leaves : next ≡ (lay_out words code room (k * rows_of t) (rows_of t) loops).out) where
  -- the sizes that the check leaves
  few : rows_of t ≤ base.rows
  few = (measured base t roles (obeys base t roles complete.checked).sizes).few

  most : roles ≤ base.roles
  most = (measured base t roles (obeys base t roles complete.checked).sizes).most

  whole : length t ≡ rows_of t * 4
  whole = (measured base t roles (obeys base t roles complete.checked).sizes).whole

  start : k * rows_of t * 4 ≡ k * length t
  start = mul_assoc k (rows_of t) 4 ∙ ap (λ (n : ℕ). k * n) (sym whole)

  inside : k * length t + length t ≤ length room
  inside = omega (arith, block_inside roles k (length t) l, fits)

  -- the part's words are there, and the block has room for its rows
  module _ (P : Part) (e : part_of t k ≡ some P) where
    stands : Stands words code (codes P)
    stands =
        let (rest, split) = parts_split t k roles l in
        stands_back words 0 code (parts_words t k) (codes P) (omega (arith, laid.upto))
        (stands_front words 0 (parts_words t k ++ codes P) rest
        (subst (λ (ws : List ℕ). Stands words 0 ws) (split ∙ ap (λ (o : Option Part). parts_words t k ++ words_of o ++ rest) e) complete.stand))

    rows : size P ≤ rows_of t
    unfolding part_of
    rows = omega (arith, holds_some (part_size {A = ℕ} k (tree_of t)) e, tree_rows ℕ base t roles complete.checked)

    can_lay : Spacious P words code room (k * rows_of t) (rows_of t) loops
    can_lay =
        let low : k ≤ base.roles = omega (arith, most) in
        let twice : rows_of t * 2 ≤ base.rows * 2 = omega (arith, few) in
        let k_few = first_row complete l in
        let k_words : k * (rows_of t * 2) ≤ base.roles * (base.rows * 2) = mul-le-mul low twice in
        record {
          stands = stands;
          rows_fit = rows;
          loops_fit = omega (arith, few);
          block_fits = omega (arith, start, inside, whole);
          codes_small = omega (arith, few, laid.low);
          rows_small = omega (arith, few);
        }

    laid_block : (next ≡ sets room (k * rows_of t * 4) (block (rows_of t * 4) P)) × (code' ≡ code + length (codes P))
    laid_block = let b = block_is P words code room (k * rows_of t) (rows_of t) loops can_lay in (leaves ∙ b.0, ends ∙ b.1)

    block_there : next ≡ take (k * length t) room ++ block_of t (part_of t k) ++ drop (k * length t + length t) room
    unfolding block_of
    block_there =
        let n = length_block (length t) P (omega (arith, rows, whole)) in
        laid_block.0 ∙ rw (e, start, sym whole) (sets-eq (block (length t) P) room (k * length t) (omega (arith, inside)) ∙ rw n)

    one_more : length next ≡ length room → Laid t room₀ next (k + 1) code'
    unfolding parts_words
    one_more long = record {
      filled = filled_more t room₀ room next k laid.filled inside block_there long;
      upto = laid_block.1 ∙ rw (add-one k, e) (rw laid.upto (sym (length-append (parts_words t k) (codes P))));
      low = omega (arith, laid_block.1, laid.low, words_twice P, rows, suc-mul k (rows_of t * 2));
    }

  pub laid_more : length next ≡ length room → Laid t room₀ next (k + 1) code'
  laid_more long = go (part_of t k) refl (complete.parts k l)
    where
      go : (o : Option Part) → part_of t k ≡ o → present o ≡ true → Laid t room₀ next (k + 1) code'
      go none e f = absurd (true≢false (sym f))
      go (some P) e f = one_more P e long
