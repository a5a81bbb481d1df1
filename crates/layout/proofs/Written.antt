-- The writing of a part's codes leaves exactly the part's layout. Assumes nothing.
use Prim.Native.Nat.{ℕ, zero, suc, ◌+◌, ◌*◌, ◌-◌, ◌<◌, ◌≤◌}
use mathlib.Core.Bool.{Bool, true, false}
use mathlib.Core.List.{List, [], ◌∷◌, ◌++◌}
use mathlib.Core.Path.{◌≡◌, refl, sym, ◌∙◌, ap}
use native.Mathlib.Omega.{arith}
use native.Mathlib.Numerals.{add-one}
use lib.Dec.{ltb}
use lib.ListN.{get_or, length, set, replicate, length-append, length-set, length-replicate, replicate-append-replicate, get_or-eq_default}
use lib.Seq.{sets, length-sets, get_or-set_same, get_or-set_other}
use borrow.Author.Tests.{le-ltb, le-leb, ltb-true, ltb-false}
use Rattle.words.specs.Rows.{put_row}
use Rattle.parts.specs.Part.{Part, p_end, p_send, p_receive, p_loop, p_back, PartArms, p_nil, p_arm}
use Rattle.parts.specs.Layout.{size, size_arms, four, next_arm, layout, layout_arms, block}
use Rattle.parts.specs.mirror.Codes.{code, codes, codes_arms}
use Rattle.parts.specs.mirror.Stands.{Stands}
use Rattle.std.specs.Prelude.{unwrap_or}
use Rattle.parts.specs.declared.Code.TheVariants.{End, Mark, Arm, Loop, Back, Send, Receive}
use Rattle.parts.specs.mirror.Kinds.{kind_with, code_of}
use Rattle.parts.proofs.Read.{code_is}
use Rattle.layout.specs.mirror.Lay.{LIMIT, put_action, InRange, step_at, loop_row, next_row, Lay, run_s, end_s, clear_s, lay_out, Spacious}
use Rattle.layout.proofs.Lays.{run_at, step_in}
use Rattle.layout.proofs.Stores.{row_is, length_row, row_then, row_kept, row_again}
use Rattle.parts.proofs.Lengths.{length_layout, size_pos}
use Rattle.parts.proofs.Sizes.{words_twice}
use Rattle.parts.proofs.Words.{sets_append, stands_front, stands_back}

-- ---- the rows of the Loops around, outermost first in the list that is lent, nearest first in the definition

record Around (loops : List ℕ) (depth : ℕ) (around : List ℕ) : Type 0 where
  pub many : length around ≡ depth
  pub each : (k : ℕ) → k < depth → get_or around k 0 ≡ get_or loops (depth - 1 - k) 0

around_back : (loops : List ℕ) (depth : ℕ) (around : List ℕ) (k : ℕ) → Around loops depth around → unwrap_or (loop_row k loops depth) 0 ≡ get_or around k 0
around_back loops depth around k h = go (ltb k depth) refl
  where
    go : (b : Bool) → ltb k depth ≡ b → unwrap_or (loop_row k loops depth) 0 ≡ get_or around k 0
    go true e = rw e (sym (h.each k (ltb-true k depth e)))
    go false e = rw e (sym (get_or-eq_default around 0 (omega (arith, ltb-false k depth e, h.many))))

around_kept : (loops loops' : List ℕ) (depth : ℕ) (around : List ℕ) → Around loops depth around → ((k : ℕ) → k < depth → get_or loops' k 0 ≡ get_or loops k 0)
    → Around loops' depth around
around_kept loops loops' depth around h e = record { many = h.many; each = λ k l. h.each k l ∙ sym (e (depth - 1 - k) (omega arith)) }

around_loop : (loops : List ℕ) (depth : ℕ) (around : List ℕ) (row : ℕ) → depth < length loops → Around loops depth around
    → Around (set loops depth row) (depth + 1) (row ∷ around)
around_loop loops depth around row h a = record { many = omega (arith, a.many); each = go }
  where
    go : (k : ℕ) → k < depth + 1 → get_or (row ∷ around) k 0 ≡ get_or (set loops depth row) (depth + 1 - 1 - k) 0
    go zero l = let e : depth + 1 - 1 - 0 ≡ depth = omega arith in rw e (sym (get_or-set_same loops depth row 0 h))
    go (suc k) l =
        let e : depth + 1 - 1 - suc k ≡ depth - 1 - k = omega arith in
        rw e (a.each k (omega arith) ∙ sym (get_or-set_other loops depth (depth - 1 - k) row 0 (λ z. omega arith)))

-- ---- one code

-- the code of a word of a part
code_there : (n : ℕ) (s : List ℕ) (i from row depth k x : ℕ) → k < 8 → get_or s i 0 ≡ code k x → InRange n i from row depth → kind_with k x ≡ step_at n s i from row depth
code_there n s i from row depth k x h e w =
    sym (code_is k x h) ∙ ap code_of (sym e) ∙ step_in n s i from row depth (get_or s i 0) w refl

-- the next arm, from the code behind the continuation
next_is : (ps : PartArms) (s : List ℕ) (i row : ℕ) → row ≤ LIMIT → Stands s i (codes_arms ps) → unwrap_or (next_row s i row) 0 ≡ next_arm row ps
unfolding codes next_arm
next_is p_nil s i row h w = rw (le-leb row LIMIT h, w.0)
next_is (p_arm l P ps) s i row h w = rw (le-leb row LIMIT h, w.0, code_is 2 l (omega arith))

-- ---- a part, or the arms of an action, of c codes and z rows

module _ (s : List ℕ) (from : ℕ) where
  -- the slices and the numbers have room, and behind the codes n' turns are left
  record Fit (n n' i : ℕ) (out : List ℕ) (row : ℕ) (loops : List ℕ) (depth c z : ℕ) : Type 0 where
    pub turns : n ≡ c + n'
    pub codes_in : i + c ≤ LIMIT
    pub from_in : from ≤ LIMIT
    pub rows_in : row + z < LIMIT
    pub depth_in : depth + z < LIMIT
    pub words_in : (from + row + z) * 4 ≤ length out
    pub loops_in : depth + z ≤ length loops

  -- the turns m come to the end of a part with these words, and the rows of the Loops around it are kept
  record Wrote (n i : ℕ) (out : List ℕ) (row : ℕ) (loops : List ℕ) (depth wait : ℕ) (m : Lay) : Type 0 where
    pub lent : List ℕ
    pub ended : m ≡ end_s n s from i out row lent wait
    pub kept : (k : ℕ) → k < depth → get_or lent k 0 ≡ get_or loops k 0
    pub long : length lent ≡ length loops

  abbrev Writes : List ℕ → ℕ → (ℕ → List ℕ → List ℕ) → Type 0
  Writes cs z rows = (n n' i : ℕ) (out : List ℕ) (row : ℕ) (loops : List ℕ) (depth wait : ℕ) (around : List ℕ) (i' row' : ℕ) → Stands s i cs
      → Fit n n' i out row loops depth (length cs) z → Around loops depth around → i' ≡ i + length cs → row' ≡ row + z
      → Wrote n' i' (sets out ((from + row) * 4) (rows row around)) row' loops depth wait (run_s n s from i out row loops depth wait)

  -- a part that ends with this code
  leaf : (n n' i i' r row' depth wait : ℕ) (o ws loops : List ℕ) → n ≡ 1 + n' → i' ≡ i + 1 → row' ≡ r → o ≡ ws
      → Wrote n' i' ws row' loops depth wait (end_s (n - 1) s from (i + 1) o r loops wait)
  leaf n n' i i' r row' depth wait o ws loops en ei er eo =
      let less : n - 1 ≡ n' = omega arith in
      record { lent = loops; ended = rw (less, ei, er, eo); kept = λ k l. refl; long = refl }

  -- the same turns with other names for the words, and fewer Loops looked at
  after : (n i row d depth wait : ℕ) (o o' mid loops : List ℕ) (m : Lay) → depth ≤ d → o ≡ o'
      → ((k : ℕ) → k < depth → get_or mid k 0 ≡ get_or loops k 0) → length mid ≡ length loops → Wrote n i o row mid d wait m
      → Wrote n i o' row loops depth wait m
  after n i row d depth wait o o' mid loops m h e same long w = record {
    lent = w.lent;
    ended = rw (← e) w.ended;
    kept = λ k l. w.kept k (omega arith) ∙ same k l;
    long = w.long ∙ long;
  }

  -- a row, and what the turns after it write
  headed : (n i row row' a b c d depth wait : ℕ) (out ws loops : List ℕ) (m : Lay) → (from + row + 1) * 4 ≤ length out
      → Wrote n i (sets (put_row out (from + row) a b c d) ((from + suc row) * 4) ws) row' loops depth wait m
      → Wrote n i (sets out ((from + row) * 4) (four a b c d ++ ws)) row' loops depth wait m
  headed n i row row' a b c d depth wait out ws loops m h w =
      after n i row' depth depth wait _ _ loops loops m (omega arith)
      (row_then out (from + row) a b c d ((from + suc row) * 4) ws (omega arith) (omega arith)) (λ k l. refl) refl w

  -- a Send or a Receive, from its arms; k is its kind
  acted : (k q : ℕ) (ps : PartArms)
      → ((n i : ℕ) (out : List ℕ) (row : ℕ) (loops : List ℕ) (depth wait : ℕ) → get_or s i 0 ≡ code k q → InRange n i from row depth
      → run_s n s from i out row loops depth wait ≡ run_s (n - 1) s from (i + 1) (put_action k q out from row) (row + 1) loops depth wait)
      → Writes (codes_arms ps) (size_arms ps) (λ row around. layout_arms row around ps)
      → Writes (code k q ∷ codes_arms ps) (suc (size_arms ps)) (λ row around. four k q (suc row) 0 ++ layout_arms (suc row) around ps)
  acted k q ps run arms n n' i out row loops depth wait around i' row' h f a ei er =
      rw
      (run n i out row loops depth wait h.0 (omega arith), add-one row, add-one i)
      (headed n' i' row row' k q (suc row) 0 depth wait out (layout_arms (suc row) around ps) loops _ (omega arith)
      (arms (n - 1) n' (suc i) (put_row out (from + row) k q (suc row) 0) (suc row) loops depth wait around i' row' h.1
      (omega (arith, length_row out (from + row) k q (suc row) 0 (omega arith))) a (omega arith) (omega arith)))

  -- the row of an arm, before and after its continuation vs is written
  abbrev opened : ℕ → ℕ → ℕ → ℕ → List ℕ → List ℕ → List ℕ
  opened row l depth wait vs out = sets (put_row out (from + row) 2 l depth wait) ((from + suc row) * 4) vs

  abbrev linked : ℕ → ℕ → ℕ → ℕ → ℕ → List ℕ → List ℕ → List ℕ
  linked row l depth wait next vs out = put_row (opened row l depth wait vs out) (from + row) 2 l (suc row) next

  length_linked : (row l depth wait next : ℕ) (out vs : List ℕ) → (from + row + 1) * 4 ≤ length out → length (linked row l depth wait next vs out) ≡ length out
  length_linked row l depth wait next out vs h =
      let first = length_row out (from + row) 2 l depth wait (omega arith) in
      let then = length-sets (put_row out (from + row) 2 l depth wait) ((from + suc row) * 4) vs in
      length_row (opened row l depth wait vs out) (from + row) 2 l (suc row) next (omega arith) ∙ then ∙ first

  -- the end of an arm's continuation gives the arm its links and goes on with what its row kept
  resumed : (n i row r l depth wait next : ℕ) (out vs loops : List ℕ) → unwrap_or (next_row s i r) 0 ≡ next → (from + row + 1) * 4 + length vs ≤ length out
      → end_s n s from i (opened row l depth wait vs out) r loops (suc row) ≡ run_s n s from i (linked row l depth wait next vs out) r loops depth wait
  resumed n i row r l depth wait next out vs loops en h =
      let held = row_kept out (from + row) 2 l depth wait ((from + suc row) * 4) vs (omega arith) (omega arith) in
      rw (held.0, held.1, held.2, en)

  -- an arm and its continuation, and what the turns after them write
  closed : (n i r n' i' row row' l depth wait next k : ℕ) (out vs ws loops : List ℕ) (m : Lay) → unwrap_or (next_row s i r) 0 ≡ next
      → (from + row + 1) * 4 + length vs ≤ length out → k ≡ (from + suc row) * 4 + length vs
      → (mid : Wrote n i (opened row l depth wait vs out) r loops depth (suc row) m)
      → Wrote n' i' (sets (linked row l depth wait next vs out) k ws) row' mid.lent depth wait (run_s n s from i (linked row l depth wait next vs out) r mid.lent depth wait)
      → Wrote n' i' (sets out ((from + row) * 4) (four 2 l (suc row) next ++ vs ++ ws)) row' loops depth wait m
  closed n i r n' i' row row' l depth wait next k out vs ws loops m en h ek mid rest =
      rw (mid.ended, resumed n i row r l depth wait next out vs mid.lent en h)
      (after n' i' row' depth depth wait _ _ mid.lent loops _ (omega arith)
      (row_again out (from + row) 2 l depth wait 2 l (suc row) next ((from + suc row) * 4) k vs ws (omega arith) (omega arith) ek)
      mid.kept mid.long rest)

  -- an arm, from its continuation and the arms after it
  armed : (l : ℕ) (P : Part) (ps : PartArms) → Writes (codes P) (size P) (λ row around. layout row around P)
      → Writes (codes_arms ps) (size_arms ps) (λ row around. layout_arms row around ps)
      → Writes (code 2 l ∷ codes P ++ codes_arms ps) (suc (size P + size_arms ps))
      (λ row around. four 2 l (suc row) (next_arm (suc row + size P) ps) ++ layout (suc row) around P ++ layout_arms (suc row + size P) around ps)
  armed l P ps part arms n n' i out row loops depth wait around i' row' h f a ei er =
      let both = length-append (codes P) (codes_arms ps) in
      let vs = layout (suc row) around P in
      let long = length_layout P (suc row) around in
      let next = next_arm (suc row + size P) ps in
      let rest = stands_back s (suc i) (suc i + length (codes P)) (codes P) (codes_arms ps) refl h.1 in
      let mid = part (n - 1) (length (codes_arms ps) + n') (suc i) (put_row out (from + row) 2 l depth wait) (suc row) loops depth (suc row) around (suc i + length (codes P)) (suc row + size P)
      (stands_front s (suc i) (codes P) (codes_arms ps) h.1) (omega (arith, length_row out (from + row) 2 l depth wait (omega arith))) a refl refl in
      rw
      (run_at n s from i out row loops depth wait (Arm l) (code_there n s i from row depth 2 l (omega arith) h.0 (omega arith)), add-one row, add-one i)
      (closed (length (codes_arms ps) + n') (suc i + length (codes P)) (suc row + size P) n' i' row row' l depth wait next ((from + (suc row + size P)) * 4)
      out vs (layout_arms (suc row + size P) around ps) loops _ (next_is ps s (suc i + length (codes P)) (suc row + size P) (omega arith) rest)
      (omega arith) (omega arith) mid
      (arms (length (codes_arms ps) + n') n' (suc i + length (codes P)) (linked row l depth wait next vs out) (suc row + size P) mid.lent depth wait around i' row' rest
      (omega (arith, size_pos P, mid.long, length_linked row l depth wait next out vs (omega arith)))
      (around_kept loops mid.lent depth around a mid.kept) (omega arith) (omega arith)))

  mutual
    unfolding size next_arm layout codes

    writes : (P : Part) → Writes (codes P) (size P) (λ row around. layout row around P)
    writes p_end n n' i out row loops depth wait around i' row' h f a ei er =
        rw (run_at n s from i out row loops depth wait End (code_there n s i from row depth 0 0 (omega arith) h.0 (omega arith)))
        (leaf n n' i i' (row + 1) row' depth wait _ _ loops (omega arith) ei er (row_is out (from + row) 0 0 0 0 (omega arith)))
    writes (p_back k) n n' i out row loops depth wait around i' row' h f a ei er =
        rw
        (run_at n s from i out row loops depth wait (Back k) (code_there n s i from row depth 4 k (omega arith) h.0 (omega arith)), around_back loops depth around k a)
        (leaf n n' i i' (row + 1) row' depth wait _ _ loops (omega arith) ei er (row_is out (from + row) 4 (get_or around k 0) 0 0 (omega arith)))
    writes (p_send q ps) n n' i out row loops depth wait around i' row' h f a ei er =
        acted 5 q ps (λ m j o r l d x e w. run_at m s from j o r l d x (Send q) (code_there m s j from r d 5 q (omega arith) e w))
        (λ m m' j o r l d x v j' r' t u w y z. writes_arms ps m m' j o r l d x v j' r' t u w y z)
        n n' i out row loops depth wait around i' row' h f a ei er
    writes (p_receive q ps) n n' i out row loops depth wait around i' row' h f a ei er =
        acted 6 q ps (λ m j o r l d x e w. run_at m s from j o r l d x (Receive q) (code_there m s j from r d 6 q (omega arith) e w))
        (λ m m' j o r l d x v j' r' t u w y z. writes_arms ps m m' j o r l d x v j' r' t u w y z)
        n n' i out row loops depth wait around i' row' h f a ei er
    writes (p_loop P) n n' i out row loops depth wait around i' row' h f a ei er =
        rw (run_at n s from i out row loops depth wait Loop (code_there n s i from row depth 3 0 (omega arith) h.0 (omega arith)), add-one row, add-one i)
        (headed n' i' row row' 3 (suc row) 0 0 depth wait out (layout (suc row) (row ∷ around) P) loops _ (omega arith)
        (after n' i' row' (depth + 1) depth wait _ _ (set loops depth row) loops _ (omega arith) refl
        (λ j l. get_or-set_other loops depth j row 0 (λ z. omega arith)) (length-set loops depth row)
        (writes P (n - 1) n' (suc i) (put_row out (from + row) 3 (suc row) 0 0) (suc row) (set loops depth row) (depth + 1) wait (row ∷ around) i' row' h.1
        (omega (arith, length_row out (from + row) 3 (suc row) 0 0 (omega arith), length-set loops depth row))
        (around_loop loops depth around row (omega (arith, size_pos P)) a) (omega arith) (omega arith))))

    writes_arms : (ps : PartArms) → Writes (codes_arms ps) (size_arms ps) (λ row around. layout_arms row around ps)
    writes_arms p_nil n n' i out row loops depth wait around i' row' h f a ei er =
        rw (run_at n s from i out row loops depth wait Mark (code_there n s i from row depth 1 0 (omega arith) h.0 (omega arith)))
        (leaf n n' i i' row row' depth wait _ _ loops (omega arith) ei (omega arith) refl)
    writes_arms (p_arm l P ps) n n' i out row loops depth wait around i' row' h f a ei er =
        armed l P ps (λ m m' j o r k d x v j' r' t u w y z. writes P m m' j o r k d x v j' r' t u w y z)
        (λ m m' j o r k d x v j' r' t u w y z. writes_arms ps m m' j o r k d x v j' r' t u w y z) n n' i out row loops depth wait around i' row' h f a ei er

-- ---- the block

zeros_more : (n : ℕ) → replicate n 0 ++ four 0 0 0 0 ≡ replicate (n + 4) 0
zeros_more n = replicate-append-replicate n 4 0

clear_is : (out : List ℕ) (first n : ℕ) → (first + n) * 4 ≤ length out → clear_s out first n ≡ sets out (first * 4) (replicate (n * 4) 0)
unfolding clear_s
clear_is out first zero h = refl
clear_is out first (suc n) h =
    let zs = replicate {A = ℕ} (n * 4) 0 in
    let e : suc n * 4 ≡ n * 4 + 4 = omega arith in
    rw
    (clear_is out first n (omega arith), row_is (sets out (first * 4) zs) (first + n) 0 0 0 0 (omega (arith, length-sets out (first * 4) zs)), sets_append out (first * 4) ((first + n) * 4) zs (four 0 0 0 0) (omega (arith, length-replicate {A = ℕ} (n * 4) 0)), e, zeros_more (n * 4))

-- the rows of a part, then zeros; and the place behind its codes
pub block_is : (P : Part) (s : List ℕ) (i : ℕ) (out : List ℕ) (from rows : ℕ) (loops : List ℕ) → Spacious P s i out from rows loops
    → ((lay_out s i out from rows loops).out ≡ sets out (from * 4) (block (rows * 4) P)) × ((lay_out s i out from rows loops).res.code ≡ i + length (codes P))
unfolding block lay_out
block_is P s i out from rows loops w =
    let ws = layout 0 [] P in
    let long = length_layout P 0 [] in
    let none : Around loops 0 [] = record { many = refl; each = λ k z. absurd (omega arith) } in
    let m = writes s from P LIMIT (LIMIT - length (codes P)) i out 0 loops 0 0 [] (i + length (codes P)) (size P) w.stands (omega (arith, words_twice P)) none refl
    (omega arith) in
    let start : (from + 0) * 4 ≡ from * 4 = omega arith in
    let zs : (rows - size P) * 4 ≡ rows * 4 - length ws = omega arith in
    rw (
      le-ltb LIMIT from (omega (arith, w.rows_small)),
      le-ltb LIMIT rows (omega (arith, w.rows_small)),
      m.ended,
      start,
      clear_is (sets out (from * 4) ws) (from + size P) (rows - size P) (omega (arith, length-sets out (from * 4) ws)),
      zs,
      sets_append out (from * 4) ((from + size P) * 4) ws (replicate (rows * 4 - length ws) 0) (omega arith),
    )
    (refl, refl)
