-- What rules 6 and 7 say of a table that keeps them: links go to higher rows inside it, and each row but 0 has one row that names it.
-- Assumes nothing.
use Prim.Native.Nat.{ℕ, zero, suc, ◌+◌, ◌<◌}
use mathlib.Core.Bool.{Bool, true, false, not, ◌&&◌, ◌||◌}
use mathlib.Core.List.{List}
use mathlib.Core.Logic.{◌⊎◌, inl, inr, ⊎_elim}
use mathlib.Core.Path.{◌≡◌, refl}
use lib.Dec.{ltb, eqb}
use native.Mathlib.Omega.{arith}
use borrow.Author.Tests.{ltb-false, lt-ltb, le-ltb, eq-eqb, ne_eqb, ltb-true, eqb-true, eqb-false, not-true, not-false}
use Rattle.words.specs.Rows.{rows_of}
use Rattle.words.specs.Below.{one}
use Rattle.words.proofs.Below.{Lowest, found, nowhere, lowest_is, lowest_at, sum_zero, sum_two}
use Rattle.table.specs.Rows.{Row, End, Exchange, Arm, Loop, Back, Other, row, is_arm, links}
use Rattle.table.specs.Above.{times, times_named, namer}
use Rattle.table.specs.Rules.{to_arm, to_other, link_broken, named_broken}
use Rattle.table.specs.mirror.Names.{near_link, far_link, Rising}
use Rattle.table.proofs.Tests.{both, neither}

-- a link from row i to row j: upwards, inside, to an Arm or to no Arm
pub record Link (t : List ℕ) (arm : Bool) (i j : ℕ) : Type 0 where
  pub up : i < j
  pub inside : j < rows_of t
  pub is : is_arm (row t j) ≡ arm

to_arm_lem : (t : List ℕ) (i j : ℕ) → to_arm t i j ≡ true → Link t true i j
to_arm_lem t i j e =
    let (ab, c) = both (ltb i j && ltb j (rows_of t)) (is_arm (row t j)) e in
    let (a, b) = both (ltb i j) (ltb j (rows_of t)) ab in
    record { up = ltb-true i j a; inside = ltb-true j (rows_of t) b; is = c }

to_other_lem : (t : List ℕ) (i j : ℕ) → to_other t i j ≡ true → Link t false i j
to_other_lem t i j e =
    let (ab, c) = both (ltb i j && ltb j (rows_of t)) (not (is_arm (row t j))) e in
    let (a, b) = both (ltb i j) (ltb j (rows_of t)) ab in
    record { up = ltb-true i j a; inside = ltb-true j (rows_of t) b; is = not-true (is_arm (row t j)) c }

-- what rule 6 says of the links of each kind of row
pub exchange_link : (t : List ℕ) (i s r f : ℕ) → link_broken t i (Exchange s r f) ≡ false → Link t true i f
exchange_link t i s r f e = to_arm_lem t i f (not-false (to_arm t i f) e)

pub loop_link : (t : List ℕ) (i b x y : ℕ) → link_broken t i (Loop b x y) ≡ false → Link t false i b
loop_link t i b x y e = to_other_lem t i b (not-false (to_other t i b) e)

next_link : (t : List ℕ) (i n : ℕ) (b : Bool) → eqb n 0 ≡ b → (b || to_arm t i n) ≡ true → (n ≡ 0) ⊎ Link t true i n
next_link t i n true z e = inl (eqb-true n 0 z)
next_link t i n false z e = inr (to_arm_lem t i n e)

pub arm_link : (t : List ℕ) (i l c n : ℕ) → link_broken t i (Arm l c n) ≡ false
    → (0 < i) × Link t false i c × ((n ≡ 0) ⊎ Link t true i n)
arm_link t i l c n e =
    let (z, k) = neither (eqb i 0) (not (to_other t i c && (eqb n 0 || to_arm t i n))) e in
    let (o, a) = both (to_other t i c) (eqb n 0 || to_arm t i n) (not-false (to_other t i c && (eqb n 0 || to_arm t i n)) k) in
    let h = eqb-false i 0 z in
    (omega arith, to_other_lem t i c o, next_link t i n (eqb n 0) refl a)

-- ---- rule 7: the row that names a row

-- a row's links, as its near and its far link; 0 is none
pub times_links : (i : ℕ) → 0 < i → (r : Row) → times i (links r) ≡ one (eqb i (near_link r)) + one (eqb i (far_link r))
unfolding times
times_links i h (End a b c) = rw (ne_eqb i 0 (omega arith))
times_links i h (Exchange s r f) = rw (ne_eqb i 0 (omega arith))
times_links i h (Arm l c zero) = rw (ne_eqb i 0 (omega arith))
times_links i h (Arm l c (suc n)) = omega arith
times_links i h (Loop b x y) = rw (ne_eqb i 0 (omega arith))
times_links i h (Back d x y) = rw (ne_eqb i 0 (omega arith))
times_links i h Other = rw (ne_eqb i 0 (omega arith))

pub named_once : (t : List ℕ) (i : ℕ) → 0 < i → named_broken t i ≡ false → times_named t i ≡ 1
named_once t zero h e = absurd (omega arith)
named_once t (suc i) h e = eqb-true _ 1 (not-false (eqb (times_named t (suc i)) 1) (rw (ne_eqb (suc i) 0 (omega arith)) at e))

pub namer_is : (t : List ℕ) (i p : ℕ) → times_named t i ≡ 1 → p < rows_of t → 0 < times i (links (row t p)) → namer t i ≡ p
namer_is t i p e l h =
    lowest_at _ (rows_of t) p l
    (λ k m.
    let s = sum_two (λ q. times i (links (row t q))) (rows_of t) k p m l in
    le-ltb 0 (times i (links (row t k))) (omega arith))
    (lt-ltb 0 (times i (links (row t p))) h)

names : (t : List ℕ) (i : ℕ) {p : ℕ} → times_named t i ≡ 1 → Lowest (λ q. ltb 0 (times i (links (row t q)))) (rows_of t) p
    → (p < rows_of t) × (0 < times i (links (row t p)))
names t i e (found {i = p} l h b) = (l, ltb-true 0 (times i (links (row t p))) h)
names t i e (nowhere h) =
    let z = sum_zero (λ q. times i (links (row t q))) (rows_of t)
    (λ k l. let m = ltb-false 0 (times i (links (row t k))) (h k l) in omega arith) in
    absurd (omega arith)

pub namer_names : (t : List ℕ) (i : ℕ) → times_named t i ≡ 1 → (namer t i < rows_of t) × (0 < times i (links (row t (namer t i))))
namer_names t i e = names t i e (lowest_is _ (rows_of t))

-- a row's link names the row that it leads to
pub near_named : (t : List ℕ) (i j : ℕ) → 0 < j → near_link (row t i) ≡ j → 0 < times j (links (row t i))
near_named t i j h e = rw (times_links j h (row t i), e, eq-eqb j j refl) (omega arith)

pub far_named : (t : List ℕ) (i j : ℕ) → 0 < j → far_link (row t i) ≡ j → 0 < times j (links (row t i))
far_named t i j h e = rw (times_links j h (row t i), e, eq-eqb j j refl) (omega arith)

-- and only such a row is named
pub named_by : (i : ℕ) (r : Row) → 0 < i → 0 < times i (links r) → (i ≡ near_link r) ⊎ (i ≡ far_link r)
named_by i r h l = go (eqb i (near_link r)) refl (eqb i (far_link r)) refl (rw (times_links i h r) at l)
  where
    go : (a : Bool) → eqb i (near_link r) ≡ a → (b : Bool) → eqb i (far_link r) ≡ b → 0 < one a + one b → (i ≡ near_link r) ⊎ (i ≡ far_link r)
    go true e b f g = inl (eqb-true i (near_link r) e)
    go false e true f g = inr (eqb-true i (far_link r) f)
    go false e false f g = absurd (omega arith)

-- a link that rule 6 allows goes up, and stays inside
pub leads : (t : List ℕ) (p i : ℕ) (r : Row) → 0 < i → link_broken t p r ≡ false → (i ≡ near_link r) ⊎ (i ≡ far_link r)
    → (p < i) × (i < rows_of t)
leads t p i (End a b c) h e (inl q) = absurd (omega arith)
leads t p i (End a b c) h e (inr q) = absurd (omega arith)
leads t p i (Exchange s r f) h e (inl q) = let k = exchange_link t p s r f e in rw q (k.up, k.inside)
leads t p i (Exchange s r f) h e (inr q) = absurd (omega arith)
leads t p i (Arm l c n) h e (inl q) = let k = (arm_link t p l c n e).1 in rw q (k.up, k.inside)
leads t p i (Arm l c n) h e (inr q) =
    ⊎_elim (λ z. absurd (omega arith)) (λ k. rw q (k.up, k.inside)) (arm_link t p l c n e).2
leads t p i (Loop b x y) h e (inl q) = let k = loop_link t p b x y e in rw q (k.up, k.inside)
leads t p i (Loop b x y) h e (inr q) = absurd (omega arith)
leads t p i (Back d x y) h e (inl q) = absurd (omega arith)
leads t p i (Back d x y) h e (inr q) = absurd (omega arith)
leads t p i Other h e (inl q) = absurd (omega arith)
leads t p i Other h e (inr q) = absurd (omega arith)

-- so each row but 0 is named by a lower one, where both rules are kept
pub rising : (t : List ℕ) → ((i : ℕ) → i < rows_of t → link_broken t i (row t i) ≡ false) → ((i : ℕ) → i < rows_of t → named_broken t i ≡ false) → Rising t
rising t link once i h l =
    let (p, n) = namer_names t i (named_once t i h (once i l)) in
    (leads t (namer t i) i (row t (namer t i)) h (link (namer t i) p) (named_by i (row t (namer t i)) h n)).0
