-- The tree of a table that the check accepts has at most as many rows as the table: the rows below two links of one row are apart, since each
-- row has one row that names it. Assumes nothing.
use Prim.Native.Nat.{ℕ, zero, suc, ◌+◌, ◌≤◌, ◌<◌}
use mathlib.Core.Bool.{Bool, true, false, ◌||◌, true≢false, or-true, or-false}
use mathlib.Core.List.{List, [], ◌∷◌}
use mathlib.Core.Logic.{◌≢◌, ◌⊎◌, ⊎_elim}
use mathlib.Core.Path.{◌≡◌, refl, sym, ◌∙◌, ap}
use lib.Dec.{eqb}
use native.Mathlib.Omega.{arith}
use borrow.Author.Tests.{eq-eqb, eqb-true}
use Rattle.words.specs.Rows.{rows_of}
use Rattle.words.specs.Below.{one, sum, how_many}
use Rattle.words.proofs.Below.{sum_at, sum_le, sum_add, sum_most}
use Rattle.table.specs.Limits.{Limits}
use Rattle.table.specs.Rows.{row, is_arm}
use Rattle.table.specs.Above.{namer, above}
use Rattle.table.specs.Check.{accepted, check_of}
use Rattle.table.specs.Tree.{tree_of, rows_in, rows_in_arms}
use Rattle.table.specs.mirror.Names.{near_link, far_link}
use Rattle.table.proofs.Tests.{either}
use Rattle.table.proofs.Accepted.{Obeys, obeys}
use Rattle.table.proofs.Grown.{Cases, tree_of_lem, namer_below, namer_near, namer_far}
use Rattle.table.proofs.Walk.{over_zero, above_more}

-- i is one of these rows
among : ℕ → List ℕ → Bool
among i [] = false
among i (p ∷ ps) = eqb i p || among i ps

-- row p is row i or below it
below : List ℕ → ℕ → ℕ → Bool
unfolding among
below t i p = among i (p ∷ above t p)

-- how many rows are row i or below it
weight : List ℕ → ℕ → ℕ
weight t i = how_many (below t i) (rows_of t)

one_most : (b : Bool) → one b ≤ 1
one_most true = omega arith
one_most false = omega arith

module _ (lim : Limits) (t : List ℕ) (roles : ℕ) (o : Obeys lim t roles) where
  below_zero : (i : ℕ) → below t i 0 ≡ eqb i 0
  unfolding below
  below_zero i = rw (over_zero (rows_of t) t) (or-false (eqb i 0))

  below_more : (i p : ℕ) → 0 < p → p < rows_of t → below t i p ≡ (eqb i p || below t i (namer t p))
  unfolding below
  below_more i p h l = rw (above_more t (namer_below lim t roles o) p h l)

  below_same : (p : ℕ) → below t p p ≡ true
  unfolding below
  below_same p = rw (eq-eqb p p refl)

  -- by the row that names p: m bounds p
  below_le : (m i p : ℕ) → p < m → p < rows_of t → below t i p ≡ true → i ≤ p
  below_le zero i p h l e = absurd (omega arith)
  below_le (suc m) i zero h l e = let q = eqb-true i 0 (sym (below_zero i) ∙ e) in omega arith
  below_le (suc m) i (suc p) h l e =
      let u = namer_below lim t roles o (suc p) (omega arith) l in
      ⊎_elim
      (λ q. let r = eqb-true i (suc p) q in omega arith)
      (λ q. let r = below_le m i (namer t (suc p)) (omega arith) (omega arith) q in omega arith)
      (either (eqb i (suc p)) (below t i (namer t (suc p))) (sym (below_more i (suc p) (omega arith) l) ∙ e))

  module _ (x c : ℕ) (xc : x < c) (nc : namer t c ≡ x) where
    -- what is below a row is below the row that names it
    below_up : (m p : ℕ) → p < m → p < rows_of t → below t c p ≡ true → below t x p ≡ true
    below_up zero p h l e = absurd (omega arith)
    below_up (suc m) zero h l e = let q = eqb-true c 0 (sym (below_zero c) ∙ e) in absurd (omega arith)
    below_up (suc m) (suc p) h l e =
        let u = namer_below lim t roles o (suc p) (omega arith) l in
        below_more x (suc p) (omega arith) l
        ∙ ⊎_elim
        (λ q.
        let r : namer t (suc p) ≡ x = ap (namer t) (sym (eqb-true c (suc p) q)) ∙ nc in
        rw (r, below_same x) (or-true (eqb x (suc p))))
        (λ q. rw (below_up m (namer t (suc p)) (omega arith) (omega arith) q) (or-true (eqb x (suc p))))
        (either (eqb c (suc p)) (below t c (namer t (suc p))) (sym (below_more c (suc p) (omega arith) l) ∙ e))

    -- the row that names c is not below c
    not_up : x < rows_of t → below t c x ≡ true → ⊥
    not_up l e = let r = below_le (suc x) c x (omega arith) l e in omega arith

  -- no row is below two rows that one row names
  apart : (x c n : ℕ) → x < c → x < n → namer t c ≡ x → namer t n ≡ x → c ≢ n → x < rows_of t
      → (m p : ℕ) → p < m → p < rows_of t → below t c p ≡ true → below t n p ≡ true → ⊥
  apart x c n xc xn nc nn d xl zero p h l ec en = absurd (omega arith)
  apart x c n xc xn nc nn d xl (suc m) zero h l ec en = let q = eqb-true c 0 (sym (below_zero c) ∙ ec) in omega arith
  apart x c n xc xn nc nn d xl (suc m) (suc p) h l ec en =
      let u = namer_below lim t roles o (suc p) (omega arith) l in
      ⊎_elim
      (λ a. ⊎_elim
      (λ b. d (eqb-true c (suc p) a ∙ sym (eqb-true n (suc p) b)))
      (λ b. not_up x n xn nn xl (rw (ap (namer t) (sym (eqb-true c (suc p) a)) ∙ nc) at b))
      (split n en))
      (λ a. ⊎_elim
      (λ b. not_up x c xc nc xl (rw (ap (namer t) (sym (eqb-true n (suc p) b)) ∙ nn) at a))
      (λ b. apart x c n xc xn nc nn d xl m (namer t (suc p)) (omega arith) (omega arith) a b)
      (split n en))
      (split c ec)
    where
      split : (i : ℕ) → below t i (suc p) ≡ true → (eqb i (suc p) ≡ true) ⊎ (below t i (namer t (suc p)) ≡ true)
      split i e = either (eqb i (suc p)) (below t i (namer t (suc p))) (sym (below_more i (suc p) (omega arith) l) ∙ e)

  -- a row weighs one more than what is counted below it, each row once
  heavier : (x : ℕ) (f : ℕ → ℕ) → x < rows_of t → f x ≡ 0 → ((p : ℕ) → p < rows_of t → f p ≤ one (below t x p))
      → suc (sum f (rows_of t)) ≤ weight t x
  unfolding weight
  heavier x f l z h =
      let a = sum_add f (λ p. one (eqb p x)) (rows_of t) in
      let b : one (eqb x x) ≤ sum (λ p. one (eqb p x)) (rows_of t) = sum_at (λ p. one (eqb p x)) (rows_of t) x l in
      let b' : 1 ≤ sum (λ p. one (eqb p x)) (rows_of t) = rw (eq-eqb x x refl) at b in
      let c = sum_le (λ p. f p + one (eqb p x)) (λ p. one (below t x p)) (rows_of t) (λ p m. at_row p m (eqb p x) refl) in
      omega arith
    where
      at_row : (p : ℕ) → p < rows_of t → (b : Bool) → eqb p x ≡ b → f p + one b ≤ one (below t x p)
      at_row p m true q = let e = eqb-true p x q in rw (e, below_same x, z) (omega arith)
      at_row p m false q = let g = h p m in omega arith

  -- one row below, and two
  module _ (x c : ℕ) (xc : x < c) (nc : namer t c ≡ x) (l : x < rows_of t) where
    not_below : one (below t c x) ≡ 0
    not_below = go (below t c x) refl
      where
        go : (b : Bool) → below t c x ≡ b → one b ≡ 0
        go true e = absurd (not_up x c xc nc l e)
        go false e = refl

    below_below : (p : ℕ) → p < rows_of t → one (below t c p) ≤ one (below t x p)
    below_below p m = go (below t c p) refl
      where
        go : (b : Bool) → below t c p ≡ b → one b ≤ one (below t x p)
        go true e = rw (below_up x c xc nc (suc p) p (omega arith) m e) (omega arith)
        go false e = omega arith

    heavier_one : suc (weight t c) ≤ weight t x
    unfolding weight
    heavier_one = heavier x (λ p. one (below t c p)) l not_below below_below

  heavier_two : (x c n : ℕ) → x < c → x < n → namer t c ≡ x → namer t n ≡ x → c ≢ n → x < rows_of t → suc (weight t c + weight t n) ≤ weight t x
  unfolding weight
  heavier_two x c n xc xn nc nn d l =
      let a = sum_add (λ p. one (below t c p)) (λ p. one (below t n p)) (rows_of t) in
      let b = heavier x (λ p. one (below t c p) + one (below t n p)) l
      (rw (not_below x c xc nc l, not_below x n xn nn l)) (λ p m. go p m (below t c p) refl (below t n p) refl) in
      omega arith
    where
      go : (p : ℕ) → p < rows_of t → (a : Bool) → below t c p ≡ a → (b : Bool) → below t n p ≡ b → one a + one b ≤ one (below t x p)
      go p m true e true f = absurd (apart x c n xc xn nc nn d l (suc p) p (omega arith) m e f)
      go p m true e false f = rw (below_up x c xc nc (suc p) p (omega arith) m e) (omega arith)
      go p m false e b f = let g = below_below x n xn nn l p m in let g' : one b ≤ one (below t x p) = rw f at g in omega arith

  size_cases : {A : Type 0} → Cases {A = A} t (λ i G. rows_in G ≤ weight t i) (λ i cs. rows_in_arms cs ≤ weight t i)
  unfolding rows_in
  size_cases = record {
    ended = λ i a b c l e. alone i l;
    exchanged = λ i s r f cs l e k q.
        let h = heavier_one i f k.up (namer_near lim t roles o true i f l k (ap near_link e)) l in omega arith;
    looped = λ i b x y G l e k p.
        let h = heavier_one i b k.up (namer_near lim t roles o false i b l k (ap near_link e)) l in omega arith;
    backed = λ i d x y l e. alone i l;
    last = λ i l c G h e k p.
        let g = heavier_one i c k.up (namer_near lim t roles o false i c h k (ap near_link e)) h in omega arith;
    more = λ i l c n G cs h e k m p q.
        let g = heavier_two i c n k.up m.up (namer_near lim t roles o false i c h k (ap near_link e))
        (namer_far lim t roles o true i n h m (ap far_link e))
        (λ z. true≢false (sym m.is ∙ (ap (λ v. is_arm (row t v)) (sym z) ∙ k.is))) h in
        omega arith;
  }
    where
      alone : (i : ℕ) → i < rows_of t → 1 ≤ weight t i
      alone i l = let h = heavier i (λ p. 0) l refl (λ p m. omega arith) in omega arith

pub tree_rows : (A : Type 0) (lim : Limits) (t : List ℕ) (roles : ℕ) → check_of lim t roles ≡ accepted → rows_in {A = A} (tree_of t) ≤ rows_of t
unfolding weight
tree_rows A lim t roles e =
    let o = obeys lim t roles e in
    let h : rows_in {A = A} (tree_of t) ≤ weight t 0 =
    tree_of_lem lim t roles o (λ i G. rows_in G ≤ weight t i) (λ i cs. rows_in_arms cs ≤ weight t i) (size_cases lim t roles o) in
    let m = sum_most (λ p. one (below t 0 p)) (rows_of t) (λ p l. one_most (below t 0 p)) in
    omega arith
