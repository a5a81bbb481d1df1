-- The earliest fault of two lists is the earlier of theirs, in whichever order they stand. Assumes nothing.
use Prim.Native.Nat.{ℕ, ◌≤◌, ◌<◌}
use mathlib.Core.Bool.{Bool, true, false, cond, ◌&&◌, ◌||◌}
use mathlib.Core.List.{List, [], ◌∷◌, ◌++◌}
use mathlib.Core.Logic.{◌⊎◌, inl, inr}
use mathlib.Core.Path.{◌≡◌, refl, sym, ◌∙◌, ap}
use native.Mathlib.Omega.{arith}
use lib.Dec.{ltb, eqb}
use borrow.Author.Tests.{ltb-true, ltb-false, eqb-true, eqb-false, lt-ltb, le-ltb, eq-eqb, ne_eqb}
use Rattle.scribble.specs.Refusals.{Fault, Finding, faultless, faulty, deciding, soonest}

abbrev pub earlier : ℕ → ℕ → ℕ → ℕ → Bool
earlier q n p m = ltb q p || (eqb q p && ltb n m)

abbrev Sooner : ℕ → ℕ → ℕ → ℕ → Type 0
Sooner q n p m = ((q < p) ⊎ ((q ≡ p) × (n < m)))

abbrev pub Later : ℕ → ℕ → ℕ → ℕ → Type 0
Later q n p m = ((p < q) ⊎ ((p ≡ q) × (m ≤ n)))

is_sooner : (q n p m : ℕ) → earlier q n p m ≡ true → Sooner q n p m
is_sooner q n p m e = go (ltb q p) (eqb q p) (ltb n m) refl refl refl e
  where
    go : (a b c : Bool) → ltb q p ≡ a → eqb q p ≡ b → ltb n m ≡ c → a || (b && c) ≡ true → Sooner q n p m
    go true b c x y z e = inl (ltb-true q p x)
    go false true true x y z e = inr (eqb-true q p y, ltb-true n m z)
    go false true false x y z e = let k : ◌≡◌ {A = ℕ} 0 1 = cc in let w : ⊥ = omega arith in absurd w
    go false false c x y z e = let k : ◌≡◌ {A = ℕ} 0 1 = cc in let w : ⊥ = omega arith in absurd w

is_later : (q n p m : ℕ) → earlier q n p m ≡ false → Later q n p m
is_later q n p m e = go (ltb q p) (eqb q p) (ltb n m) refl refl refl e
  where
    go : (a b c : Bool) → ltb q p ≡ a → eqb q p ≡ b → ltb n m ≡ c → a || (b && c) ≡ false → Later q n p m
    go true b c x y z e = let k : ◌≡◌ {A = ℕ} 0 1 = cc in let w : ⊥ = omega arith in absurd w
    go false true true x y z e = let k : ◌≡◌ {A = ℕ} 0 1 = cc in let w : ⊥ = omega arith in absurd w
    go false true false x y z e = inr (sym (eqb-true q p y), ltb-false n m z)
    go false false c x y z e = let f = eqb-false q p y in let l = ltb-false q p x in inl (omega (arith, f, l))

sooner_is : (q n p m : ℕ) → Sooner q n p m → earlier q n p m ≡ true
sooner_is q n p m (inl l) = rw (lt-ltb q p l)
sooner_is q n p m (inr (e, l)) = rw (le-ltb q p (omega arith), eq-eqb q p e, lt-ltb n m l)

pub later_is : (q n p m : ℕ) → Later q n p m → earlier q n p m ≡ false
later_is q n p m (inl l) = rw (le-ltb q p (omega arith), ne_eqb q p (λ e. omega arith))
later_is q n p m (inr (e, l)) = rw (le-ltb q p (omega arith), le-ltb n m l, eq-eqb q p (sym e))

sooner_trans : (a i b j c k : ℕ) → Sooner a i b j → Sooner b j c k → Sooner a i c k
sooner_trans a i b j c k (inl l) (inl r) = inl (omega arith)
sooner_trans a i b j c k (inl l) (inr (e, r)) = inl (omega arith)
sooner_trans a i b j c k (inr (e, l)) (inl r) = inl (omega arith)
sooner_trans a i b j c k (inr (e, l)) (inr (f, r)) = inr (e ∙ f, omega arith)

-- c is not before b, b not before a: c is not before a
later_trans : (c k b j a i : ℕ) → Later c k b j → Later b j a i → Later c k a i
later_trans c k b j a i (inl l) (inl r) = inl (omega arith)
later_trans c k b j a i (inl l) (inr (e, r)) = inl (omega arith)
later_trans c k b j a i (inr (e, l)) (inl r) = inl (omega arith)
later_trans c k b j a i (inr (e, l)) (inr (f, r)) = inr (f ∙ e, omega arith)

-- the earlier of two; the first of two alike
unfoldable pub meet : Finding → Finding → Finding
meet faultless j = j
meet (faulty p m) faultless = faulty p m
meet (faulty p m) (faulty q n) = cond (earlier q n p m) (faulty q n) (faulty p m)

pub meet_none : (x : Finding) → meet x faultless ≡ x
unfolding meet
meet_none faultless = refl
meet_none (faulty p m) = refl

assoc₃ : (p m q n r k : ℕ) (a b c : Bool) → earlier q n p m ≡ a → earlier r k q n ≡ b → earlier r k p m ≡ c
    → meet (meet (faulty p m) (faulty q n)) (faulty r k) ≡ meet (faulty p m) (meet (faulty q n) (faulty r k))
unfolding meet
assoc₃ p m q n r k true true true x y z = rw (x, y, z)
assoc₃ p m q n r k true true false x y z =
    let t = sooner_is r k p m (sooner_trans r k q n p m (is_sooner r k q n y) (is_sooner q n p m x)) in
    let w : true ≡ false = sym t ∙ z in
    let u : ◌≡◌ {A = ℕ} 0 1 = cc in let v : ⊥ = omega arith in absurd v
assoc₃ p m q n r k true false c x y z = rw (x, y, x)
assoc₃ p m q n r k false true c x y z = rw (x, y)
assoc₃ p m q n r k false false true x y z =
    let t = later_is r k p m (later_trans r k q n p m (is_later r k q n y) (is_later q n p m x)) in
    let w : true ≡ false = sym z ∙ t in
    let u : ◌≡◌ {A = ℕ} 0 1 = cc in let v : ⊥ = omega arith in absurd v
assoc₃ p m q n r k false false false x y z = rw (x, y, z, x)

pub meet_assoc : (x y z : Finding) → meet (meet x y) z ≡ meet x (meet y z)
unfolding meet
meet_assoc faultless y z = refl
meet_assoc (faulty p m) faultless z = refl
meet_assoc (faulty p m) (faulty q n) faultless = meet_none (meet (faulty p m) (faulty q n))
meet_assoc (faulty p m) (faulty q n) (faulty r k) = assoc₃ p m q n r k (earlier q n p m) (earlier r k q n) (earlier r k p m) refl refl refl

comm₂ : (p m q n : ℕ) (a b : Bool) → earlier q n p m ≡ a → earlier p m q n ≡ b → meet (faulty p m) (faulty q n) ≡ meet (faulty q n) (faulty p m)
unfolding meet
comm₂ p m q n true true x y = let u = clash (is_sooner q n p m x) (is_sooner p m q n y) in absurd u
  where
    clash : Sooner q n p m → Sooner p m q n → ⊥
    clash (inl l) (inl r) = omega arith
    clash (inl l) (inr (e, r)) = omega arith
    clash (inr (e, l)) (inl r) = omega arith
    clash (inr (e, l)) (inr (f, r)) = omega arith
comm₂ p m q n true false x y = rw (x, y)
comm₂ p m q n false true x y = rw (x, y)
comm₂ p m q n false false x y = rw (x, y) (alike (is_later q n p m x) (is_later p m q n y))
  where
    alike : Later q n p m → Later p m q n → faulty p m ≡ faulty q n
    alike (inl l) (inl r) = let v : ⊥ = omega arith in absurd v
    alike (inl l) (inr (e, r)) = let v : ⊥ = omega arith in absurd v
    alike (inr (e, l)) (inl r) = let v : ⊥ = omega arith in absurd v
    alike (inr (e, l)) (inr (f, r)) = let g : m ≡ n = omega arith in cc

pub meet_comm : (x y : Finding) → meet x y ≡ meet y x
unfolding meet
meet_comm faultless faultless = refl
meet_comm faultless (faulty q n) = refl
meet_comm (faulty p m) faultless = refl
meet_comm (faulty p m) (faulty q n) = comm₂ p m q n (earlier q n p m) (earlier p m q n) refl refl

pub meet_left_comm : (x y z : Finding) → meet x (meet y z) ≡ meet y (meet x z)
meet_left_comm x y z = sym (meet_assoc x y z) ∙ (ap (λ (w : Finding). meet w z) (meet_comm x y) ∙ meet_assoc y x z)

abbrev pub as_finding : Fault → Finding
as_finding f = faulty f.place f.number

picked : (f g : Fault) (t : Bool) → earlier g.place g.number f.place f.number ≡ t → as_finding (cond t g f) ≡ meet (as_finding f) (as_finding g)
unfolding meet
picked f g true e = rw e
picked f g false e = rw e

pub first_deciding : (f : Fault) (fs : List Fault) → deciding (f ∷ fs) ≡ meet (as_finding f) (deciding fs)
unfolding deciding soonest meet
first_deciding f [] = refl
first_deciding f (g ∷ gs) =
    let t = earlier g.place g.number f.place f.number in
    first_deciding (cond t g f) gs
    ∙ (ap (λ (x : Finding). meet x (deciding gs)) (picked f g t refl)
    ∙ (meet_assoc (as_finding f) (as_finding g) (deciding gs) ∙ ap (meet (as_finding f)) (sym (first_deciding g gs))))

-- of two lists
pub deciding_append : (xs ys : List Fault) → deciding (xs ++ ys) ≡ meet (deciding xs) (deciding ys)
unfolding deciding meet
deciding_append [] ys = refl
deciding_append (f ∷ fs) ys =
    first_deciding f (fs ++ ys)
    ∙ (ap (meet (as_finding f)) (deciding_append fs ys)
    ∙ (sym (meet_assoc (as_finding f) (deciding fs) (deciding ys)) ∙ ap (λ (x : Finding). meet x (deciding ys)) (sym (first_deciding f fs))))
