-- Laws of a part's arms: which arm a label has after an arm is put in, taken out, or all are sorted. Assumes nothing.
use Prim.Native.Nat.{ℕ, ◌≤◌}
use mathlib.Core.Bool.{true, true≢false}
use mathlib.Core.Logic.{◌≢◌}
use mathlib.Core.Option.{Option, none, some, bind}
use mathlib.Core.Path.{◌≡◌, refl, sym, ◌∙◌}
use native.Mathlib.Decide.{ℕ_discrete, dec_le}
use native.Mathlib.Omega.{arith}
use lib.Dec.{eqb}
use borrow.Author.Tests.{eq-eqb, ne_eqb, eqb-true, le-leb, lt-leb}
use Rattle.table.proofs.Tests.{both}
use Rattle.parts.specs.Merge.{same_labels}
use Rattle.parts.specs.Part.{Part, PartArms, p_nil, p_arm, insert, rising, arm_of, without}

-- ---- options

pub none≢some : {B C : Type 0} {x : B} → none ≡ some x → C
none≢some e = let z : ◌≡◌ {A = ℕ} 0 1 = cc in absurd (omega arith)

pub some_injective : {B : Type 0} {x y : B} → some x ≡ some y → x ≡ y
some_injective e = cc

pub bind_some : {B C : Type 0} {y : C} (o : Option B) (f : B → Option C) → bind o f ≡ some y → (x : B) × (o ≡ some x) × (f x ≡ some y)
unfolding bind
bind_some none f e = none≢some e
bind_some (some x) f e = (x, refl, e)

-- ---- the arm of a label: the first, as `arm_of` finds it

pub data At : ℕ → Part → PartArms → Type 0 where
  at_here : {l k : ℕ} {P : Part} {ps : PartArms} → l ≡ k → At l P (p_arm k P ps)
  at_there : {l k : ℕ} {P Q : Part} {ps : PartArms} → l ≢ k → At l P ps → At l P (p_arm k Q ps)

pub arm_of_at : {l : ℕ} {P : Part} {ps : PartArms} → At l P ps → arm_of l ps ≡ some P
unfolding arm_of
arm_of_at {l = l} (at_here {k = k} e) = rw (eq-eqb l k e)
arm_of_at {l = l} (at_there {k = k} n t) = rw (ne_eqb l k n) (arm_of_at t)

pub at_arm_of : (l : ℕ) (ps : PartArms) {P : Part} → arm_of l ps ≡ some P → At l P ps
unfolding arm_of
at_arm_of l p_nil e = none≢some e
at_arm_of l (p_arm k Q ps) {P} e = go (ℕ_discrete l k) (λ f. at_arm_of l ps f) e
  where
    go : Dec (l ≡ k) → (arm_of l ps ≡ some P → At l P ps) → arm_of l (p_arm k Q ps) ≡ some P → At l P (p_arm k Q ps)
    go (yes h) ih f = rw (← some_injective (rw (eq-eqb l k h) at f)) (at_here h)
    go (no n) ih f = at_there n (ih (rw (ne_eqb l k n) at f))

pub one_part : {l : ℕ} {P Q : Part} {ps : PartArms} → At l P ps → At l Q ps → P ≡ Q
one_part t u = some_injective (sym (arm_of_at t) ∙ arm_of_at u)

-- ---- an arm put in its place

arm_of_insert : (l : ℕ) (P : Part) (qs : PartArms) → arm_of l (insert l P qs) ≡ some P
unfolding insert arm_of
arm_of_insert l P p_nil = rw (eq-eqb l l refl)
arm_of_insert l P (p_arm k Q qs) = go (dec_le l k) (arm_of_insert l P qs)
  where
    go : Dec (l ≤ k) → arm_of l (insert l P qs) ≡ some P → arm_of l (insert l P (p_arm k Q qs)) ≡ some P
    go (yes h) ih = rw (le-leb l k h, eq-eqb l l refl)
    go (no h) ih = rw (lt-leb l k (omega arith), ne_eqb l k (λ e. omega arith)) ih

arm_of_insert_other : (l k : ℕ) (P : Part) (qs : PartArms) → k ≢ l → arm_of k (insert l P qs) ≡ arm_of k qs
unfolding insert arm_of
arm_of_insert_other l k P p_nil n = rw (ne_eqb k l n)
arm_of_insert_other l k P (p_arm j Q qs) n = go (dec_le l j) (ℕ_discrete k j) (arm_of_insert_other l k P qs n)
  where
    go : Dec (l ≤ j) → Dec (k ≡ j) → arm_of k (insert l P qs) ≡ arm_of k qs → arm_of k (insert l P (p_arm j Q qs)) ≡ arm_of k (p_arm j Q qs)
    go (yes h) d ih = rw (le-leb l j h, ne_eqb k l n)
    go (no h) (yes e) ih = rw (lt-leb l j (omega arith), eq-eqb k j e)
    go (no h) (no m) ih = rw (lt-leb l j (omega arith), ne_eqb k j m) ih

pub at_insert : (l : ℕ) (P : Part) (qs : PartArms) → At l P (insert l P qs)
at_insert l P qs = at_arm_of l (insert l P qs) (arm_of_insert l P qs)

pub at_insert_other : {l k : ℕ} {R : Part} (P : Part) {qs : PartArms} → k ≢ l → At k R qs → At k R (insert l P qs)
at_insert_other {l} {k} P {qs} n t = at_arm_of k (insert l P qs) (arm_of_insert_other l k P qs n ∙ arm_of_at t)

pub insert_at : {l k : ℕ} {R : Part} (P : Part) {qs : PartArms} → k ≢ l → At k R (insert l P qs) → At k R qs
insert_at {l} {k} P {qs} n t = at_arm_of k qs (sym (arm_of_insert_other l k P qs n) ∙ arm_of_at t)

-- ---- the arms sorted

arm_of_rising : (l : ℕ) (ps : PartArms) → arm_of l (rising ps) ≡ arm_of l ps
unfolding rising arm_of
arm_of_rising l p_nil = refl
arm_of_rising l (p_arm k P ps) = go (ℕ_discrete l k) (arm_of_rising l ps)
  where
    go : Dec (l ≡ k) → arm_of l (rising ps) ≡ arm_of l ps → arm_of l (insert k P (rising ps)) ≡ arm_of l (p_arm k P ps)
    go (yes e) ih = rw (eq-eqb l k e, e) (arm_of_insert k P (rising ps))
    go (no n) ih = rw (ne_eqb l k n) (arm_of_insert_other k l P (rising ps) n ∙ ih)

pub at_rising : {l : ℕ} {P : Part} {ps : PartArms} → At l P ps → At l P (rising ps)
at_rising {l} {P} {ps} t = at_arm_of l (rising ps) (arm_of_rising l ps ∙ arm_of_at t)

pub rising_at : {l : ℕ} {P : Part} (ps : PartArms) → At l P (rising ps) → At l P ps
rising_at {l} ps t = at_arm_of l ps (sym (arm_of_rising l ps) ∙ arm_of_at t)

-- ---- an arm taken out

arm_of_without : (l k : ℕ) (qs : PartArms) → k ≢ l → arm_of k (without l qs) ≡ arm_of k qs
unfolding without arm_of
arm_of_without l k p_nil n = refl
arm_of_without l k (p_arm j Q qs) n = go (ℕ_discrete l j) (ℕ_discrete k j) (arm_of_without l k qs n)
  where
    go : Dec (l ≡ j) → Dec (k ≡ j) → arm_of k (without l qs) ≡ arm_of k qs → arm_of k (without l (p_arm j Q qs)) ≡ arm_of k (p_arm j Q qs)
    go (yes e) d ih = rw (eq-eqb l j e, ne_eqb k j (λ f. n (f ∙ sym e)))
    go (no m) (yes e) ih = rw (ne_eqb l j m, eq-eqb k j e)
    go (no m) (no m') ih = rw (ne_eqb l j m, ne_eqb k j m') ih

pub at_without : {l k : ℕ} {R : Part} {qs : PartArms} → k ≢ l → At k R qs → At k R (without l qs)
at_without {l} {k} {qs = qs} n t = at_arm_of k (without l qs) (arm_of_without l k qs n ∙ arm_of_at t)

pub without_at : {l k : ℕ} {R : Part} (qs : PartArms) → k ≢ l → At k R (without l qs) → At k R qs
without_at {l} {k} qs n t = at_arm_of k qs (sym (arm_of_without l k qs n) ∙ arm_of_at t)

-- ---- arms of the same labels

pub labels_sym : (ps qs : PartArms) → same_labels ps qs ≡ true → same_labels qs ps ≡ true
unfolding same_labels
labels_sym p_nil p_nil e = refl
labels_sym p_nil (p_arm k Q qs) e = absurd (true≢false (sym e))
labels_sym (p_arm l P ps) p_nil e = absurd (true≢false (sym e))
labels_sym (p_arm l P ps) (p_arm k Q qs) e =
    let (f, g) = both (eqb l k) (same_labels ps qs) e in rw (eq-eqb k l (sym (eqb-true l k f))) (labels_sym ps qs g)

pub same_at : {l : ℕ} {Q : Part} (ps qs : PartArms) → same_labels ps qs ≡ true → At l Q qs → (P : Part) × At l P ps
unfolding same_labels
same_at p_nil (p_arm k Q qs) e t = absurd (true≢false (sym e))
same_at (p_arm j P ps) (p_arm k Q qs) e (at_here h) =
    let (f, g) = both (eqb j k) (same_labels ps qs) e in (P, at_here (h ∙ sym (eqb-true j k f)))
same_at (p_arm j P ps) (p_arm k Q qs) e (at_there n t) =
    let (f, g) = both (eqb j k) (same_labels ps qs) e in
    let (R, u) = same_at ps qs g t in
    (R, at_there (λ h. n (h ∙ eqb-true j k f)) u)
same_at p_nil p_nil e t = elim t [ ]
same_at (p_arm j P ps) p_nil e t = elim t [ ]
