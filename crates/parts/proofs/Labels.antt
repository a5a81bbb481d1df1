-- For arms in rising label order, the labels are the same position by position exactly where each list has the other's
-- labels. Assumes nothing.
use Prim.Native.Nat.{ℕ, ◌<◌}
use mathlib.Core.Bool.{Bool, true, false, cond, true≢false}
use mathlib.Core.Option.{Option, some}
use mathlib.Core.Path.{◌≡◌, refl, sym, ◌∙◌}
use native.Mathlib.Omega.{arith}
use lib.Dec.{eqb, ltb}
use borrow.Author.Tests.{eq-eqb, ne_eqb, eqb-true, ltb-true, ltb-false}
use Rattle.words.proofs.Below.{and_both}
use Rattle.parts.specs.Part.{Part, PartArms, p_nil, p_arm, arm_of}
use Rattle.parts.specs.Merge.{same_labels}
use Rattle.parts.specs.Projection.{present}
use Rattle.parts.proofs.Rising.{Above, above_above, above_lacks, lacks_arm_of, RisingArms, r_nil, r_arm}

-- each list has the other's labels
abbrev pub SameSet : PartArms → PartArms → Type 0
SameSet ps qs = (l : ℕ) → present (arm_of l ps) ≡ present (arm_of l qs)

pub labels_are : (ps qs : PartArms) → same_labels ps qs ≡ true → SameSet ps qs
unfolding same_labels arm_of
labels_are p_nil p_nil e l = refl
labels_are p_nil (p_arm k Q qs) e l = absurd (true≢false (sym e))
labels_are (p_arm j P ps) p_nil e l = absurd (true≢false (sym e))
labels_are (p_arm j P ps) (p_arm k Q qs) e l =
    let (a, b) = and_both (eqb j k) (same_labels ps qs) e in
    rw (eqb-true j k a) (go (eqb l k) (arm_of l ps) (arm_of l qs) (labels_are ps qs b l))
  where
    go : (c : Bool) (o q : Option Part) → present o ≡ present q → present (cond c (some P) o) ≡ present (cond c (some Q) q)
    go true o q h = refl
    go false o q h = h

-- the first label of a list is there, one below all of them is not
has_first : (l : ℕ) (P : Part) (ps : PartArms) → present (arm_of l (p_arm l P ps)) ≡ true
unfolding arm_of
has_first l P ps = rw (eq-eqb l l refl)

lacks_lower : {j k : ℕ} (Q : Part) {qs : PartArms} → j < k → Above k qs → present (arm_of j (p_arm k Q qs)) ≡ false
unfolding arm_of
lacks_lower {j} {k} Q l a = rw (ne_eqb j k (λ e. omega arith), lacks_arm_of (above_lacks (above_above l a)))

-- the rest of two lists with one first label
rest_same : {k : ℕ} (P Q : Part) {ps qs : PartArms} → Above k ps → Above k qs → SameSet (p_arm k P ps) (p_arm k Q qs) → SameSet ps qs
unfolding arm_of
rest_same {k} P Q {ps} {qs} a b h l = go (eqb l k) refl
  where
    go : (c : Bool) → eqb l k ≡ c → present (arm_of l ps) ≡ present (arm_of l qs)
    go true e = rw (eqb-true l k e, lacks_arm_of (above_lacks a), lacks_arm_of (above_lacks b))
    go false e = rw e at (h l)

pub are_labels : {ps qs : PartArms} → RisingArms ps → RisingArms qs → SameSet ps qs → same_labels ps qs ≡ true
unfolding same_labels arm_of
are_labels r_nil r_nil h = refl
are_labels r_nil (r_arm {l = k} {P = Q} {ps = qs} b q g) h = absurd (true≢false (sym (has_first k Q qs) ∙ sym (h k)))
are_labels (r_arm {l = j} {P = P} {ps = ps} a p f) r_nil h = absurd (true≢false (sym (has_first j P ps) ∙ h j))
are_labels (r_arm {l = j} {P = P} {ps = ps} a p f) (r_arm {l = k} {P = Q} {ps = qs} b q g) h =
    go (ltb j k) (ltb k j) refl refl (are_labels f g)
  where
    go : (c d : Bool) → ltb j k ≡ c → ltb k j ≡ d → (SameSet ps qs → same_labels ps qs ≡ true) → same_labels (p_arm j P ps) (p_arm k Q qs) ≡ true
    go true d x y i = absurd (true≢false (sym (has_first j P ps) ∙ (h j ∙ lacks_lower Q (ltb-true j k x) b)))
    go false true x y i = absurd (true≢false (sym (has_first k Q qs) ∙ (sym (h k) ∙ lacks_lower P (ltb-true k j y) a)))
    go false false x y i =
        let e : j ≡ k = omega (arith, ltb-false j k x, ltb-false k j y) in
        rw (eq-eqb j k e) (i (rest_same P Q (rw e at a) b (rw e at h)))
