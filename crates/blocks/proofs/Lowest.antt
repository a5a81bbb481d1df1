-- Laws of the lowest label: it is the label of an arm, and no arm has a lower one. For any arms, in any order. Assumes nothing.
use Prim.Native.Nat.{ℕ, min, ◌≤◌, ◌<◌}
use mathlib.Core.Bool.{Bool, true, false, cond}
use mathlib.Core.List.{List, [], ◌∷◌}
use mathlib.Core.Logic.{◌⊎◌, inl, inr, ⊎_elim}
use mathlib.Core.Option.{Option, none, some}
use mathlib.Core.Path.{◌≡◌, refl}
use lib.Dec.{eqb}
use native.Mathlib.Omega.{arith}
use borrow.Author.Tests.{eqb-true, eqb-false}
use Rattle.blocks.specs.Head.{ArmAt, find, lowest_label}

none≢some : {c : ℕ} → ◌≡◌ {A = Option ℕ} none (some c) → ⊥
none≢some e = let z : ◌≡◌ {A = ℕ} 0 1 = cc in omega arith

lowest_low : (k : ℕ) (arms : List ArmAt) → lowest_label k arms ≤ k
unfolding lowest_label
lowest_low k [] = omega arith
lowest_low k (a ∷ as') = let rest = lowest_low (min k a.label) as' in omega arith

-- no arm has a lower label
pub lowest_least : (k l c : ℕ) (arms : List ArmAt) → find l arms ≡ some c → lowest_label k arms ≤ l
unfolding lowest_label find
lowest_least k l c [] e = absurd (none≢some e)
lowest_least k l c (a ∷ as') e = decide (eqb l a.label) refl e (λ f. lowest_least (min k a.label) l c as' f)
  where
    decide : (b : Bool) → eqb l a.label ≡ b → cond b (some a.continuation) (find l as') ≡ some c
        → (find l as' ≡ some c → lowest_label (min k a.label) as' ≤ l) → lowest_label (min k a.label) as' ≤ l
    decide true here f rest =
        let same : l ≡ a.label = eqb-true l a.label here in
        let low = lowest_low (min k a.label) as' in omega arith
    decide false here f rest = rest f

-- it is the label of an arm, or k
among : (k : ℕ) (arms : List ArmAt) → (lowest_label k arms ≡ k) ⊎ ((c : ℕ) × (find (lowest_label k arms) arms ≡ some c))
unfolding lowest_label find
among k [] = inl refl
among k (a ∷ as') = decide (eqb (lowest_label (min k a.label) as') a.label) refl (among (min k a.label) as')
  where
    decide : (b : Bool) → eqb (lowest_label (min k a.label) as') a.label ≡ b
        → (lowest_label (min k a.label) as' ≡ min k a.label) ⊎ ((c : ℕ) × (find (lowest_label (min k a.label) as') as' ≡ some c))
        → (lowest_label (min k a.label) as' ≡ k) ⊎ ((c : ℕ) × (cond b (some a.continuation) (find (lowest_label (min k a.label) as') as') ≡ some c))
    decide true here rest = inr (a.continuation, refl)
    decide false here (inr found) = inr found
    decide false here (inl e) =
        let other : lowest_label (min k a.label) as' ≡ a.label → ⊥ = eqb-false _ _ here in
        inl (omega arith)

-- where an arm has a label below k, it is the label of an arm
pub lowest_found : (k l c : ℕ) (arms : List ArmAt) → find l arms ≡ some c → l < k → (d : ℕ) × (find (lowest_label k arms) arms ≡ some d)
lowest_found k l c arms e low = ⊎_elim (λ same. absurd (let least = lowest_least k l c arms e in omega arith)) (λ found. found) (among k arms)
