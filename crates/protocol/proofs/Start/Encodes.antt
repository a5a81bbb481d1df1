-- Machinery of the proof of demand 3: the rows of a block stand for a part. Assumes nothing.
use Prim.Native.Nat.{ℕ, suc}
use mathlib.Core.List.{List, [], ◌∷◌}
use mathlib.Core.Logic.{◌≢◌}
use mathlib.Core.Option.{some}
use mathlib.Core.Path.{◌≡◌, sym, ◌∙◌}
use native.Mathlib.Decide.{ℕ_discrete}
use borrow.Author.Tests.{eq-eqb, ne_eqb}
use Rattle.parts.specs.Part.{Part, p_end, p_send, p_receive, p_loop, p_back, PartArms, p_nil, p_arm}
use Rattle.blocks.specs.Head.{ArmAt, find}
use Rattle.protocol.proofs.Invariant.View.{View, v_end, v_send, v_receive, v_loop, v_back}
use Rattle.protocol.proofs.Parts.Arms.{none≢some, At, at_here, at_there}

-- x stands at place k
pub data Nth : ℕ → List ℕ → ℕ → Type 0 where
  n_here : {x : ℕ} {ρ : List ℕ} → Nth 0 (x ∷ ρ) x
  n_there : {k x y : ℕ} {ρ : List ℕ} → Nth k ρ x → Nth (suc k) (y ∷ ρ) x

abbrev pub arm_at : ℕ → ℕ → ArmAt
arm_at l x = record { label = l; continuation = x }

-- row x stands for M, where ρ has the rows of the loops around, nearest first
mutual
  pub data Encodes (view : ℕ → View) : ℕ → List ℕ → Part → Type 0 where
    e_end : {x : ℕ} {ρ : List ℕ} → view x ≡ v_end → Encodes view x ρ p_end
    e_send : {x q : ℕ} {ρ : List ℕ} {ms : PartArms} {arms : List ArmAt}
        → view x ≡ v_send q arms → EncodesArms view arms ρ ms → Encodes view x ρ (p_send q ms)
    e_receive : {x q : ℕ} {ρ : List ℕ} {ms : PartArms} {arms : List ArmAt}
        → view x ≡ v_receive q arms → EncodesArms view arms ρ ms → Encodes view x ρ (p_receive q ms)
    e_loop : {x y : ℕ} {ρ : List ℕ} {M : Part} → view x ≡ v_loop y → Encodes view y (x ∷ ρ) M → Encodes view x ρ (p_loop M)
    e_back : {x y k : ℕ} {ρ : List ℕ} → view x ≡ v_back y → Nth k ρ y → Encodes view x ρ (p_back k)

  pub data EncodesArms (view : ℕ → View) : List ArmAt → List ℕ → PartArms → Type 0 where
    ea_nil : {ρ : List ℕ} → EncodesArms view [] ρ p_nil
    ea_arm : {l x : ℕ} {ρ : List ℕ} {M : Part} {ms : PartArms} {arms : List ArmAt}
        → Encodes view x ρ M → EncodesArms view arms ρ ms → EncodesArms view (arm_at l x ∷ arms) ρ (p_arm l M ms)

-- what a head is: the row itself where a role stands still, else the head of where the row leads
pub record Heads (view : ℕ → View) (head : ℕ → ℕ) : Type 0 where
  pub on_end : (x : ℕ) → view x ≡ v_end → head x ≡ x
  pub on_send : (x q : ℕ) (arms : List ArmAt) → view x ≡ v_send q arms → head x ≡ x
  pub on_receive : (x q : ℕ) (arms : List ArmAt) → view x ≡ v_receive q arms → head x ≡ x
  pub on_loop : (x y : ℕ) → view x ≡ v_loop y → head x ≡ head y
  pub on_back : (x y : ℕ) → view x ≡ v_back y → head x ≡ head y

-- ---- the arm of a label, in the part and in the rows

pub find_here : (l k x : ℕ) (arms : List ArmAt) → l ≡ k → find l (arm_at k x ∷ arms) ≡ some x
unfolding find
find_here l k x arms e = rw (eq-eqb l k e)

find_there : (l k x : ℕ) (arms : List ArmAt) → l ≢ k → find l (arm_at k x ∷ arms) ≡ find l arms
unfolding find
find_there l k x arms n = rw (ne_eqb l k n)

pub found_row : {view : ℕ → View} {l : ℕ} {M : Part} {ρ : List ℕ} {ms : PartArms} {arms : List ArmAt}
    → EncodesArms view arms ρ ms → At l M ms → (x : ℕ) × (find l arms ≡ some x) × Encodes view x ρ M
found_row {l = l} (ea_arm {l = k} {x = x} {arms = arms} e es) (at_here h) = (x, find_here l k x arms h, e)
found_row {l = l} (ea_arm {l = k} {x = x} {arms = arms} e es) (at_there n t) =
    let (y, f, e') = found_row es t in (y, find_there l k x arms n ∙ f, e')
found_row ea_nil h = elim h [ ]

at_or : {l k : ℕ} {M : Part} {ms : PartArms} → Dec (l ≡ k) → (l ≢ k → (N : Part) × At l N ms) → (N : Part) × At l N (p_arm k M ms)
at_or {M = M} (yes h) f = (M, at_here h)
at_or (no n) f = let (N, t) = f n in (N, at_there n t)

pub found_arm : {view : ℕ → View} {ρ : List ℕ} {ms : PartArms} {arms : List ArmAt} (l x : ℕ)
    → EncodesArms view arms ρ ms → find l arms ≡ some x → (M : Part) × At l M ms
unfolding find
found_arm l x ea_nil f = none≢some f
found_arm l x (ea_arm {l = k} {x = y} {arms = arms} e es) f =
    at_or (ℕ_discrete l k) (λ n. found_arm l x es (sym (find_there l k y arms n) ∙ f))
