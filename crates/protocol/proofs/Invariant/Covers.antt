-- Machinery of the proof of demand 3, which nobody need read: a role's row covers the running tree. Said without merge, since the
-- parts of a running tree need have none (Trap.antt). Assumes nothing.
use Prim.Native.Nat.{ℕ, zero, suc}
use mathlib.Core.List.{List}
use mathlib.Core.Logic.{◌≢◌}
use mathlib.Core.Option.{some}
use mathlib.Core.Path.{◌≡◌}
use Rattle.table.specs.mirror.Kept.{HasLabel}
use Rattle.table.specs.Tree.{Global, end, exchange, flight, loop, back, Arms, nil, arm}
use Rattle.blocks.specs.Head.{ArmAt, find}
use Rattle.protocol.specs.Left.{NothingLeft}
use Rattle.protocol.specs.Steps.{SomeArm}
use Rattle.protocol.specs.Unrolled.{unrolled}
use Rattle.protocol.proofs.Invariant.View.{View, v_end, v_send, v_receive}

mutual
  -- r is in no exchange of the tree, sent or unsent
  pub data Absent {A : Type 0} (r : ℕ) : Global A → Type 0 where
    a_end : Absent r end
    a_exchange : {p q : ℕ} {cs : Arms A} → r ≢ p → r ≢ q → AbsentArms r cs → Absent r (exchange p q cs)
    a_flight : {p q l : ℕ} {v : A} {G : Global A} → r ≢ p → r ≢ q → Absent r G → Absent r (flight p q l v G)
    a_loop : {G : Global A} → Absent r G → Absent r (loop G)
    a_back : {k : ℕ} → Absent r (back k)

  pub data AbsentArms {A : Type 0} (r : ℕ) : Arms A → Type 0 where
    a_nil : AbsentArms r nil
    a_arm : {l : ℕ} {G : Global A} {cs : Arms A} → Absent r G → AbsentArms r cs → AbsentArms r (arm l G cs)

-- view: what a row of r's block says; head: the head of a row
module _ {A : Type 0} (view : ℕ → View) (head : ℕ → ℕ) where
  mutual
    -- Covers r n G row: whatever r does in G, for its next n actions, its row lets it do, and at its sends no more than that. Between
    -- two actions of r the derivation is finite; across an action n falls, so that a loop needs no infinite derivation
    pub data Covers (r : ℕ) : ℕ → Global A → ℕ → Type 0 where
      c_zero : {row : ℕ} {G : Global A} → Covers r zero G row
      c_gone : {n row : ℕ} {G : Global A} → NothingLeft r G → view row ≡ v_end → Covers r n G row
      -- exactly the labels of the exchange
      c_send : {n row p q : ℕ} {cs : Arms A} {arms : List ArmAt}
          → r ≡ p → p ≢ q → view row ≡ v_send q arms → SomeArm cs
          → ((l x : ℕ) → find l arms ≡ some x → HasLabel l cs) → CoversArms r n arms cs → Covers r (suc n) (exchange p q cs) row
      -- at least the labels of the exchange
      c_receive : {n row p q : ℕ} {cs : Arms A} {arms : List ArmAt}
          → r ≡ q → p ≢ q → view row ≡ v_receive p arms → SomeArm cs → CoversArms r n arms cs → Covers r (suc n) (exchange p q cs) row
      -- a bystander: one row for every arm
      c_past : {n row p q : ℕ} {cs : Arms A}
          → r ≢ p → r ≢ q → SomeArm cs → CoversEach r n cs row → Covers r n (exchange p q cs) row
      c_get : {n row p q l x : ℕ} {v : A} {G : Global A} {arms : List ArmAt}
          → r ≡ q → view row ≡ v_receive p arms → find l arms ≡ some x → Covers r n G (head x) → Covers r (suc n) (flight p q l v G) row
      c_over : {n row p q l : ℕ} {v : A} {G : Global A} → r ≢ q → Covers r n G row → Covers r n (flight p q l v G) row
      c_loop : {n row : ℕ} {B : Global A} → Covers r n (unrolled B) row → Covers r n (loop B) row

    -- each arm has its label among those of the row, and its tree is covered by the head of where that leads
    pub data CoversArms (r : ℕ) : ℕ → List ArmAt → Arms A → Type 0 where
      ca_nil : {n : ℕ} {arms : List ArmAt} → CoversArms r n arms nil
      ca_arm : {n l x : ℕ} {arms : List ArmAt} {G : Global A} {cs : Arms A}
          → find l arms ≡ some x → Covers r n G (head x) → CoversArms r n arms cs → CoversArms r n arms (arm l G cs)

    -- each arm's tree is covered by the same row
    pub data CoversEach (r : ℕ) : ℕ → Arms A → ℕ → Type 0 where
      ce_nil : {n row : ℕ} → CoversEach r n nil row
      ce_arm : {n row l : ℕ} {G : Global A} {cs : Arms A} → Covers r n G row → CoversEach r n cs row → CoversEach r n (arm l G cs) row
