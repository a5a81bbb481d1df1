-- Machinery of the proof of demand 3, which nobody need read: what a row of a role's block says, and what an action does there.
-- Assumes nothing.
use Prim.Native.Nat.{ℕ}
use mathlib.Core.List.{List}
use mathlib.Core.Option.{Option, some}
use mathlib.Core.Path.{◌≡◌, refl}
use native.Mathlib.Omega.{arith}
use Rattle.blocks.specs.Head.{ArmAt, find}
use Rattle.protocol.specs.Steps.{Action, send, receive}

pub data View : Type 0 where
  v_end : View
  -- peer, arms
  v_send v_receive : ℕ → List ArmAt → View
  -- the row that it leads to
  v_loop v_back : ℕ → View

-- the action is one of a role that stands at a row of this view, and it goes on at row x
pub data Does {A : Type 0} : Action A → View → ℕ → Type 0 where
  does_send : {p q l x : ℕ} {v : A} {arms : List ArmAt} → find l arms ≡ some x → Does (send p q l v) (v_send q arms) x
  does_receive : {p q l x : ℕ} {v : A} {arms : List ArmAt} → find l arms ≡ some x → Does (receive p q l v) (v_receive p arms) x

pub end≢send : {w : View} {q : ℕ} {arms : List ArmAt} → w ≡ v_end → w ≡ v_send q arms → ⊥
end≢send e f = let z : ◌≡◌ {A = ℕ} 0 1 = cc in omega arith

pub end≢receive : {w : View} {q : ℕ} {arms : List ArmAt} → w ≡ v_end → w ≡ v_receive q arms → ⊥
end≢receive e f = let z : ◌≡◌ {A = ℕ} 0 1 = cc in omega arith

pub end≢loop : {w : View} {x : ℕ} → w ≡ v_end → w ≡ v_loop x → ⊥
end≢loop e f = let z : ◌≡◌ {A = ℕ} 0 1 = cc in omega arith

pub end≢back : {w : View} {x : ℕ} → w ≡ v_end → w ≡ v_back x → ⊥
end≢back e f = let z : ◌≡◌ {A = ℕ} 0 1 = cc in omega arith

pub send≢receive : {w : View} {q q' : ℕ} {arms arms' : List ArmAt} → w ≡ v_send q arms → w ≡ v_receive q' arms' → ⊥
send≢receive e f = let z : ◌≡◌ {A = ℕ} 0 1 = cc in omega arith

pub same_send : {w : View} {q q' : ℕ} {arms arms' : List ArmAt} → w ≡ v_send q arms → w ≡ v_send q' arms' → (q ≡ q') × (arms ≡ arms')
same_send e f = (cc, cc)

pub same_receive : {w : View} {q q' : ℕ} {arms arms' : List ArmAt}
    → w ≡ v_receive q arms → w ≡ v_receive q' arms' → (q ≡ q') × (arms ≡ arms')
same_receive e f = (cc, cc)

pub same_some : {x y : ℕ} {o : Option ℕ} → o ≡ some x → o ≡ some y → x ≡ y
same_some e f = cc

-- an action goes on at one row
pub goes_send : {A : Type 0} {p q l x y : ℕ} {v : A} {w : View} {arms : List ArmAt}
    → Does (send p q l v) w x → w ≡ v_send q arms → find l arms ≡ some y → y ≡ x
goes_send (does_send f) e g = same_some g (rw (same_send refl e).1 at f)

pub goes_receive : {A : Type 0} {p q l x y : ℕ} {v : A} {w : View} {arms : List ArmAt}
    → Does (receive p q l v) w x → w ≡ v_receive p arms → find l arms ≡ some y → y ≡ x
goes_receive (does_receive f) e g = same_some g (rw (same_receive refl e).1 at f)

-- where an action is done
pub of_send : {A : Type 0} {p q l x : ℕ} {v : A} {w : View} → Does (send p q l v) w x
    → (arms : List ArmAt) × (w ≡ v_send q arms) × (find l arms ≡ some x)
of_send (does_send {arms = arms} f) = (arms, refl, f)

pub of_receive : {A : Type 0} {p q l x : ℕ} {v : A} {w : View} → Does (receive p q l v) w x
    → (arms : List ArmAt) × (w ≡ v_receive p arms) × (find l arms ≡ some x)
of_receive (does_receive {arms = arms} f) = (arms, refl, f)
