-- Machinery of the proof of demand 3, which nobody need read: the messages of a pair that are in flight in a tree, from the top down.
-- Assumes nothing.
use Prim.Native.Nat.{ℕ}
use mathlib.Core.List.{List, [], ◌∷◌}
use mathlib.Core.Logic.{◌≢◌}
use mathlib.Core.Path.{◌≡◌}
use Rattle.table.specs.mirror.Kept.{Static}
use Rattle.table.specs.Tree.{Global, exchange, flight, Arms, nil, arm}
use Rattle.protocol.specs.Steps.{SomeArm}

mutual
  -- w: the labels and payloads from p to q
  pub data Holds {A : Type 0} (p q : ℕ) : Global A → List (ℕ × A) → Type 0 where
    h_same : {p' q' l : ℕ} {v : A} {G : Global A} {w : List (ℕ × A)}
        → p ≡ p' → q ≡ q' → Holds p q G w → Holds p q (flight p' q' l v G) ((l, v) ∷ w)
    h_over : {p' q' l : ℕ} {v : A} {G : Global A} {w : List (ℕ × A)}
        → ¬ ((p ≡ p') × (q ≡ q')) → Holds p q G w → Holds p q (flight p' q' l v G) w
    h_past : {p' q' : ℕ} {cs : Arms A} {w : List (ℕ × A)}
        → p ≢ p' → SomeArm cs → HoldsEach p q cs w → Holds p q (exchange p' q' cs) w
    -- what p has still to send comes after all that it sent
    h_none : {p' q' : ℕ} {cs : Arms A} → p ≡ p' → HoldsEach p q cs [] → Holds p q (exchange p' q' cs) []
    h_quiet : {G : Global A} → Static G → Holds p q G []

  pub data HoldsEach {A : Type 0} (p q : ℕ) : Arms A → List (ℕ × A) → Type 0 where
    he_nil : {w : List (ℕ × A)} → HoldsEach p q nil w
    he_arm : {l : ℕ} {G : Global A} {cs : Arms A} {w : List (ℕ × A)}
        → Holds p q G w → HoldsEach p q cs w → HoldsEach p q (arm l G cs) w
