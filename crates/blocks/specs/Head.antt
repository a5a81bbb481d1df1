-- The customer's paper: the head of a row, and the arms of a head. Assumes nothing.
use Rattle.std.specs.Prelude.{ℕ, zero, suc, min, Bool, cond, List, [], ◌∷◌, eqb}
use Rattle.std.proofs.Math.Option.{Option, none, some}
use Rattle.blocks.specs.Block.{PartRow, End, Arm, Loop, Back, Send, Receive, Other, part_row, block_rows, is_head}

-- one step towards the head: Loop to body, Back to its loop; any other row is where it stays
unfoldable pub onward : (ℕ → ℕ) → ℕ → PartRow → ℕ
onward go i (End a b c) = i
onward go i (Arm l c n) = i
onward go i (Loop b x y) = go b
onward go i (Back j x y) = go j
onward go i (Send q f x) = i
onward go i (Receive q f x) = i
onward go i Other = i

-- row i of role r's block, followed n times
unfoldable pub follow : ℕ → List ℕ → ℕ → ℕ → ℕ → ℕ
unfolding onward
follow zero ts roles r i = i
follow (suc n) ts roles r i = onward (λ j. follow n ts roles r j) i (part_row ts roles r i)

-- the head of row i. Whoever follows as often as the block has rows without reaching a head meets a row again, and has none
unfoldable pub head : List ℕ → ℕ → ℕ → ℕ → ℕ
unfolding follow
head ts roles r i = follow (block_rows ts roles) ts roles r i

abbrev pub has_head : List ℕ → ℕ → ℕ → ℕ → Bool
has_head ts roles r i = is_head (part_row ts roles r (head ts roles r i))

-- an arm: its label and its continuation
pub record ArmAt : Type 0 where
  pub label : ℕ
  pub continuation : ℕ

-- an Arm before the arms after it; any other row has none
unfoldable pub arm_then : (ℕ → List ArmAt) → PartRow → List ArmAt
arm_then more (End a b c) = []
arm_then more (Arm l c n) = record { label = l; continuation = c } ∷ more n
arm_then more (Loop b x y) = []
arm_then more (Back j x y) = []
arm_then more (Send q f x) = []
arm_then more (Receive q f x) = []
arm_then more Other = []

-- the chain of arms that starts at row i, 0 for none; n bounds its length
unfoldable pub chain : ℕ → List ℕ → ℕ → ℕ → ℕ → List ArmAt
unfolding arm_then
chain zero ts roles r i = []
chain (suc n) ts roles r zero = []
chain (suc n) ts roles r (suc i) = arm_then (λ j. chain n ts roles r j) (part_row ts roles r (suc i))

-- the arms of the head in row i: no chain is longer than its block
abbrev pub arms_of : List ℕ → ℕ → ℕ → ℕ → List ArmAt
arms_of ts roles r first = chain (block_rows ts roles) ts roles r first

-- the continuation of the arm with that label
unfoldable pub find : ℕ → List ArmAt → Option ℕ
find l [] = none
find l (a ∷ as') = cond (eqb l a.label) (some a.continuation) (find l as')

-- the lowest label of these arms, or k where none is lower
unfoldable pub lowest_label : ℕ → List ArmAt → ℕ
lowest_label k [] = k
lowest_label k (a ∷ as') = lowest_label (min k a.label) as'
