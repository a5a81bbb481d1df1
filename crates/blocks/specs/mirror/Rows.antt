-- What the code's rows say, and what the lookup of an arm answers. Assumes nothing.
use Rattle.std.specs.Prelude.{ℕ, zero, suc, ◌+◌, min, cond, List, [], ◌∷◌, eqb, Result, Ok, Err}
use Rattle.std.proofs.Math.Option.{Option, none, some}
use Rattle.words.specs.Rows.{word}
use Rattle.blocks.specs.Block as part
use Rattle.blocks.specs.Block.{PartRow}
use Rattle.blocks.specs.Head.{ArmAt, arm_then, onward}
use Rattle.blocks.specs.declared.rows.Row.{Row}
use Rattle.blocks.specs.declared.rows.Row.TheVariants.{End, Arm, Loop, Back, Send, Receive, Other}

-- what a row says
abbrev pub said : Row → PartRow
said (End a b c) = part.End a b c
said (Arm l c n) = part.Arm l c n
said (Loop b x y) = part.Loop b x y
said (Back j x y) = part.Back j x y
said (Send q f x) = part.Send q f x
said (Receive q f x) = part.Receive q f x
said (Other kind a b c) = part.Other

-- its four words
abbrev pub four_of : Row → List ℕ
four_of (End a b c) = 0 ∷ a ∷ b ∷ c ∷ []
four_of (Arm l c n) = 2 ∷ l ∷ c ∷ n ∷ []
four_of (Loop b x y) = 3 ∷ b ∷ x ∷ y ∷ []
four_of (Back j x y) = 4 ∷ j ∷ x ∷ y ∷ []
four_of (Send q f x) = 5 ∷ q ∷ f ∷ x ∷ []
four_of (Receive q f x) = 6 ∷ q ∷ f ∷ x ∷ []
four_of (Other kind a b c) = kind ∷ a ∷ b ∷ c ∷ []

-- row i of the block that begins at row `start`
abbrev pub row_at : List ℕ → ℕ → ℕ → PartRow
row_at ts start i =
    let at = start + i in part.part_row_of (word ts at 0) (word ts at 1) (word ts at 2) (word ts at 3)

-- that row, followed n times towards its head
unfoldable pub follow_at : ℕ → List ℕ → ℕ → ℕ → ℕ
follow_at zero ts start i = i
follow_at (suc n) ts start i = onward (λ j. follow_at n ts start j) i (row_at ts start i)

-- the chain of arms that starts at row i of that block, 0 for none; n bounds its length
unfoldable pub chain_at : ℕ → List ℕ → ℕ → ℕ → List ArmAt
chain_at zero ts start i = []
chain_at (suc n) ts start zero = []
chain_at (suc n) ts start (suc i) = arm_then (λ j. chain_at n ts start j) (row_at ts start (suc i))

-- the lookup's answer, where k is the lowest label of the arms
abbrev pub found_of : Option ℕ → ℕ → Result ℕ ℕ
found_of none k = Err k
found_of (some c) k = Ok c

-- the lookup in one walk: k is the lowest label so far
unfoldable pub lookup : ℕ → ℕ → List ArmAt → Result ℕ ℕ
lookup l k [] = Err k
lookup l k (a ∷ as') = cond (eqb l a.label) (Ok a.continuation) (lookup l (min k a.label) as')
