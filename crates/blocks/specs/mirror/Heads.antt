-- How far the rows of a block are from their heads, and what is noted of it. Assumes nothing.
use Rattle.std.specs.Prelude.{ℕ, ◌+◌, ◌*◌, ◌-◌, ◌<◌, ◌≤◌, Bool, false, List, ◌⊎◌, ◌≡◌, leb, length, get_or, Option, MatchOption}
use Rattle.words.specs.Below.{every}
use Rattle.table.specs.Limits.{base}
use Rattle.blocks.specs.Block.{part_row, block_rows, is_head}
use Rattle.blocks.specs.Head.{follow}
use Rattle.blocks.specs.Tables.{row_good}

-- row i of role r's block, followed n times, is a head
abbrev pub has_head_in : ℕ → List ℕ → ℕ → ℕ → ℕ → Bool
has_head_in n ts roles r i = is_head (part_row ts roles r (follow n ts roles r i))

-- d steps lead from row i to its head, and fewer do not
abbrev pub Far : List ℕ → ℕ → ℕ → ℕ → ℕ → Type 0
Far ts roles r i d = (n : ℕ) → has_head_in n ts roles r i ≡ leb d n

-- what is noted of row i of the block that begins at row `start`: its steps after `start`, or, where nothing is known of it, at most `start`
abbrev pub NotedOf : List ℕ → ℕ → ℕ → ℕ → ℕ → ℕ → Type 0
NotedOf ts roles r start i k = (k ≤ start + block_rows ts roles) × (start < k → Far ts roles r i (k - start))

-- there is room for each row of role r's block, and what is noted of it is right
abbrev pub Noted : List ℕ → ℕ → ℕ → List ℕ → Type 0
Noted ts roles r noted =
    (block_rows ts roles ≤ length noted)
    × ((i : ℕ) → i < block_rows ts roles → NotedOf ts roles r (r * block_rows ts roles) i (get_or noted i 0))

-- a row of the block is not good
abbrev pub Bad : List ℕ → ℕ → ℕ → Type 0
Bad ts roles r = every (λ i. row_good base ts roles r i) (block_rows ts roles) ≡ false

-- fewer steps than the block has rows lead from row i to no head, or they leave the block, which then is not good
abbrev pub Headless : List ℕ → ℕ → ℕ → ℕ → Type 0
Headless ts roles r i = Bad ts roles r ⊎ has_head_in (block_rows ts roles - 1) ts roles r i ≡ false

-- the steps from row i to its head, fewer than the block has rows, or none
abbrev pub Steps : List ℕ → ℕ → ℕ → ℕ → Option ℕ → Type 0
Steps ts roles r i steps = MatchOption steps (Headless ts roles r i) (λ d. (d < block_rows ts roles) × Far ts roles r i d)
