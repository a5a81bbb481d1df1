-- The customer's paper, 'Sessions': tables that are well formed for a step. Assumes nothing.
use Rattle.std.specs.Prelude.{ℕ, ◌*◌, Bool, false, ◌&&◌, ◌||◌, not, List, ltb, leb, eqb, length}
use Rattle.words.specs.Below.{every}
use Rattle.table.specs.Limits.{Limits}
use Rattle.table.specs.Rules.{roles_broken}
use Rattle.blocks.specs.Block.{PartRow, End, Arm, Loop, Back, Send, Receive, Other, part_row, block_rows, is_arm, is_loop, label}
use Rattle.blocks.specs.Head.{has_head}

-- a link from row i to row j of the block: of a higher number, inside the block, and j an Arm, or j no Arm
abbrev pub to_arm : List ℕ → ℕ → ℕ → ℕ → ℕ → Bool
to_arm ts roles r i j = ltb i j && ltb j (block_rows ts roles) && is_arm (part_row ts roles r j)

abbrev pub to_other : List ℕ → ℕ → ℕ → ℕ → ℕ → Bool
to_other ts roles r i j = ltb i j && ltb j (block_rows ts roles) && not (is_arm (part_row ts roles r j))

-- a peer is another role
abbrev pub is_peer : ℕ → ℕ → ℕ → Bool
is_peer roles r q = ltb q roles && not (eqb q r)

-- kinds, fields and links of row i of role r's block; row 0 is no Arm; labels in a chain rise; a Back names a Loop of a lower number
unfoldable pub row_holds : Limits → List ℕ → ℕ → ℕ → ℕ → PartRow → Bool
row_holds lim ts roles r i (End a b c) = eqb a 0 && eqb b 0 && eqb c 0
row_holds lim ts roles r i (Arm l c n) =
    not (eqb i 0) && ltb l lim.labels && to_other ts roles r i c
    && (eqb n 0 || to_arm ts roles r i n && ltb l (label (part_row ts roles r n)))
row_holds lim ts roles r i (Loop b x y) = to_other ts roles r i b && eqb x 0 && eqb y 0
row_holds lim ts roles r i (Back j x y) = ltb j i && is_loop (part_row ts roles r j) && eqb x 0 && eqb y 0
row_holds lim ts roles r i (Send q f x) = is_peer roles r q && to_arm ts roles r i f && eqb x 0
row_holds lim ts roles r i (Receive q f x) = is_peer roles r q && to_arm ts roles r i f && eqb x 0
row_holds lim ts roles r i Other = false

-- row i of role r's block is well formed, and has a head if it is no Arm
abbrev pub row_good : Limits → List ℕ → ℕ → ℕ → ℕ → Bool
row_good lim ts roles r i =
    let row = part_row ts roles r i in row_holds lim ts roles r i row && (is_arm row || has_head ts roles r i)

-- the words make equal blocks of 1 to the limit's rows
abbrev pub sizes_good : Limits → List ℕ → ℕ → Bool
sizes_good lim ts roles =
    eqb (roles * block_rows ts roles * 4) (length ts) && ltb 0 (block_rows ts roles) && leb (block_rows ts roles) lim.rows

-- 12 TABLES is given exactly when this does not hold
unfoldable pub tables_good : Limits → List ℕ → ℕ → Bool
unfolding row_holds
tables_good lim ts roles =
    not (roles_broken lim roles) && sizes_good lim ts roles
    && every (λ r. every (λ i. row_good lim ts roles r i) (block_rows ts roles)) roles
