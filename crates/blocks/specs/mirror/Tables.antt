-- Rule 12: a link to the next arm, and the sizes. Assumes nothing.
use Rattle.std.specs.Prelude.{ℕ, Bool, cond, ◌&&◌, ◌||◌, not, List, ltb, eqb, Option, Some, None}
use Rattle.table.specs.Limits.{Limits}
use Rattle.table.specs.Rules.{roles_broken}
use Rattle.blocks.specs.Block.{part_row, block_rows, is_loop, label}
use Rattle.blocks.specs.Tables.{to_arm, sizes_good}

-- the arm after row i, an arm with the label l: none, or one with a higher label
abbrev pub to_next : List ℕ → ℕ → ℕ → ℕ → ℕ → ℕ → Bool
to_next ts roles r i l n = eqb n 0 || to_arm ts roles r i n && ltb l (label (part_row ts roles r n))

-- a Back's word in row i: a Loop of a lower number
abbrev pub to_loop : List ℕ → ℕ → ℕ → ℕ → ℕ → Bool
to_loop ts roles r i j = ltb j i && is_loop (part_row ts roles r j)

-- how many rows each block has, for sizes that are good
abbrev pub sized_rows : Limits → List ℕ → ℕ → Option ℕ
sized_rows lim ts roles = cond (not (roles_broken lim roles) && sizes_good lim ts roles) (Some (block_rows ts roles)) None
