-- `tables::Blocks::of` meets its contract. The loop's invariant: every block before this one is good. Assumes nothing.
use Rattle.std.proofs.Common.{◌≡◌, ◌<◌, ◌≤◌, ℕ, true}
use Rattle.words.specs.Below.{every}
use Rattle.table.specs.Limits.{base}
use Rattle.blocks.specs.Block.{block_rows}
use Rattle.blocks.specs.Tables.{row_good}
use Rattle.blocks.proofs.tables.Blocks.of.Given as goal

abbrev pub invariant-loop-role : goal.invariant-loop-role
invariant-loop-role l =
    (l.notes.block.tables.now ≡ l.tables) × (l.notes.block.roles ≡ l.roles) × (l.notes.block.role ≤ l.role)
    × ((k : ℕ) → k < l.role → every (λ i. row_good base l.tables l.roles k i) (block_rows l.tables l.roles) ≡ true)
