-- `heads::Notes::block_good` meets its contract. The loop's invariant: every row before this one is good. Assumes nothing.
use Rattle.std.proofs.Common.{◌≡◌, ◌<◌, ℕ, true}
use Rattle.table.specs.Limits.{base}
use Rattle.blocks.specs.Tables.{row_good}
use Rattle.blocks.proofs.heads.Notes.block_good.Given as goal

abbrev pub invariant-loop-row : goal.invariant-loop-row
invariant-loop-row l =
    (l.self.block ≡ l.initial.self.block)
    × ((k : ℕ) → k < l.row → row_good base l.initial.self.block.tables.now l.initial.self.block.roles l.initial.self.block.role k ≡ true)
