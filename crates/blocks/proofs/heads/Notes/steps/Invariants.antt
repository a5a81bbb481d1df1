-- `heads::Notes::steps` meets its contract. The invariant: the steps taken lead here, inside the block. Assumes nothing.
use Rattle.std.proofs.Common.{◌<◌}
use Rattle.blocks.proofs.Far.{Came}
use Rattle.blocks.proofs.heads.Notes.steps.Given as goal

abbrev pub invariant-loop-taken : goal.invariant-loop-taken
invariant-loop-taken l =
    (l.at < l.self.block.rows) × Came l.self.block.tables.now l.self.block.roles l.self.block.role l.row l.taken l.at
