-- `heads::Notes::note` meets its contract. The invariant: the head is as far from here as is left. Assumes nothing.
use Rattle.std.proofs.Common.{◌≡◌, ◌-◌}
use Rattle.blocks.specs.mirror.Heads.{Far}
use Rattle.blocks.proofs.heads.Notes.note.Given as goal

abbrev pub invariant-loop-taken : goal.invariant-loop-taken
invariant-loop-taken l =
    (l.self.block ≡ l.initial.self.block) × Far l.self.block.tables.now l.self.block.roles l.self.block.role l.at (l.far - l.taken)
