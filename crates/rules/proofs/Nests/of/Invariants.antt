-- `rules::Nests::of` meets its contract. The invariant: the places of the rows passed are filled. Assumes nothing.
use Rattle.rules.specs.mirror.Names.{around_of, near_of}
use Rattle.rules.proofs.Columns.{Columns}
use Rattle.rules.proofs.Nests.of.Given as goal

abbrev pub invariant-loop-row : goal.invariant-loop-row
invariant-loop-row l = Columns l.words (around_of l.rows) (near_of l.rows) l.row
