-- `rules::lowest_twice` meets its contract. The invariant: the least of what was found at the rows passed. Assumes nothing.
use Rattle.table.specs.Rows.{row as row_at}
use Rattle.rules.specs.mirror.Chain.{chain_of}
use Rattle.rules.specs.mirror.Blame.{IsLeast}
use Rattle.rules.proofs.lowest_twice.Given as goal

abbrev pub invariant-loop-row : goal.invariant-loop-row
invariant-loop-row l = IsLeast (λ i. chain_of l.words (row_at l.words i)) l.row l.least
