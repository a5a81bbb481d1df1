-- `rules::Names::of` meets its contract. The invariant: what the places say with what the rows still to come will add is what they are to say.
-- Assumes nothing.
use Rattle.words.specs.Rows.{rows_of}
use Rattle.rules.specs.mirror.Names.{named_by, times_of, Inside}
use Rattle.rules.proofs.Naming.{Filling}
use Rattle.rules.proofs.Names.of.Given as goal

abbrev pub invariant-loop-row : goal.invariant-loop-row
invariant-loop-row l = Filling l.words (named_by (rows_of l.words) l.rows) (times_of l.rows) l.row × Inside l.words (named_by 0 l.rows)
