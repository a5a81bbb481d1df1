-- `projection::reach::kept_roles` meets its contract: rows are taken from the last to the first. Assumes nothing.
use Rattle.projection.proofs.Filling.{Passing}
use Rattle.projection.proofs.reach.kept_roles.Given as goal

abbrev pub invariant-loop-row : goal.invariant-loop-row
invariant-loop-row l = Passing l.table l.found l.kept l.row
