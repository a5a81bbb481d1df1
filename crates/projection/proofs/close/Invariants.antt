-- `projection::close` meets its contract. Assumes nothing.
use mathlib.Core.Path.{◌≡◌}
use lib.ListN.{length}
use Rattle.projection.specs.mirror.Projects.{Closed}
use Rattle.projection.proofs.close.Given as goal

abbrev pub invariant-loop : goal.invariant-loop
invariant-loop l = (length l.work ≡ length l.initial.work) × Closed l.counter l.initial.work l.at l.work l.top
