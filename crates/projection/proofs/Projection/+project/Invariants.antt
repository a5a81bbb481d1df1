-- The measure of `project`, `choose`, `own` and `fold` is the number of links left to follow, twice, so that `choose` stands below the call
-- that walked to it. Assumes nothing.
use Rattle.std.proofs.Common.{◌+◌, ◌*◌}
use Rattle.projection.proofs.Projection.+project.Given as goal

abbrev pub decreases-choose : goal.decreases-choose
decreases-choose l = 2 * l.way.left + 2

abbrev pub decreases-fold : goal.decreases-fold
decreases-fold l = 2 * l.left + 1

abbrev pub decreases-own : goal.decreases-own
decreases-own l = 2 * l.left + 1

abbrev pub decreases-project : goal.decreases-project
decreases-project l = 2 * l.left + 1
