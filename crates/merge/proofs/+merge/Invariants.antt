-- The measure of `merge::merge` is the number of rows left. Assumes nothing.
use Rattle.merge.proofs.+merge.Given as goal

abbrev pub decreases-merge : goal.decreases-merge
decreases-merge l = l.rows.now.left
