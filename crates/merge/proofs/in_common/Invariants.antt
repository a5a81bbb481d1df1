-- `merge::in_common` meets its contract. The loop's invariant: what is left to pass, in some number of turns that suffices, leads where the whole
-- leads, and no more actions are counted than words were passed. The measure is the number of words left. Assumes nothing.
use Prim.Native.Nat.{ℕ, ◌+◌, ◌-◌, ◌≤◌}
use mathlib.Core.Path.{◌≡◌}
use lib.ListN.{length}
use Rattle.merge.specs.mirror.Merging.{common_on}
use Rattle.merge.proofs.in_common.Given as goal

abbrev pub invariant-loop-x : goal.invariant-loop-x
invariant-loop-x l =
    (n : ℕ) × (length l.src ≤ l.x + n) × (l.marks ≤ l.x) × (common_on (length l.src) l.src l.a l.b 0 ≡ common_on n l.src l.x l.y l.marks)

abbrev pub decreases-loop-x : goal.decreases-loop-x
decreases-loop-x l = length l.src - l.x
