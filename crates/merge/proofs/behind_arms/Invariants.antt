-- `merge::behind_arms` meets its contract. The loop's invariant: what is left to pass, in some number of turns that suffices, leads
-- where the whole leads. The measure is the number of words left. Assumes nothing.
use Prim.Native.Nat.{ℕ, ◌+◌, ◌-◌, ◌≤◌}
use mathlib.Core.Path.{◌≡◌}
use lib.ListN.{length}
use Rattle.merge.specs.mirror.Merging.{behind_arms_on}
use Rattle.merge.proofs.behind_arms.Given as goal

abbrev pub invariant-loop-x : goal.invariant-loop-x
invariant-loop-x l = (n : ℕ) × (length l.src ≤ l.x + n) × (behind_arms_on (length l.src) l.src l.a l.y ≡ behind_arms_on n l.src l.x l.y)

abbrev pub decreases-loop-x : goal.decreases-loop-x
decreases-loop-x l = length l.src - l.x
