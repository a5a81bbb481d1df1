-- `rules::refuse_lowest` meets its contract. The invariant: no row before this one breaks the rule. Assumes nothing.
use Rattle.std.proofs.Common.{ℕ, ◌<◌, false}
use Rattle.rules.proofs.refuse_lowest.Given as goal

abbrev pub invariant-loop-place : goal.invariant-loop-place
invariant-loop-place g l = (k : ℕ) → k < l.place → goal.F-post g l.broken k false
