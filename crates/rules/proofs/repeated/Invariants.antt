-- `rules::repeated` meets its contract. The invariants: the walk is at the chain's arm of that number, no arm before it repeats a label, and
-- no arm before the one compared with has its label. Assumes nothing.
use Prim.Native.Nat.{ℕ, ◌≤◌, ◌<◌, ◌-◌}
use mathlib.Core.Path.{◌≡◌}
use mathlib.Core.Bool.{false}
use Rattle.words.specs.Rows.{rows_of}
use Rattle.rules.specs.mirror.Chain.{nth, stops}
use Rattle.rules.proofs.Chain.{same}
use Rattle.rules.proofs.repeated.Given as goal

abbrev pub invariant-loop : goal.invariant-loop
invariant-loop l = (l.earlier ≡ nth l.words l.first l.counter) × ((m : ℕ) → m < l.counter → same l.words l.first l.passed m ≡ false)

abbrev pub invariant-chain : goal.invariant-chain
invariant-chain l = (l.row ≡ nth l.words l.first l.passed) × (l.passed ≤ rows_of l.words) × ((k : ℕ) → k < l.passed → stops l.words l.first k ≡ false)

abbrev pub decreases-chain : goal.decreases-chain
decreases-chain l = rows_of l.words - l.passed
