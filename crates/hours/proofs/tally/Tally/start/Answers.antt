-- `Tally::start` meets its contract. Assumes nothing.
use mathlib.Core.Path.{refl}
use native.Mathlib.Omega.{arith}
use Rattle.words.specs.Below.{sum}
use Rattle.words.proofs.Zeros.{zeros}
use Rattle.hours.specs.mirror.Sums.{SUMS}
use Rattle.hours.specs.mirror.Tally.{clean}
use Rattle.hours.proofs.tally.Tally.start.Goals as goal

pub invariant_of-result : goal.invariant_of-result
unfolding sum
invariant_of-result c = record { near = omega arith; full = refl }

pub returns : goal.returns
unfolding sum
returns c rs roles =
    record { rising = λ k l. absurd (omega arith); noted = clean (λ k l. absurd (omega arith)); last = refl; slot = refl; sums = λ k l. zeros SUMS k }
