-- `projection::Projection::walk` meets its contract. The invariant: the part of the first row is that of the row here, with words and marks
-- around it. Assumes nothing.
use native.Mathlib.Omega.{arith}
use Rattle.projection.proofs.Steps.{none_left}
use Rattle.projection.proofs.Walks.{comes_start, comes_on, walks, walks_nowhere}
use Rattle.projection.proofs.Projection.walk.Goals as goal

pub loop-less-init : goal.loop-less-init
loop-less-init c = comes_start _ _ _ _ _

pub overflow_add-marks : goal.overflow_add-marks
overflow_add-marks c =
    let few = c.enter.ensures.few _ c.in-Some.is in omega (arith, few, c.loop-less-test.true, c.loop-less.invariant.within)

pub loop-less-preserved : goal.loop-less-preserved
loop-less-preserved c =
    comes_on c.in-Some.step c.loop-less.invariant c.plan_at-plan.ensures c.enter.ensures c.in-Some.is c.enter.auto.work (omega (arith, c.loop-less-test.true))

pub returns-in_default : goal.returns-in_default
returns-in_default c =
    walks c.loop-less.invariant c.plan_at-plan.ensures c.enter.ensures (none_left _ c.in_default.not-Some) (omega (arith, c.loop-less-test.true))

pub returns : goal.returns
returns c = walks_nowhere c.loop-less.invariant (omega arith)
