-- `projection::Projection::enter` meets its contract. Assumes nothing.
use Rattle.projection.proofs.Walks.{enter_loop, enter_sole, enter_passed}
use Rattle.projection.proofs.Projection.enter.Goals as goal

pub returns-in-Body : goal.returns-in-Body
returns-in-Body c = rw c.in-Body.is (enter_loop c.push.ensures)

pub returns-in_ok-arm-in-Action : goal.returns-in_ok-arm-in-Action
returns-in_ok-arm-in-Action c =
    rw c.in-Action.is
    (enter_sole c.in_ok-arm-in-Action.arm c.if-first-eq0.false c.if-after-ne0.false c.after.ensures c.arm_at.ensures c.in_ok-arm-in-Action.was
    c.push-arms.ensures c.push-in-Action.ensures c.push-arms.auto.work)

pub returns-else-arm-ne0 : goal.returns-else-arm-ne0
returns-else-arm-ne0 c =
    rw c.in-Others.is (enter_passed c.in_ok-arm-in-Others.arm c.arm_at-in-Others.ensures c.in_ok-arm-in-Others.was c.if-arm-ne0.false)
