-- `merge::join` meets its contract. Assumes nothing.
use Rattle.merge.proofs.Steps.{join_steps}
use Rattle.merge.proofs.join.Goals as goal

pub returns-then-whole : goal.returns-then-whole
returns-then-whole c =
    join_steps _ _ _ _ _ _ _ _ _ _ _ _ _ _ _ _ c.beginning-start.ensures c.skip-from.ensures c.merge-whole.ensures c.if-whole.true c.min-made.ensures c.put-end.ensures c.fill-top.ensures c.fill-at.ensures

pub returns-else-whole : goal.returns-else-whole
returns-else-whole c =
    join_steps _ _ _ _ _ _ _ _ _ _ _ _ _ _ _ _ c.beginning-start.ensures c.skip-from.ensures c.merge-whole.ensures c.if-whole.false c.min-made.ensures c.put-end.ensures c.fill-top.ensures c.fill-at.ensures
