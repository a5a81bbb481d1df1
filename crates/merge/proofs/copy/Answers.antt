-- `merge::copy` meets its contract. Assumes nothing.
use Rattle.merge.proofs.Ends.{copy_nothing, copy_some, copy_none}
use Rattle.merge.proofs.copy.Goals as goal

pub returns-then-room-eq0 : goal.returns-then-room-eq0
returns-then-room-eq0 c = copy_nothing _ _ _ _ _ _ _ c.saturating_sub.ensures c.saturating_sub-2.ensures c.min-room.ensures c.if-room-eq0.true

pub returns-in-Some : goal.returns-in-Some
returns-in-Some c =
    copy_some _ _ _ _ _ _ _ _ _ c.saturating_sub.ensures c.saturating_sub-2.ensures c.min-room.ensures c.in-Some.ensures.value c.put.ensures.1

pub returns-in-None : goal.returns-in-None
returns-in-None c =
    copy_none _ _ _ _ _ _ _ _ c.saturating_sub.ensures c.saturating_sub-2.ensures c.min-room.ensures c.in-None.ensures.value c.put-in-None.ensures.1
