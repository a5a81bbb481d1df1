-- `merge::fill` meets its contract. Assumes nothing.
use Rattle.merge.proofs.Puts.{fill_nothing, fill_leaves}
use Rattle.merge.proofs.fill.Goals as goal

pub returns-then-count-eq0 : goal.returns-then-count-eq0
returns-then-count-eq0 c = fill_nothing _ _ _ _ _ _ c.saturating_sub.ensures c.min-count.ensures c.if-count-eq0.true

pub returns : goal.returns
returns c = fill_leaves _ _ _ _ _ _ _ c.saturating_sub.ensures c.min-count.ensures c.if-count-eq0.false (c.fill.ensures.after (λ y h. h))
