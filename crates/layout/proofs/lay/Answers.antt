-- `layout::lay` meets its contract. Assumes nothing.
use Rattle.layout.proofs.Lays.{lay_done}
use Rattle.layout.proofs.lay.Goals as goal

pub returns : goal.returns
returns c = lay_done _ _ _ _ _ _ _ c.loop-out.invariant.0 c.is_in_range.ensures c.loop-out-test.false
