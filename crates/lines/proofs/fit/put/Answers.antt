-- `lines::fit::put` meets its contract. Assumes nothing.
use native.Mathlib.Omega.{arith}
use Rattle.lines.proofs.Putting.{none_put, some_put}
use Rattle.lines.proofs.fit.put.Goals as goal

pub returns-then-out-at : goal.returns-then-out-at
returns-then-out-at g c = none_put _ _ _ (omega arith)

pub returns : goal.returns
returns g c = some_put _ _ _ _ _ _ c.if-out-at.false c.min.ensures (omega arith) c.copy_from_slice.ensures.after
