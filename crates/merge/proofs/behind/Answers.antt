-- `merge::behind` meets its contract. Assumes nothing.
use native.Mathlib.Omega.{arith}
use Rattle.merge.proofs.Ends.{behind_end, behind_some, behind_none}
use Rattle.merge.proofs.behind.Goals as goal

pub returns-then-src-a : goal.returns-then-src-a
returns-then-src-a c = (behind_end _ _ c.if-src-a.true, omega arith)

pub returns-in-Some : goal.returns-in-Some
returns-in-Some c = (behind_some _ _ _ c.in-Some.ensures.value, omega arith)

pub returns-in-None : goal.returns-in-None
returns-in-None c = (behind_none _ _ c.if-src-a.false c.in-None.ensures.value, omega arith)
