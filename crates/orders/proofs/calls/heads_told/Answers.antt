-- `orders::calls::heads_told` meets its contract. Assumes nothing.
use mathlib.Core.Path.{◌∙◌}
use native.Mathlib.Omega.{arith}
use lib.ListN.{replicate}
use Rattle.orders.proofs.Lists.{over_rest}
use Rattle.orders.proofs.calls.heads_told.Goals as goal

pub returns : goal.returns
returns c = c.from-2.ensures.0 ∙ (c.wide.ensures.1 ∙ (over_rest _ _ (replicate 8 0) (omega arith) ∙ rw c.from.ensures))
