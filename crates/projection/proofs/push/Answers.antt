-- `projection::push` meets its contract. Assumes nothing.
use native.Mathlib.Omega.{arith}
use Rattle.projection.proofs.Steps.{push_stack}
use Rattle.projection.proofs.push.Goals as goal

pub returns-then-at-work : goal.returns-then-at-work
returns-then-at-work c = record { gives = λ s k l. push_stack _ k l }

-- `work` is full
pub returns : goal.returns
returns c = record { gives = λ s k l. absurd (omega arith) }
