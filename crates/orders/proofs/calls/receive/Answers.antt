-- `orders::calls::receive` meets its contract. Assumes nothing.
use native.Mathlib.Omega.{arith}
use Rattle.table.specs.Limits.{base}
use Rattle.session.specs.Results.{delivered}
use Rattle.orders.proofs.Replies.{receive_said}
use Rattle.orders.proofs.calls.receive.Goals as goal

pub returns : goal.returns
returns c = receive_said _ _ _ _ c.tables.ensures {a = delivered base c.receive-answer.result} (omega (arith, c.in-len2.len_at_least, c.in-len2.len_below)) c.receive-answer.ensures c.received.ensures
