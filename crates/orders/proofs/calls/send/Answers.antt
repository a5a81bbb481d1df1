-- `orders::calls::send` meets its contract. Assumes nothing.
use native.Mathlib.Omega.{arith}
use Rattle.table.specs.Limits.{base}
use Rattle.session.specs.Results.{answered}
use Rattle.orders.proofs.Replies.{send_said}
use Rattle.orders.proofs.calls.send.Goals as goal

pub returns : goal.returns
returns c = send_said _ _ _ _ c.tables.ensures {a = answered base c.send-answer.result} (omega (arith, c.in-len4.len_at_least, c.in-len4.len_below)) c.send-answer.ensures c.sent.ensures
