-- `orders::calls::received` meets its contract. Assumes nothing.
use mathlib.Core.Path.{◌∙◌}
use Rattle.table.specs.Limits.{base}
use Rattle.session.specs.Results.{delivered}
use Rattle.orders.proofs.Replies.{received_said, message_in}
use Rattle.orders.proofs.calls.received.Goals as goal

pub returns : goal.returns
returns c =
    let message = message_in c.args.answer.result _ c.unwrap_or-message.ensures in
    received_said _ _ _ _ (delivered base c.args.answer) _ _ _ _ (c.from-number.ensures ∙ c.number.ensures) (c.from-label.ensures ∙ message.0) message.1
    (c.from-offered.ensures ∙ c.offered.ensures) c.waiting.ensures c.tell.ensures c.called.ensures
