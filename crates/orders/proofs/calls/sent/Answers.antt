-- `orders::calls::sent` meets its contract. Assumes nothing.
use mathlib.Core.Path.{◌∙◌}
use Rattle.table.specs.Limits.{base}
use Rattle.session.specs.Results.{answered}
use Rattle.orders.proofs.Replies.{sent_said}
use Rattle.orders.proofs.calls.sent.Goals as goal

pub returns : goal.returns
returns c =
    sent_said _ _ _ _ (answered base c.args.answer) _ _ (c.from-number.ensures ∙ c.number.ensures) (c.from-offered.ensures ∙ c.offered.ensures) c.waiting.ensures c.tell.ensures c.called.ensures
