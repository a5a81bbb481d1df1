-- `projection::Projection::at_exchange` meets its contract. Assumes nothing.
use mathlib.Core.Path.{sym, ◌∙◌}
use Rattle.projection.proofs.Rows.{send_plan, receive_plan, others_plan}
use Rattle.projection.proofs.Projection.at_exchange.Goals as goal

pub returns-then-self-from : goal.returns-then-self-from
returns-then-self-from c =
    λ cs m l d. send_plan c.args.self.now _ _ cs m (c.if-self-from.true ∙ c.from.ensures) c.word.ensures l

pub returns-then-self-from-2 : goal.returns-then-self-from-2
returns-then-self-from-2 c =
    λ cs m l d. receive_plan c.args.self.now _ _ cs m (λ e. c.if-self-from.false (e ∙ sym c.from.ensures)) (c.if-self-from-2.true ∙ c.from-2.ensures)
    c.word-then-self-from-2.ensures l

pub returns : goal.returns
returns c = λ cs m l d. others_plan c.args.self.now _ _ cs m (λ e. c.if-self-from.false (e ∙ sym c.from.ensures)) (λ e. c.if-self-from-2.false (e ∙ sym c.from-2.ensures)) d
