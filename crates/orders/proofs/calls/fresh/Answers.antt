-- `orders::calls::fresh` meets its contract. Assumes nothing.
use mathlib.Core.Path.{refl, sym, ◌∙◌}
use borrow.Author.Tests.{eqb-true, eqb-false}
use Rattle.session.specs.Results.{answered}
use Rattle.table.specs.Limits.{base}
use Rattle.orders.proofs.Replies.{call_fresh, no_fresh, fresh_said}
use Rattle.orders.proofs.calls.fresh.Goals as goal

pub returns-then-not-is_empty : goal.returns-then-not-is_empty
returns-then-not-is_empty c = (no_fresh _ _ (eqb-false _ 0 (sym c.is_empty.ensures ∙ c.if-not-is_empty.true)), refl)

pub returns : goal.returns
returns c =
    let none = eqb-true _ 0 (sym c.is_empty.ensures ∙ c.if-not-is_empty.false) in
    rw (call_fresh _ _ none) (fresh_said _ _ _ _ (answered base c.fresh-answer.result) c.fresh-answer.ensures c.tables.ensures (c.heads_told.ensures ∙ rw c.number.ensures) c.called.ensures)
