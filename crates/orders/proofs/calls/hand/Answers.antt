-- `orders::calls::hand` meets its contract. Assumes nothing.
use mathlib.Core.Path.{refl, ◌∙◌}
use Rattle.table.specs.Limits.{base}
use Rattle.session.specs.Results.{told}
use Rattle.orders.proofs.Replies.{call_hand, no_hand, none_of, some_of, hand_said}
use Rattle.orders.proofs.calls.hand.Goals as goal

pub returns-in_err-state : goal.returns-in_err-state
returns-in_err-state c = rw c.from_residual.ensures (no_hand _ _ (none_of _ _ c.in_err-state.ensures), refl)

pub returns : goal.returns
returns c =
    let state = some_of _ _ _ c.in_ok-state.ensures in
    let number = c.from-number.ensures ∙ c.number.ensures in
    rw (call_hand _ _ state.0, ← (state.1))
    (hand_said _ _ _ _ _ _ _ (told base c.awaited-answer.result) c.awaited-answer.ensures c.tables.ensures number c.roles_told.ensures c.tell.ensures c.called.ensures)
