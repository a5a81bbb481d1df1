-- `opening::open` meets its contract: accepted, the room is filled; refused, it is not touched. Assumes nothing.
use Rattle.std.proofs.Common.{sym, ap}
use Rattle.std.proofs.lemmas.Result.{err_from_is_err_and}
use native.Mathlib.Omega.{arith}
use Rattle.table.specs.Limits.{base}
use Rattle.table.specs.Check.{Verdict}
use Rattle.table.proofs.Refusals.{some_number}
use Rattle.opening.specs.Opening.{room_of}
use Rattle.opening.proofs.Promises.{refused_room}
use Rattle.opening.proofs.open.Goals as goal

pub returns-in_err-judge : goal.returns-in_err-judge
returns-in_err-judge c =
    let p = err_from_is_err_and c.from_residual.result c.from_residual.ensures.1 in
    let some = some_number c.in_err-judge.field-0.0.rule in
    let v = c.in_err-judge.ensures.verdict in
    (rw (p.1, p.2) v, sym (refused_room base c.args.table.now c.args.roles _ (λ e. absurd (omega (arith, ap (λ (w : Verdict). w.number) v)))))

pub returns : goal.returns
unfolding room_of
returns c =
    let v = c.in_ok-judge.ensures.verdict in
    (v, rw (← v) c.fill.ensures)
