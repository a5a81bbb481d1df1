-- `gather::of_each` meets its contract. Assumes nothing.
use Rattle.std.proofs.Common.{◌≡◌, ap, sym, ◌∙◌, arith, length}
use native.Mathlib.Numerals.{add-one}
use Rattle.std.proofs.lemmas.Result.{err_from_is_err_and}
use Rattle.table.specs.Limits.{base}
use Rattle.hours.specs.mirror.Tally.{size_refused}
use Rattle.hours.proofs.Turns.{sized, refused_is, early_report, fine_report}
use Rattle.hours.proofs.gather.of_each.Goals as goal

pub returns-in_err-check : goal.returns-in_err-check
returns-in_err-check g c rs l =
    let p = err_from_is_err_and c.from_residual.result c.from_residual.ensures.1 in
    let refused = ap (size_refused base c.args.roles) l.long ∙ sym c.check.ensures ∙ c.in_err-check.was in
    rw (p.1, p.2) (refused_is base rs c.args.roles _ refused)

pub loop-i-init : goal.loop-i-init
loop-i-init g c rs l = c.start-tally.ensures rs c.args.roles

pub returns-in_err-step : goal.returns-in_err-step
returns-in_err-step g c rs l =
    let p = err_from_is_err_and c.from_residual-in_err-step.result c.from_residual-in_err-step.ensures.1 in
    let i = c.loop-i.i in
    let fine = c.loop-i.invariant rs l in
    let q = c.in_err-step.ensures rs (l.each i _ c.loop-i-test.true c.read.ensures) fine in
    let s = sized base c.args.roles (length rs) (ap (size_refused base c.args.roles) l.long ∙ sym c.check.ensures ∙ c.in_ok-check.was) in
    rw (p.1, p.2, q.0) (early_report base (omega arith) rs c.args.roles s i (omega (arith, l.long, c.loop-i-test.true)) q.1 fine.rising)

pub loop-i-preserved : goal.loop-i-preserved
loop-i-preserved g c rs l =
    rw add-one (c.in_ok-step.ensures rs (l.each c.loop-i.i _ c.loop-i-test.true c.read.ensures) (c.loop-i.invariant rs l))

pub returns : goal.returns
returns g c rs l =
    let s = sized base c.args.roles (length rs) (ap (size_refused base c.args.roles) l.long ∙ sym c.check.ensures ∙ c.in_ok-check.was) in
    let all : c.loop-i.i ≡ length rs = omega (arith, l.long, c.loop-i-test.false, c.loop-i.auto.i-end) in
    c.finish.ensures ∙ fine_report base (omega arith) rs c.args.roles s c.loop-i.tally (rw (← all) (c.loop-i.invariant rs l))
