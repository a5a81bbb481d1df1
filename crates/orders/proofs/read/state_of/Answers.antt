-- `orders::read::state_of` meets its contract: the numbers are split, and each part is read. Assumes nothing.
use native.Mathlib.Omega.{arith}
use Rattle.orders.proofs.Lists.{too_few, not_heads, not_counts, not_labels, not_payloads, state_read}
use Rattle.orders.proofs.read.state_of.Goals as goal

pub returns-in_err-heads : goal.returns-in_err-heads
returns-in_err-heads c = rw (c.from_residual.ensures, too_few c.args.numbers.now (omega (arith, c.in_err-heads.ensures.cases)))

pub returns-in_err-counts : goal.returns-in_err-counts
returns-in_err-counts c =
    let x = c.in_ok-heads.ensures.cases in
    rw (c.from_residual-in_err-counts.ensures, too_few c.args.numbers.now (omega (arith, c.in_err-counts.ensures.cases, x.4)))

pub returns-in_err-labels : goal.returns-in_err-labels
returns-in_err-labels c =
    let x = c.in_ok-heads.ensures.cases in
    let y = c.in_ok-counts.ensures.cases in
    rw (c.from_residual-in_err-labels.ensures, too_few c.args.numbers.now (omega (arith, c.in_err-labels.ensures.cases, x.4, y.4)))

pub returns-in_err-heads-2 : goal.returns-in_err-heads-2
returns-in_err-heads-2 c =
    rw (c.from_residual-in_err-heads-2.ensures, not_heads c.args.numbers.now _ _ _ _ _ _ c.in_ok-heads.ensures.cases c.in_ok-counts.ensures.cases c.in_ok-labels.ensures.cases c.in_err-heads-2.ensures)

pub returns-in_err-counts-2 : goal.returns-in_err-counts-2
returns-in_err-counts-2 c =
    rw (c.from_residual-in_err-counts-2.ensures, not_counts c.args.numbers.now _ _ _ _ _ _ c.in_ok-heads.ensures.cases c.in_ok-counts.ensures.cases c.in_ok-labels.ensures.cases c.in_err-counts-2.ensures)

pub returns-in_err-labels-2 : goal.returns-in_err-labels-2
returns-in_err-labels-2 c =
    rw (c.from_residual-in_err-labels-2.ensures, not_labels c.args.numbers.now _ _ _ _ _ _ c.in_ok-heads.ensures.cases c.in_ok-counts.ensures.cases c.in_ok-labels.ensures.cases c.in_err-labels-2.ensures)

pub returns-in_err-payloads : goal.returns-in_err-payloads
returns-in_err-payloads c =
    rw (c.from_residual-in_err-payloads.ensures, not_payloads c.args.numbers.now _ _ _ _ _ _ c.in_ok-heads.ensures.cases c.in_ok-counts.ensures.cases c.in_ok-labels.ensures.cases (λ i. omega (arith, c.type_inv.numbers i)) c.in_err-payloads.ensures)

pub returns : goal.returns
returns c =
    state_read c.args.numbers.now _ _ _ _ _ _ c.in_ok-heads.ensures.cases c.in_ok-counts.ensures.cases c.in_ok-labels.ensures.cases _ _ _ _
    c.in_ok-heads-2.ensures c.in_ok-counts-2.ensures c.in_ok-labels-2.ensures c.in_ok-payloads.ensures
