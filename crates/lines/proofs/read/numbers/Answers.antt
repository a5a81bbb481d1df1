-- `lines::read::numbers` meets its contract: what is left to read comes to the same as all behind the letter. Assumes nothing.
use mathlib.Core.Path.{refl}
use native.Mathlib.Omega.{arith}
use Rattle.lines.proofs.Counting.{begun, read_on, no_letter, too_long, line_done}
use Rattle.lines.proofs.read.numbers.Goals as goal

pub returns-in_err-_letter : goal.returns-in_err-_letter
returns-in_err-_letter c = rw c.from_residual.ensures (no_letter c.args.line.now c.args.out.now c.in_err-_letter.ensures.cases)

pub returns-then-out-line : goal.returns-then-out-line
returns-then-out-line c = too_long c.args.line.now c.args.out.now c.if-out-line.true

pub loop-byte-init : goal.loop-byte-init
loop-byte-init c = (refl, begun _ _)

pub loop-byte-preserved : goal.loop-byte-preserved
loop-byte-preserved c =
    let stored = c.store-at.ensures in
    (omega arith, read_on _ _ _ _ _ _ _ _ _ c.loop-byte-test.true stored.0 stored.1 c.step-place.ensures c.loop-byte.invariant.1)

pub returns : goal.returns
returns c =
    let stored = c.store-at-2.ensures in
    line_done _ _ _ _ _ _ _ _ _ _ _ _ c.in_ok-_letter.ensures.cases.0 c.if-out-line.false c.loop-byte-test.false stored.0 stored.1 c.loop-byte.invariant.1 c.whole.ensures c.then_some.ensures
