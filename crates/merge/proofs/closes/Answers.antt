-- `merge::closes` meets its contract. Assumes nothing.
use native.Mathlib.Omega.{arith}
use Rattle.merge.proofs.Steps.{closes_all, closes_short}
use Prim.Native.Nat.{◌+◌, ◌-◌}
use mathlib.Core.Path.{◌∙◌}
use Rattle.merge.proofs.closes.Goals as goal

pub returns-then-saturating_sub-marks : goal.returns-then-saturating_sub-marks
returns-then-saturating_sub-marks c = closes_short _ _ _ (omega (arith, c.saturating_sub.ensures, c.if-saturating_sub-marks.true))

pub returns : goal.returns
returns c =
    c.are_marks.ensures ∙ closes_all c.args.marks c.args.src.now c.args.at (c.args.at + c.args.marks - c.args.at) (omega arith) (omega (arith, c.saturating_sub.ensures, c.if-saturating_sub-marks.false)) c.requires
