-- `merge::behind_arms` meets its contract. Assumes nothing.
use mathlib.Core.Path.{refl, sym, ◌∙◌}
use Prim.Native.Nat.{◌-◌}
use native.Mathlib.Omega.{arith}
use lib.ListN.{length}
use Rattle.merge.proofs.Steps.{first_is, arms_turn, arms_left}
use Rattle.merge.proofs.behind_arms.Goals as goal

pub loop-x-init : goal.loop-x-init
loop-x-init c = (length c.args.src.now, omega arith, refl)

pub loop-x-preserved : goal.loop-x-preserved
loop-x-preserved c =
    let i = c.loop-x.invariant in
    let first = sym c.comes_first.ensures ∙ c.loop-x-test.true in
    let inside = first_is c.args.src.now c.loop-x.x c.args.y first in
    (i.0 - 1, omega (arith, i.1, inside, c.behind-x.ensures.1), i.2 ∙ arms_turn i.0 _ _ _ _ first c.behind-x.ensures.0 (omega (arith, i.1, inside)))

pub returns : goal.returns
returns c =
    let i = c.loop-x.invariant in
    sym (i.2 ∙ arms_left i.0 _ _ _ (sym c.comes_first.ensures ∙ c.loop-x-test.false))
