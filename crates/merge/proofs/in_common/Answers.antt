-- `merge::in_common` meets its contract. Assumes nothing.
use Prim.Native.Nat.{◌-◌}
use mathlib.Core.Path.{refl, sym, ◌∙◌}
use native.Mathlib.Omega.{arith}
use lib.ListN.{length}
use Rattle.merge.proofs.Steps.{common_turn, common_left, shares_inside}
use Rattle.merge.proofs.in_common.Goals as goal

pub loop-x-init : goal.loop-x-init
loop-x-init c = (length c.args.src.now, omega arith, omega arith, refl)

pub loop-x-preserved : goal.loop-x-preserved
loop-x-preserved c =
    let i = c.loop-x.invariant in
    let shared = sym c.shares.ensures ∙ c.loop-x-test.true in
    let inside = shares_inside c.args.src.now c.loop-x.x c.loop-x.y shared in
    (i.0 - 1, omega (arith, i.1, inside), omega (arith, i.2), i.3 ∙ common_turn i.0 _ _ _ _ _ shared (omega (arith, i.1, inside)) refl)

pub returns : goal.returns
returns c =
    let i = c.loop-x.invariant in
    sym (i.3 ∙ common_left i.0 _ _ _ _ (sym c.shares.ensures ∙ c.loop-x-test.false))
