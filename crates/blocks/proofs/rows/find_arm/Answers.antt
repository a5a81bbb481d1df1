-- `rows::find_arm` meets its contract. Assumes nothing.
use Rattle.std.proofs.Common.{sym, ◌∙◌, rules}
use Rattle.blocks.proofs.Walk.{lookup_ends, lookup_here, lookup_on, lookup_is}
use Rattle.blocks.proofs.rows.find_arm.Goals as goal

pub returns-in_default : goal.returns-in_default
returns-in_default c =
    let ends = lookup_ends _ _ _ _ _ _ c.loop-test.true c.row_in.ensures.0 c.if-arm-eq0.false _ _ c.in_default.not-Arm in
    sym (c.loop.invariant ∙ ends) ∙ lookup_is _ _ _

pub returns-then-from-label : goal.returns-then-from-label
returns-then-from-label c =
    let here = lookup_here _ _ _ _ _ _ c.loop-test.true c.row_in.ensures.0 c.if-arm-eq0.false _ _ _ c.in-Arm.is _ _ (sym c.from.ensures ∙ c.if-from-label.true) in
    sym (c.loop.invariant ∙ here) ∙ lookup_is _ _ _

pub loop-preserved : goal.loop-preserved
loop-preserved c =
    let on = lookup_on _ _ _ _ _ _ c.loop-test.true c.row_in.ensures.0 c.if-arm-eq0.false _ _ _ c.in-Arm.is _ _ (λ q. c.if-from-label.false (c.from.ensures ∙ q)) in
    let more = c.loop.invariant ∙ on in search (rules, more)
