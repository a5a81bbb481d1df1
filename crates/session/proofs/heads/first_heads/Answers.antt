-- `heads::first_heads` meets its contract. The loop's invariant: the roles below this one have their heads, the others 0. Assumes nothing.
use Rattle.std.proofs.Common.{◌≡◌, refl, ◌∙◌, ◌-◌, suc}
use native.Mathlib.Numerals.{add-one}
use native.Mathlib.Omega.{arith}
use Rattle.session.specs.Calls.{first_heads}
use Rattle.session.proofs.First.{one_head, no_head, none_left}
use Rattle.session.proofs.heads.first_heads.Goals as goal
use Rattle.session.proofs.heads.first_heads.Goals.{then-role-blocks, else-role-blocks}

pub loop-role-init : goal.loop-role-init
unfolding first_heads
loop-role-init c = refl

pub loop-role-preserved : goal.loop-role-preserved
loop-role-preserved c =
    let blocks = c.args.blocks.now in
    let left : 8 - c.loop-role.role ≡ suc (8 - suc c.loop-role.role) = omega (arith, c.loop-role-test.true) in
    rw add-one
    (elim c.if-role-blocks.branch [
      | then-role-blocks w ↦ w.heads-is ∙ one_head blocks.tables.now blocks.roles _ _ _ left c.loop-role.invariant w.if-role-blocks.true _
          (w.head.ensures ∙ rw (w.block.ensures.0, w.block.ensures.1, w.block.ensures.2 w.if-role-blocks.true))
      | else-role-blocks w ↦ w.heads-is ∙ no_head blocks.tables.now blocks.roles _ _ _ left c.loop-role.invariant w.if-role-blocks.false
    ])

pub returns : goal.returns
returns c =
    let blocks = c.args.blocks.now in
    let e : c.loop-role.role ≡ 8 = omega (arith, c.loop-role-test.false, c.loop-role.auto.role-end) in
    rw e at c.loop-role.invariant ∙ none_left blocks.tables.now blocks.roles 0 8 refl blocks.few.0
