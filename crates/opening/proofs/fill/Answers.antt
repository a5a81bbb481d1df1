-- `opening::fill` meets its contract: each turn writes one block behind those before it. Assumes nothing.
use mathlib.Core.Path.{◌≡◌, refl, ◌∙◌}
use native.Mathlib.Omega.{arith}
use Rattle.opening.proofs.Filling.{first_row, laid_none, laid_more}
use Rattle.opening.proofs.fill.Goals as goal

pub loop-role-init : goal.loop-role-init
loop-role-init c = (omega arith, refl, refl, laid_none _ _)

pub overflow_mul-role : goal.overflow_mul-role
overflow_mul-role c = record { fits = omega (arith, first_row c.requires.0 c.loop-role-test.true) }

pub loop-role-preserved : goal.loop-role-preserved
loop-role-preserved c =
    let was = c.loop-role.invariant in
    let same = c.lay_out-code.auto.out in (
      omega (arith, c.loop-role-test.true),
      same ∙ was.1,
      c.lay_out-code.auto.loops ∙ was.2,
      laid_more c.loop-role.loops c.requires.0 c.requires.1 c.loop-role-test.true was.1 was.2 was.3 c.lay_out-code.ensures.0 c.lay_out-code.ensures.1 same,
    )

pub shape_of-room : goal.shape_of-room
shape_of-room c = c.loop-role.invariant.1

pub returns : goal.returns
returns c =
    let e : c.loop-role.role ≡ c.args.roles = omega arith in
    rw (← e) c.loop-role.invariant.3.filled.holds
