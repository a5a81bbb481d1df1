-- `opening::judge` meets its contract: each return is one step of the order in which rules are tested. Assumes nothing.
use Rattle.std.proofs.Common.{◌∙◌, refl}
use Rattle.std.proofs.lemmas.Result.{err_from_is_err_and}
use native.Mathlib.Omega.{arith}
use Rattle.table.specs.Limits.{base}
use Rattle.table.specs.Check.{accepted}
use Rattle.table.proofs.Sizes.{Sized, sizes_kept}
use Rattle.table.proofs.Refusals.{some_number}
use Rattle.opening.proofs.Order.{few_words, open_sized, open_room, open_parts}
use Rattle.opening.proofs.judge.Goals as goal
use Rattle.opening.proofs.judge.Goals.{In_ok-sizes}

-- rules 1 and 2 are kept
sized : (c : In_ok-sizes) → Sized base c.args.table.now c.args.roles
sized c = sizes_kept base c.args.table.now c.args.roles accepted (c.in_ok-sizes.ensures {u = tt}) refl

pub returns-in_err-sizes-clause-verdict : goal.returns-in_err-sizes-clause-verdict
returns-in_err-sizes-clause-verdict c =
    let p = err_from_is_err_and c.from_residual.result c.from_residual.ensures.1 in
    let some = some_number c.in_err-sizes.field-0.0.rule in
    rw (p.1, p.2) (open_sized _ _ _ _ (c.in_err-sizes.ensures {u = tt}) (omega arith))

pub overflow_mul-roles : goal.overflow_mul-roles
overflow_mul-roles c = record { fits = omega (arith, few_words c.args.table.now c.args.roles 0 (sized (goal.at.overflow_mul-roles c).In_ok-sizes)) }

pub returns-then-room-roles-clause-verdict : goal.returns-then-room-roles-clause-verdict
returns-then-room-roles-clause-verdict c =
    rw (c.of_all.ensures) (open_room _ _ _ (sized (goal.at.returns-then-room-roles-clause-verdict c).In_ok-sizes) c.if-room-roles.true)

pub returns-clause-verdict : goal.returns-clause-verdict
returns-clause-verdict c = c.parts.ensures.verdict ∙ open_parts _ _ _ (sized (goal.at.returns-clause-verdict c).In_ok-sizes) c.if-room-roles.false
