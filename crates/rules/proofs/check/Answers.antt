-- `rules::check` meets its contract: a refusal by rules 1 and 2 does not look further, and past them the answer is that of rules 4 to 10. Assumes nothing.
use Rattle.std.proofs.Common.{sym, ◌∙◌, refl}
use Rattle.std.proofs.lemmas.Result.{err_from_is_err_and}
use native.Mathlib.Omega.{arith}
use Rattle.table.specs.Limits.{base}
use Rattle.table.specs.Check.{check_of, accepted}
use Rattle.table.proofs.Sizes.{Sized, measured, sizes_kept, sizes_pass, sizes_stop}
use Rattle.table.proofs.Refusals.{some_number}
use Rattle.rules.proofs.check.Goals as goal
use Rattle.rules.proofs.check.Goals.{In_ok-sizes}

-- rules 1 and 2 are kept
sized : (c : In_ok-sizes) → Sized base c.args.words.now c.args.roles
sized c = sizes_kept base c.args.words.now c.args.roles accepted (c.in_ok-sizes.ensures {u = tt}) refl

pub returns-in_err-sizes : goal.returns-in_err-sizes
unfolding check_of
returns-in_err-sizes c =
    let p = err_from_is_err_and c.from_residual.result c.from_residual.ensures.1 in
    let some = some_number c.in_err-sizes.field-0.0.rule in
    rw (p.1, p.2) (sizes_stop base c.args.words.now c.args.roles _ _ (c.in_err-sizes.ensures {u = tt}) (omega arith))

pub rules-requires : goal.rules-requires
rules-requires c = let m = measured base c.args.words.now c.args.roles (sized c) in omega arith

pub returns : goal.returns
unfolding check_of
returns c = c.rules.ensures ∙ sym (sizes_pass base c.args.words.now c.args.roles _ (sized (goal.at.returns c).In_ok-sizes))
