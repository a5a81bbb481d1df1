-- `projection::parts` meets its contract: the check, then rule 11. Assumes nothing.
use mathlib.Core.Path.{sym, ◌∙◌, ap}
use native.Mathlib.Omega.{arith}
use Rattle.std.proofs.lemmas.Result.{err_from_is_err_and}
use Rattle.table.specs.Refusals.{verdict_of}
use Rattle.projection.proofs.Order.{refused_early, parted_verdict, parted_complete}
use Rattle.projection.proofs.Tables.{all_words}
use Rattle.projection.proofs.parts.Goals as goal

pub returns-in_err-check-clause-verdict : goal.returns-in_err-check-clause-verdict
returns-in_err-check-clause-verdict c =
    let p = err_from_is_err_and c.from_residual.result c.from_residual.ensures.1 in
    rw (p.1, p.2) (refused_early _ _ _ (sym (ap verdict_of c.in_err-check.was) ∙ c.check.ensures))

pub project_all-requires : goal.project_all-requires
project_all-requires c =
    let e = sym (sym (ap verdict_of c.in_ok-check.was) ∙ c.check.ensures) in (e, omega (arith, all_words _ _ e))

pub returns-clause-verdict : goal.returns-clause-verdict
returns-clause-verdict c = parted_verdict _ _ (sym (sym (ap verdict_of c.in_ok-check.was) ∙ c.check.ensures)) c.project_all.ensures

pub returns-clause-complete : goal.returns-clause-complete
returns-clause-complete c = parted_complete _ _ (sym (sym (ap verdict_of c.in_ok-check.was) ∙ c.check.ensures)) c.project_all.ensures
