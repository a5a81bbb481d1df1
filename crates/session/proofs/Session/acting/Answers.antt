-- `Session::acting` meets its contract. Assumes nothing.
use Rattle.std.proofs.Common.{rules, ◌≡◌, ◌∙◌, Err}
use Rattle.session.proofs.Fresh.{set_told, none_told}
use Rattle.session.proofs.Session.acting.Goals as goal

pub returns-in_err-set : goal.returns-in_err-set
returns-in_err-set c =
    let e : c.from_residual.result ≡ Err c.in_err-set.field-0.0 = search rules in
    rw e (none_told c.args.tables.now c.args.roles c.args.self.now (c.in_err-set.ensures ∙ rw c.view.ensures))

pub returns : goal.returns
returns c = set_told c.args.tables.now c.args.roles c.args.self.now (c.in_ok-set.ensures ∙ rw c.view.ensures)
