-- `Session::fresh` meets its promise. Assumes nothing.
use Rattle.std.proofs.Common.{rules, ◌∙◌}
use Rattle.session.proofs.Fresh.{fresh_refused, fresh_accepted}
use Rattle.session.proofs.Session.fresh.Goals as goal

pub returns-in_default : goal.returns-in_default
returns-in_default c = rw c.empty.ensures (fresh_refused c.args.tables.now c.args.roles (search rules))

pub returns : goal.returns
returns c =
    let e = c.in-Some.ensures in
    rw c.empty-state.ensures (fresh_accepted c.args.tables.now c.args.roles e.0 (c.first_heads-state.ensures ∙ rw (e.1, e.2)))
