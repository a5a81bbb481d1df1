-- `Session::put` meets its contract: the tests, then the change. Assumes nothing.
use Rattle.std.proofs.Common.{rules, ◌≡◌, sym, ◌∙◌, Err}
use Rattle.state.proofs.Passed.{send_to}
use Rattle.session.specs.State.{listed}
use Rattle.session.proofs.Calling.{send_refused_is, send_done_is}
use Rattle.session.proofs.Session.put.Goals as goal

pub returns-in_err-head : goal.returns-in_err-head
returns-in_err-head c =
    let a = c.args in
    let e : c.from_residual.result ≡ Err c.in_err-head.field-0.0 = search rules in
    rw e (send_refused_is a.tables.now a.roles a.sender a.receiver a.self.now a.label a.payload (c.in_err-head.ensures ∙ rw c.view.ensures))

pub push-requires : goal.push-requires
push-requires c =
    let a = c.args in
    let to = send_to a.tables.now a.roles a.sender a.receiver (listed a.self.now) _ a.label (sym (c.in_ok-head.ensures ∙ rw c.view.ensures)) in
    (to.p_low, to.q_low, to.reached.low, to.sent.room)

pub returns : goal.returns
returns c =
    let a = c.args in
    send_done_is a.tables.now a.roles a.sender a.receiver a.self.now a.label a.payload (c.in_ok-head.ensures ∙ rw c.view.ensures) c.push.ensures
