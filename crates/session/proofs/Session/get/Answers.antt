-- `Session::get` meets its contract: the tests, then the change. Assumes nothing.
use Rattle.std.proofs.Common.{rules, ◌≡◌, sym, ◌∙◌, Err}
use Rattle.state.proofs.Passed.{receive_to}
use Rattle.session.specs.State.{listed}
use Rattle.session.proofs.Calling.{receive_refused_is, receive_done_is}
use Rattle.session.proofs.Session.get.Goals as goal

pub returns-in_err-head : goal.returns-in_err-head
returns-in_err-head c =
    let a = c.args in
    let e : c.from_residual.result ≡ Err c.in_err-head.field-0.0 = search rules in
    rw e (receive_refused_is a.tables.now a.roles a.sender a.receiver a.self.now (c.in_err-head.ensures ∙ rw c.view.ensures))

pub take-requires : goal.take-requires
take-requires c =
    let a = c.args in
    let to = receive_to a.tables.now a.roles a.sender a.receiver (listed a.self.now) _ (sym (c.in_ok-head.ensures ∙ rw c.view.ensures)) in
    (to.p_low, to.q_low, to.received.some_held)

pub returns : goal.returns
returns c =
    let a = c.args in
    receive_done_is a.tables.now a.roles a.sender a.receiver a.self.now (c.in_ok-head.ensures ∙ rw c.view.ensures) c.take.ensures.0 c.take.ensures.1
