-- `State::queue_good` meets its contract. Assumes nothing.
use Rattle.std.proofs.Common.{rules, ◌≡◌, ◌+◌, ◌*◌, ◌∙◌, sym, get_or}
use mathlib.Core.Bool.{or-true}
use native.Mathlib.Omega.{arith}
use borrow.Author.Tests.{leb-true}
use Rattle.table.specs.Limits.{base}
use Rattle.state.specs.State.{held}
use Rattle.state.specs.mirror.State.{seen, slot_holds}
use Rattle.state.proofs.Queues.{queue_read}
use Rattle.state.proofs.Ranges.{every_from_all}
use Rattle.state.proofs.State.queue_good.Goals as goal
use Rattle.state.proofs.State.queue_good.Goals.{then-count-le-DEPTH+then-are_pair, then-count-le-DEPTH+else-are_pair, else-count-le-DEPTH}

pub returns-then-count-eq0 : goal.returns-then-count-eq0
returns-then-count-eq0 c =
    let a = c.args in
    let n = c.from-count.result in
    let held_is : n ≡ held base (seen a.self.now) a.sender a.receiver = c.from-count.ensures ∙ c.held.ensures in
    let slots = every_from_all _ _ 4 _ (λ k. slot_holds base n k (get_or a.self.now.labels.now ((a.sender * 8 + a.receiver) * 4 + k) 0) (get_or a.self.now.payloads.now ((a.sender * 8 + a.receiver) * 4 + k) 0)) c.all.ensures.ran (λ x q k. search rules) (λ x q k. search rules) in
    elim c.if-count-le-DEPTH.branch [
      | then-count-le-DEPTH+then-are_pair w ↦ queue_read a.roles a.sender a.receiver (seen a.self.now) held_is w.if-count-le-DEPTH.true (rw (sym w.are_pair.ensures ∙ w.if-are_pair.true)) slots
      | then-count-le-DEPTH+else-are_pair w ↦ queue_read a.roles a.sender a.receiver (seen a.self.now) held_is w.if-count-le-DEPTH.true (rw (sym w.value-is ∙ c.if-count-eq0.true) (or-true _)) slots
      | else-count-le-DEPTH w ↦ absurd (omega (arith, leb-true _ _ (sym w.value-is ∙ c.if-count-eq0.true), w.if-count-le-DEPTH.false))
    ]
