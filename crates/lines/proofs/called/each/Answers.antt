-- `lines::called::each` meets its contract: what is left of an input whose bytes are known ends the same lines as all of it. Assumes nothing.
use mathlib.Core.Bool.{true, false}
use mathlib.Core.Path.{refl, sym, ◌∙◌}
use native.Mathlib.Omega.{arith}
use lib.ListN.{length-take}
use Rattle.std.proofs.Common.{rules}
use Rattle.lines.proofs.Cutting.{unread, read_some, read_all, out_of_turns, all_called}
use Rattle.lines.proofs.called.each.Goals as goal
use Rattle.lines.proofs.called.each.Goals.{then-not-is_empty+in_ok-answer, else-not-is_empty}

pub loop-turn-init : goal.loop-turn-init
loop-turn-init g c = record { callable = search rules; front = refl; left = unread _ _ _ _ _ _ }

pub loop-turn-preserved : goal.loop-turn-preserved
loop-turn-preserved g c =
    let was = c.loop-turn.invariant in
    let ok = c.in_ok-take_in.ensures in
    record {
      callable = ok.callable;
      front = ok.front ∙ was.front;
      left = read_some _ _ _ _ _ _ _ _ _ _ _ _ _ _ (simp length-take (omega arith)) c.in_ok-count.ensures.bytes.0
          (rw was.front at ok.rest) (rw was.front at ok.answered) was.left;
    }

pub returns-then-count-eq0 : goal.returns-then-count-eq0
returns-then-count-eq0 g c =
    let was = c.loop-turn.invariant in
    let read = rw c.if-count-eq0.true at c.in_ok-count.ensures.bytes in
    let empty = rw was.front at c.is_empty.ensures in
    elim c.if-not-is_empty.branch [
      | then-not-is_empty+in_ok-answer w ↦ all_called _ _ _ _ _ _ _ (read_all _ _ _ _ _ _ _ _ _ _ _ _ false (sym empty ∙ w.if-not-is_empty.true)
          (_, record { shown = w.as_slice.result; shows = w.as_slice.ensures; called = w.in_ok-answer.ensures }, refl) read.0 (read.1 refl (omega arith)) was.left)
      | else-not-is_empty w ↦ all_called _ _ _ _ _ _ _ (read_all _ _ _ _ _ _ _ _ _ _ _ _ true (sym empty ∙ w.if-not-is_empty.false) refl read.0 (read.1 refl (omega arith)) was.left)
    ]

pub returns : goal.returns
returns g c = all_called _ _ _ _ _ _ _ (out_of_turns _ _ _ _ _ _ _ _ _ _ c.loop-turn-test.false c.loop-turn.invariant.left)
