-- `lines::input::answer_all` meets its contract: what is left of an input whose bytes are known ends the same lines as all of it. Assumes nothing.
use mathlib.Core.Bool.{true, false}
use mathlib.Core.Path.{refl, sym, ◌∙◌}
use native.Mathlib.Omega.{arith}
use lib.ListN.{length-take}
use Rattle.lines.proofs.Cutting.{unread, read_some, read_all, out_of_turns}
use Rattle.lines.proofs.input.answer_all.Goals as goal

pub loop-turn-init : goal.loop-turn-init
loop-turn-init g c = record { front = refl; left = unread _ _ _ _ _ _ }

pub loop-turn-preserved : goal.loop-turn-preserved
loop-turn-preserved g c =
    let was = c.loop-turn.invariant in
    let ok = c.in_ok-take_all.ensures in
    record {
      front = ok.front ∙ was.front;
      left = read_some _ _ _ _ _ _ _ _ _ _ _ _ _ _ (simp length-take (omega arith)) c.in_ok-count.ensures.bytes.0
          (rw was.front at ok.rest) (rw was.front at ok.answered) was.left;
    }

pub returns-in_ok-answer : goal.returns-in_ok-answer
returns-in_ok-answer g c =
    let was = c.loop-turn.invariant in
    let read = rw c.if-count-eq0.true at c.in_ok-count.ensures.bytes in
    let empty = rw was.front at c.is_empty.ensures in
    read_all _ _ _ _ _ _ _ _ _ _ _ _ false (sym empty ∙ c.if-not-is_empty.true) (_, rw c.as_slice.ensures at c.in_ok-answer.ensures, refl) read.0 (read.1 refl (omega arith)) was.left

pub returns-else-not-is_empty : goal.returns-else-not-is_empty
returns-else-not-is_empty g c =
    let was = c.loop-turn.invariant in
    let read = rw c.if-count-eq0.true at c.in_ok-count.ensures.bytes in
    let empty = rw was.front at c.is_empty.ensures in
    read_all _ _ _ _ _ _ _ _ _ _ _ _ true (sym empty ∙ c.if-not-is_empty.false) refl read.0 (read.1 refl (omega arith)) was.left

pub returns : goal.returns
returns g c = out_of_turns _ _ _ _ _ _ _ _ _ _ c.loop-turn-test.false c.loop-turn.invariant.left
