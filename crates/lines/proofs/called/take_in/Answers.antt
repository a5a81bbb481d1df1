-- `lines::called::take_in` meets its contract: the bytes that are left end the same lines as all of them. Assumes nothing.
use Rattle.std.proofs.Common.{rules, of_calls}
use Rattle.lines.proofs.Cutting.{uncut, cut_newline, cut_byte, none_rest, none_lines}
use Rattle.lines.proofs.called.take_in.Goals as goal
use Rattle.lines.proofs.called.take_in.Goals.{then-byte-eq10+in_ok-answer, else-byte-eq10}

pub loop-byte-init : goal.loop-byte-init
loop-byte-init g c = record { callable = search rules; cut = uncut _ _ _ _ _ _ }

pub loop-byte-preserved : goal.loop-byte-preserved
loop-byte-preserved g c =
    let was = c.loop-byte.invariant.cut in
    elim c.if-byte-eq10.branch [
      | then-byte-eq10+in_ok-answer w ↦ rw (w.line-is, w.answer-is) record {
        callable = search (rules, of_calls);
        cut = cut_newline _ _ _ _ _ _ _ _ _ _ _ _ _ c.loop-byte-test.true w.if-byte-eq10.true
            record { shown = w.as_slice.result; shows = w.as_slice.ensures; called = w.in_ok-answer.ensures } w.clear.ensures.front w.clear.ensures.line was;
      }
      | else-byte-eq10 w ↦ rw (w.line-is, w.answer-is) record {
        callable = c.loop-byte.invariant.callable;
        cut = cut_byte _ _ _ _ _ _ _ _ _ _ _ _ c.loop-byte-test.true w.if-byte-eq10.false w.push.ensures.front w.push.ensures.line was;
      }
    ]

pub returns-clause-rest : goal.returns-clause-rest
returns-clause-rest g c = none_rest _ _ _ _ _ _ _ _ _ _ c.loop-byte-test.false c.loop-byte.invariant.cut

pub returns-clause-answered : goal.returns-clause-answered
returns-clause-answered g c = none_lines _ _ _ _ _ _ _ _ _ _ c.loop-byte-test.false c.loop-byte.invariant.cut
