-- `lines::input::take_all` meets its contract: the bytes that are left end the same lines as all of them. Assumes nothing.
use lib.ListN.{length}
use Rattle.lines.specs.Held.{front_of, held}
use Rattle.lines.proofs.Cutting.{Cut}
use Rattle.lines.proofs.input.take_all.Given as goal

abbrev pub invariant-loop-end : goal.invariant-loop-end
invariant-loop-end g l = Cut g.A.Answerer.took g.row.ROOM l.input (front_of l.initial.line) (held l.initial.line) l.initial.answerer
    l.rest (front_of l.line) (held l.line) l.answerer

abbrev pub decreases-loop-end : goal.decreases-loop-end
decreases-loop-end g l = length l.rest
