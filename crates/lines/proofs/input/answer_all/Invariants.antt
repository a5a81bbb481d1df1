-- `lines::input::answer_all` meets its contract: what is left of an input whose bytes are known ends the same lines as all of it. Assumes nothing.
use mathlib.Core.Path.{◌≡◌}
use Rattle.lines.specs.Held.{front_of, held}
use Rattle.lines.proofs.Cutting.{Left}
use Rattle.lines.proofs.input.answer_all.Given as goal

abbrev pub invariant-loop-turn : goal.invariant-loop-turn
invariant-loop-turn g l = record {
  front : front_of l.line ≡ front_of l.initial.line;
  left : Left g.A.Answerer.took g.row.ROOM (front_of l.initial.line) (held l.initial.line) l.initial.answerer
      (g.R.Read.remaining l.initial.reader) l._turn (held l.line) l.answerer (g.R.Read.remaining l.reader);
}
