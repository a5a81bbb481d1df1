-- `lines::called::each` meets its contract: what is left of an input whose bytes are known ends the same lines as all of it. Assumes nothing.
use mathlib.Core.Path.{◌≡◌}
use Rattle.std.proofs.Common.{Ok}
use Rattle.std.specs.Fn.{CalledAt}
use Rattle.lines.specs.Held.{front_of, held}
use Rattle.lines.proofs.Cutting.{Left}
use Rattle.lines.proofs.called.each.Given as goal

abbrev pub invariant-loop-turn : goal.invariant-loop-turn
invariant-loop-turn g l = record {
  callable : goal.F-IsAlwaysCallable g l.answer;
  front : front_of l.line ≡ front_of l.initial.line;
  left : Left (λ p x q. CalledAt g.F.FnMut p x (Ok tt) q) g.row.ROOM (front_of l.initial.line) (held l.initial.line) l.initial.answer
      (g.R.Read.remaining l.initial.reader) l._turn (held l.line) l.answer (g.R.Read.remaining l.reader);
}
