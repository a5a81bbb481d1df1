-- `lines::called::take_in` meets its contract: the bytes that are left end the same lines as all of them. Assumes nothing.
use lib.ListN.{drop}
use Rattle.std.proofs.Common.{Ok}
use Rattle.std.specs.Fn.{CalledAt}
use Rattle.lines.specs.Held.{front_of, held}
use Rattle.lines.proofs.Cutting.{Cut}
use Rattle.lines.proofs.called.take_in.Given as goal

abbrev pub invariant-loop-byte : goal.invariant-loop-byte
invariant-loop-byte g l = record {
  callable : goal.F-IsAlwaysCallable g l.answer;
  cut : Cut (λ p x q. CalledAt g.F.FnMut p x (Ok tt) q) g.row.ROOM l.input (front_of l.initial.line) (held l.initial.line) l.initial.answer
      (drop l.byte-index l.input) (front_of l.line) (held l.line) l.answer;
}
