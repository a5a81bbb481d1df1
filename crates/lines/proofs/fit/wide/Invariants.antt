-- `lines::fit::wide` meets its contract: the words that are left, stored from the place reached on, are all of them stored from `at` on. Assumes nothing.
use Prim.Native.Nat.{◌+◌}
use mathlib.Core.Path.{◌≡◌}
use lib.ListN.{length, drop}
use lib.Seq.{sets}
use Rattle.lines.proofs.fit.wide.Given as goal

abbrev pub invariant-loop-i : goal.invariant-loop-i
invariant-loop-i l = (length l.out ≡ length l.initial.out) × (sets l.out (l.at + l.i) (drop l.i l.words) ≡ sets l.initial.out l.at l.words)
