-- `lines::fit::narrow` meets its contract: the numbers that are left, stored from the place reached on, are all of them stored from the
-- start. Assumes nothing.
use mathlib.Core.Path.{◌≡◌}
use lib.ListN.{length, drop}
use lib.Seq.{sets}
use Rattle.lines.proofs.fit.narrow.Given as goal

abbrev pub invariant-loop-i : goal.invariant-loop-i
invariant-loop-i g l =
    (length l.out ≡ length l.initial.out)
    × (sets (g.T.Width.numbers l.out) l.i (drop l.i l.numbers) ≡ sets (g.T.Width.numbers l.initial.out) 0 l.numbers)
