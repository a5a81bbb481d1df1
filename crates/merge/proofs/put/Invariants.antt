-- `merge::put` meets its contract: the words that are left, put from the place reached on, are all of them put from `at` on. Assumes nothing.
use Prim.Native.Nat.{◌+◌}
use mathlib.Core.Path.{◌≡◌}
use lib.ListN.{length, take, drop}
use lib.Seq.{sets}
use Rattle.merge.proofs.put.Given as goal

abbrev pub invariant-loop-i : goal.invariant-loop-i
invariant-loop-i l = (length l.out ≡ length l.initial.out) × (sets l.out (l.at + l.i) (drop l.i (take l.count l.words)) ≡ sets l.initial.out l.at (take l.count l.words))
