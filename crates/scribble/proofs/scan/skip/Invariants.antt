-- `scribble::scan::skip` meets its contract: what is left of the gap comes to the same. Assumes nothing.
use Prim.Native.Nat.{◌+◌}
use mathlib.Core.Bool.{false}
use mathlib.Core.Path.{◌≡◌}
use lib.ListN.{drop}
use Rattle.scribble.specs.mirror.Scan.{gap_left}
use Rattle.scribble.proofs.scan.skip.Given as goal

abbrev pub invariant-loop-i : goal.invariant-loop-i
invariant-loop-i l = l.at + gap_left false (drop l.at l.text) ≡ l.i + gap_left l.comment (drop l.i l.text)
