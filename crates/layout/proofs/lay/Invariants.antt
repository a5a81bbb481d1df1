-- `layout::lay` meets its contract. The loop's invariant: what is left to do from here leaves what the whole call leaves. Assumes nothing.
use Prim.Native.Nat.{◌≤◌}
use mathlib.Core.Path.{◌≡◌}
use lib.ListN.{length}
use Rattle.layout.specs.mirror.Lay.{LIMIT, waits, run_s, rest}
use Rattle.layout.proofs.lay.Given as goal

abbrev pub invariant-loop-out : goal.invariant-loop-out
invariant-loop-out l =
    (run_s LIMIT l.src l.from l.code l.initial.out 0 l.initial.loops 0 0 ≡ rest l.src l.from l.at l.out l.loops) × (length l.out ≡ length l.initial.out) × (length l.loops ≡ length l.initial.loops) × (waits l.at.wait ≤ LIMIT)

abbrev pub decreases-loop-out : goal.decreases-loop-out
decreases-loop-out l = l.at.left
