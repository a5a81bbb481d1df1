-- `layout::clear` meets its contract. The loop's invariant: the rows passed hold zeros. Assumes nothing.
use Prim.Native.Nat.{◌+◌, ◌-◌, ◌≤◌}
use mathlib.Core.Path.{◌≡◌}
use lib.ListN.{length}
use Rattle.layout.specs.mirror.Lay.{clear_s}
use Rattle.layout.proofs.clear.Given as goal

abbrev pub invariant-loop-row : goal.invariant-loop-row
invariant-loop-row l =
    (l.out ≡ clear_s l.initial.out (l.from + l.first) (l.row - l.first)) × (l.first ≤ l.row) × (l.row - l.first ≤ l.rows - l.first) × (length l.out ≡ length l.initial.out)
