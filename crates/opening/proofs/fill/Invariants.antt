-- `opening::fill` meets its contract: each turn writes one block behind those before it. Assumes nothing.
use Prim.Native.Nat.{◌≤◌}
use mathlib.Core.Path.{◌≡◌}
use lib.ListN.{length}
use Rattle.table.specs.Limits.{base}
use Rattle.opening.proofs.Filling.{Laid}
use Rattle.opening.proofs.fill.Given as goal

abbrev pub invariant-loop-role : goal.invariant-loop-role
invariant-loop-role l =
    (l.role ≤ l.roles) × (length l.room ≡ length l.initial.room) × (length l.loops ≡ base.rows) × Laid l.table l.initial.room l.room l.role l.code
