-- `projection::project_all` meets its contract: each turn puts one part behind those before it. Assumes nothing.
use mathlib.Core.Path.{◌≡◌}
use lib.ListN.{length}
use Rattle.projection.proofs.Tables.{Upto}
use Rattle.projection.proofs.project_all.Given as goal

abbrev pub invariant-loop-role : goal.invariant-loop-role
invariant-loop-role l =
    (length l.work ≡ length l.initial.work) × (length l.spare ≡ 513) × Upto l.table l.role l.work l.at
