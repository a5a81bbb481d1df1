-- `projection::reach::kept_roles` meets its contract: rows are taken from the last to the first. Assumes nothing.
use mathlib.Core.Path.{refl, ◌∙◌, ap}
use Rattle.projection.specs.mirror.Reach.{placed, reach_of}
use Rattle.projection.proofs.Filling.{passing_start, passing_turn}
use Rattle.projection.proofs.reach.kept_roles.Goals as goal

pub loop-row-init : goal.loop-row-init
loop-row-init c = rw c.min-rows.ensures (passing_start _)

pub loop-row-preserved : goal.loop-row-preserved
loop-row-preserved c =
    passing_turn c.of-reach.result c.loop-row.invariant c.loop-row-test.true
    (c.of-reach.ensures ∙ ap (reach_of (placed c.loop-row.found)) c.read.ensures.0) c.stay.ensures refl refl
