-- `rows::find_arm` meets its contract. The loop's invariant: what the rest of the chain holds of the label, with the lowest label so far, is what
-- the whole holds. Assumes nothing.
use Rattle.std.proofs.Common.{◌≡◌, ◌-◌}
use Rattle.table.specs.Limits.{base}
use Rattle.blocks.specs.mirror.Rows.{chain_at, lookup}
use Rattle.blocks.proofs.rows.find_arm.Given as goal

abbrev pub invariant-loop : goal.invariant-loop
invariant-loop l =
    lookup l.label base.labels (chain_at l.rows l.tables l.start l.first) ≡ lookup l.label l.least (chain_at (l.rows - l.counter) l.tables l.start l.arm)
