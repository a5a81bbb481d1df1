-- `rows::head` meets its contract. The loop's invariant: what is left to follow from here is what was to follow. Assumes nothing.
use Rattle.std.proofs.Common.{◌≡◌, ◌-◌}
use Rattle.blocks.specs.mirror.Rows.{follow_at}
use Rattle.blocks.proofs.rows.head.Given as goal

abbrev pub invariant-loop-step : goal.invariant-loop-step
invariant-loop-step l = follow_at l.rows l.tables l.start l.row ≡ follow_at (l.rows - l._step) l.tables l.start l.at
