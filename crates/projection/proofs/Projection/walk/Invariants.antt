-- `projection::Projection::walk` meets its contract. The invariant: the part of the first row is that of the row here, with words and marks
-- around it. Assumes nothing.
use Rattle.projection.proofs.Walks.{Comes}
use Rattle.projection.proofs.Projection.walk.Given as goal

abbrev pub invariant-loop-less : goal.invariant-loop-less
invariant-loop-less l =
    Comes l.self l.left l.row l.initial.work l.at l.here l.work l.top l.marks l.less
