-- `projection::Projection::at_loop` meets its contract. Assumes nothing.
use native.Mathlib.Omega.{arith}
use Rattle.projection.proofs.Rows.{idle_plan}
use Rattle.projection.proofs.Projection.at_loop.Goals as goal

pub returns-else-stays : goal.returns-else-stays
returns-else-stays c = λ B k l g b. idle_plan c.args.self.now B (c.stays.ensures _ B k g l) c.if-stays.false (c.word-else-stays.ensures (omega arith))
