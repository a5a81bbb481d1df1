-- `projection::reach::stays` meets its contract: the set of the role alone meets the kept set exactly when it is one of them. Assumes nothing.
use mathlib.Core.Bool.{◌||◌}
use Rattle.table.specs.Limits.{base}
use Rattle.parts.specs.Absent.{takes_part, leaves}
use Rattle.projection.proofs.Sets.{set_meets}
use Rattle.projection.proofs.reach.stays.Goals as goal

pub returns : goal.returns
returns c =
    λ t B h g l.
    let a = c.args in
    rw (c.peek.ensures, h.keeps a.row B g, c.only.ensures) (set_meets (λ k. takes_part k B || leaves 1 B) a.role base.roles l)
