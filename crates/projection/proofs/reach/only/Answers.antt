-- `projection::reach::only` meets its contract: a shift by the role, or nothing for a role out of range. Assumes nothing.
use mathlib.Core.Path.{sym}
use native.Mathlib.Omega.{arith}
use Rattle.table.specs.Limits.{base}
use Rattle.projection.proofs.Sets.{set_shifted, set_past}
use Rattle.projection.proofs.reach.only.Goals as goal

pub returns-then-role-lt-ROLES : goal.returns-then-role-lt-ROLES
returns-then-role-lt-ROLES c = set_shifted c.args.role (omega arith)

pub returns-else-role-lt-ROLES : goal.returns-else-role-lt-ROLES
returns-else-role-lt-ROLES c = sym (set_past c.args.role base.roles (omega arith))
