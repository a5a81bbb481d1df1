-- The numbers of the rules. Assumes nothing.
use Prim.Native.Nat.{◌<◌}
use native.Mathlib.Omega.{arith}
use Rattle.table.specs.Refusals.{number_of}
use Rattle.table.specs.declared.refusal.Rule.{Rule}
use Rattle.table.specs.declared.refusal.Rule.TheVariants.{Words, Roles, Room, Kind, Field, Link, Named, Twice, Unbound, Unguarded, NoPart}

-- every refusal has a number of its own
pub some_number : (r : Rule) → 0 < number_of r
some_number Words = omega arith
some_number Roles = omega arith
some_number Room = omega arith
some_number Kind = omega arith
some_number Field = omega arith
some_number Link = omega arith
some_number Named = omega arith
some_number Twice = omega arith
some_number Unbound = omega arith
some_number Unguarded = omega arith
some_number NoPart = omega arith
