-- `heads::first_heads` meets its contract. The loop's invariant: the roles below this one have their heads, the others 0. Assumes nothing.
use Rattle.std.proofs.Common.{◌≡◌, ◌-◌, ◌++◌}
use lib.ListN.{replicate}
use Rattle.session.specs.Calls.{first_heads}
use Rattle.session.proofs.heads.first_heads.Given as goal

abbrev pub invariant-loop-role : goal.invariant-loop-role
invariant-loop-role l = l.heads ≡ first_heads l.blocks.tables.now l.blocks.roles l.role ++ replicate (8 - l.role) 0
