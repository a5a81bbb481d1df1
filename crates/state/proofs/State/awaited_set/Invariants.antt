-- `State::awaited_set` meets its contract. The loop's invariant: the set holds the awaited roles below this one. Assumes nothing.
use Rattle.std.proofs.Common.{◌≡◌}
use Rattle.words.specs.Below.{set_of}
use Rattle.table.specs.Limits.{base}
use Rattle.state.specs.Awaited.{is_awaited}
use Rattle.state.specs.mirror.State.{seen}
use Rattle.state.proofs.State.awaited_set.Given as goal

abbrev pub invariant-loop-role : goal.invariant-loop-role
invariant-loop-role l = l.set ≡ set_of (is_awaited base l.blocks.tables.now l.blocks.roles (seen l.self)) l.role
