-- `State::awaited_set` meets its contract. The loop's invariant: the set holds the awaited roles below this one. Assumes nothing.
use Rattle.std.proofs.Common.{ℕ, ◌≡◌, refl, sym, ◌∙◌, ap, ◌*◌, ◌^◌, ◌%◌}
use lib.Bits.{bit_or}
use native.Mathlib.Numerals.{add-one}
use native.Mathlib.Omega.{arith}
use Rattle.words.specs.Below.{sum}
use Rattle.table.specs.Limits.{base}
use Rattle.state.specs.Awaited.{is_awaited}
use Rattle.state.specs.mirror.State.{seen}
use Rattle.state.proofs.Sets.{set_or, set_not}
use Rattle.state.proofs.Acting.{low_peer}
use Rattle.state.proofs.State.awaited_set.Goals as goal
use Rattle.state.proofs.State.awaited_set.Goals.{then-is_awaited, else-is_awaited}

pub loop-role-init : goal.loop-role-init
unfolding sum
loop-role-init c = refl

pub is_awaited-requires : goal.is_awaited-requires
is_awaited-requires c =
    let blocks = c.args.blocks.now in
    let e = c.block.ensures in
    rw (e.0, e.1, e.2 c.loop-role-test.true) (low_peer blocks.tables.now blocks.roles c.loop-role.role (seen c.args.self.now) blocks.good c.requires c.loop-role-test.true)

pub loop-role-preserved : goal.loop-role-preserved
loop-role-preserved c =
    let blocks = c.args.blocks.now in
    let p = is_awaited base blocks.tables.now blocks.roles (seen c.args.self.now) in
    let r : ℕ = c.loop-role.role in
    let e : c.is_awaited.result ≡ p r = c.is_awaited.ensures ∙ rw (c.block.ensures.0, c.block.ensures.1, c.block.ensures.2 c.loop-role-test.true) in
    rw add-one
    (elim c.if-is_awaited.branch [
      | then-is_awaited w ↦ w.set-is ∙ ap (λ (t : ℕ). bit_or t (1 * 2 ^ r % 2 ^ 8)) c.loop-role.invariant ∙ set_or 8 p r (omega (arith, blocks.few.0, c.loop-role-test.true)) (sym e ∙ w.if-is_awaited.true)
      | else-is_awaited w ↦ w.set-is ∙ c.loop-role.invariant ∙ set_not p r (sym e ∙ w.if-is_awaited.false)
    ])
