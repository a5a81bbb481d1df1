-- `tables::Blocks::of` meets its contract. Assumes nothing.
use Rattle.std.proofs.Common.{sym, ◌∙◌, arith}
use Rattle.words.proofs.Below.{every_all, every_fails}
use Rattle.blocks.proofs.Good.{sized_some, sized_none, sized_bounds, tables_are}
use Rattle.blocks.proofs.tables.Blocks.of.Goals as goal

pub returns-in_err-rows : goal.returns-in_err-rows
returns-in_err-rows c = rw c.from_residual.ensures (sized_none _ _ (sym c.in_err-rows.was ∙ c.block_rows.ensures))

pub returns-then-not-block_good : goal.returns-then-not-block_good
returns-then-not-block_good c =
    let s = sized_some c.args.tables.now c.args.roles c.in_ok-rows.rows (sym c.in_ok-rows.was ∙ c.block_rows.ensures) in
    let (tables, roles, role) = c.enter.ensures in
    let (same, as_many, past, good) = c.loop-role.invariant in
    tables_are _ _ _ s ∙ every_fails _ _ c.loop-role.role c.loop-role-test.true
    (rw (sym (tables ∙ same), sym (roles ∙ as_many), sym role) (sym c.block_good.ensures.0 ∙ c.if-not-block_good.true))

pub invariant_of-result : goal.invariant_of-result
invariant_of-result c =
    let s = sized_some c.args.tables.now c.args.roles c.in_ok-rows.rows (sym c.in_ok-rows.was ∙ c.block_rows.ensures) in
    let n = sized_bounds c.args.tables.now c.args.roles c.in_ok-rows.rows s in
    record {
      few = (n.1, n.2, n.3);
      rows_are = s.rows_are;
      good = tables_are _ _ _ s ∙ every_all _ _ (λ k l. c.loop-role.invariant.3 k (omega (arith, c.loop-role-test.false)));
    }
