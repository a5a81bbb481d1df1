-- `heads::Notes::block_good` meets its contract. Assumes nothing.
use Rattle.std.proofs.Common.{sym, ◌∙◌, arith, ap}
use borrow.Author.Count.{below_more}
use Rattle.table.specs.Limits.{base}
use Rattle.words.proofs.Below.{every_all}
use Rattle.blocks.specs.Tables.{row_good}
use Rattle.blocks.proofs.heads.Notes.block_good.Goals as goal

pub loop-row-preserved : goal.loop-row-preserved
loop-row-preserved c =
    let (same, good) = c.loop-row.invariant in
    let here = ap (λ b. row_good base b.tables.now b.roles b.role c.loop-row.row) (sym same) ∙ c.row_good.ensures.0 c.if-not-row_good.false in
    (c.row_good.ensures.2 ∙ same, below_more _ c.loop-row.row good here)

pub returns : goal.returns
returns c =
    (sym (every_all _ _ (λ k l. c.loop-row.invariant.1 k (omega (arith, c.args.self.now.block.rows_are)))), c.loop-row.invariant.0)
