-- `heads::Notes::new` meets its contract. Assumes nothing.
use Rattle.std.proofs.Common.{arith}
use Rattle.blocks.proofs.Far.{noted_none}
use Rattle.blocks.proofs.heads.Notes.new.Goals as goal

pub invariant_of-result : goal.invariant_of-result
invariant_of-result c = record { right = noted_none _ _ _ (omega (arith, c.args.block.few, c.args.block.rows_are)) }
