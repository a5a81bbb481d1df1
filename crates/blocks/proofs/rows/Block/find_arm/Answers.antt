-- `rows::Block::find_arm` meets its contract. Assumes nothing.
use Rattle.blocks.proofs.Walk.{arms_at}
use Rattle.blocks.proofs.rows.Block.find_arm.Goals as goal

pub returns : goal.returns
returns c =
    let b = c.args.self.now in
    rw (arms_at b.tables.now b.roles b.role c.args.first, ← b.rows_are, ← b.starts, ← c.from-start.ensures, ← c.from.ensures) c.find_arm.ensures
