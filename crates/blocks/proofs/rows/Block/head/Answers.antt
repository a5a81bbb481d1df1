-- `rows::Block::head` meets its contract. Assumes nothing.
use Rattle.blocks.proofs.Walk.{head_at}
use Rattle.blocks.proofs.rows.Block.head.Goals as goal

pub returns : goal.returns
returns c =
    let b = c.args.self.now in
    rw (head_at b.tables.now b.roles b.role c.args.row, ← b.rows_are, ← b.starts, ← c.from-start.ensures, ← c.from.ensures) c.head.ensures
