-- `State::receive_from` meets its contract. Assumes nothing.
use Rattle.table.specs.Limits.{base}
use Rattle.state.proofs.Turning.{no_receive}
use Rattle.state.proofs.State.receive_from.Goals as goal

pub returns-in_default : goal.returns-in_default
returns-in_default c =
    let b = c.args.block.now in
    no_receive base b.tables.now b.roles b.role c.args.sender _ _ c.row.result c.row.ensures.0 c.in_default.not-Receive
