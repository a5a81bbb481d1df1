-- `State::send_from` meets its contract. Assumes nothing.
use Rattle.table.specs.Limits.{base}
use Rattle.state.proofs.Turning.{no_send}
use Rattle.state.proofs.State.send_from.Goals as goal

pub returns-in_default : goal.returns-in_default
returns-in_default c =
    let b = c.args.block.now in
    no_send base b.tables.now b.roles b.role c.args.receiver c.args.label _ c.row.result c.row.ensures.0 c.in_default.not-Send
