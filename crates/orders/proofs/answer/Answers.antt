-- `orders::answer` meets its contract. Assumes nothing.
use Rattle.orders.proofs.Reading.{answered_none, answered_some}
use Rattle.orders.proofs.answer.Goals as goal

pub returns-in-Some : goal.returns-in-Some
returns-in-Some c = answered_some c.in-Some.said _ _ c.args.line.now _ _ c.in-Some.ensures c.write.ensures.0 c.write.ensures.1

pub returns-in-None : goal.returns-in-None
returns-in-None c =
    let asked = c.ask.ensures in
    rw asked.1 (answered_none c.args.run c.args.tables.now _ c.args.line.now _ c.in-None.ensures.0 c.in-None.ensures.1 (rw asked.1 at asked.0))
