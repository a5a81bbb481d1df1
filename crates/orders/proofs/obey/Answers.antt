-- `orders::obey` meets its contract. Assumes nothing.
use mathlib.Core.Path.{refl}
use Rattle.orders.proofs.Reading.{no_count, no_letter, first_none, first_some, the_order}
use Rattle.orders.proofs.obey.Goals as goal

pub returns-in_err-count : goal.returns-in_err-count
returns-in_err-count c = rw c.from_residual.ensures (no_count _ c.args.line.now c.args.numbers.now c.told-numbers c.in_err-count.ensures.0, refl)

pub returns-in_err-letter : goal.returns-in_err-letter
returns-in_err-letter c =
    rw c.from_residual-in_err-letter.ensures (no_letter _ c.args.line.now c.args.numbers.now c.told-numbers (first_none c.args.line.now c.in_err-letter.ensures.value), refl)

pub returns : goal.returns
returns c =
    let read = c.in_ok-count.ensures in
    let letter = first_some c.args.line.now _ c.in_ok-letter.ensures.value in
    rw (← (the_order _ c.args.line.now c.args.numbers.now c.told-numbers _ read.0 _ _ _ letter read.1 c.cut.ensures.items)) c.order.ensures
