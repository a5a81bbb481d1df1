-- `orders::read::array` meets its contract: as many numbers as there are, and all of that kind. Assumes nothing.
use mathlib.Core.Path.{◌∙◌}
use lib.ListN.{replicate, length-replicate}
use borrow.Author.Tests.{ne_eqb}
use Rattle.orders.proofs.Lists.{array_none, array_some}
use Rattle.orders.proofs.read.array.Goals as goal
use Rattle.orders.proofs.read.array.Goals.{then-numbers-via-then-numbers, then-numbers-via-else-numbers+then-not-narrow}

pub returns-then-numbers : goal.returns-then-numbers
returns-then-numbers g c =
    let long = g.met.T.Width.length_of_numbers (replicate g.row.N c.wrapped-items.result) ∙ length-replicate g.row.N c.wrapped-items.result in
    elim c.then-numbers.branch [
      | then-numbers-via-then-numbers w ↦ rw (ne_eqb _ _ w.if-numbers.true)
      | then-numbers-via-else-numbers+then-not-narrow w ↦
          array_none _ _ _ _ _ w.if-numbers.false long w.narrow.ensures.0 w.if-not-narrow.true
    ]

pub returns : goal.returns
returns g c =
    let long = g.met.T.Width.length_of_numbers (replicate g.row.N c.wrapped-items.result) ∙ length-replicate g.row.N c.wrapped-items.result in
    array_some _ _ _ _ _ _ c.if-numbers.false long c.narrow.ensures.0 c.if-not-narrow.false c.narrow.ensures.1
