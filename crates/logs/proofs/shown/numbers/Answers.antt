-- `shown::numbers` meets its contract. Assumes nothing.
use mathlib.Core.Path.{◌≡◌}
use borrow.Author.Rules.{rules}
use lib.ListN.{length}
use Rattle.logs.proofs.Telling.{parts_put}
use Rattle.logs.proofs.shown.numbers.Goals as goal

pub returns : goal.returns
returns c =
    let a = c.args in
    let f = a.figures in
    let long : length f.alone ≡ 8 = search rules in
    rw (c.copy_from_slice.ensures.after, c.copy_from_slice-2.ensures.after, c.copy_from_slice-3.ensures.after, c.from.ensures)
    (parts_put a.number a.place f.total f.awake f.asleep f.alone f.several f.nobody long)
