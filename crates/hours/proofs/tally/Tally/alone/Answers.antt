-- `Tally::alone` meets its contract. Assumes nothing.
use mathlib.Core.Path.{◌≡◌, sym, ◌∙◌}
use lib.ListN.{length}
use native.Mathlib.Omega.{arith}
use borrow.Author.Rules.{rules}
use Rattle.hours.proofs.Each.{each_range}
use Rattle.hours.proofs.tally.Tally.alone.Goals as goal

pub returns : goal.returns
returns c =
    let long : length c.args.self.now.sums ≡ 20 = search rules in
    c.copy_from_slice.ensures.after ∙ sym (each_range c.args.self.now.sums 4 8 (omega (arith, long)))
