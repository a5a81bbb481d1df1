-- `logs::read` meets its contract. Assumes nothing.
use mathlib.Core.Path.{◌≡◌}
use native.Mathlib.Omega.{arith}
use borrow.Author.Rules.{rules}
use lib.ListN.{length}
use lib.Seq.{length-take-le}
use Rattle.logs.specs.Lines.{LONGEST}
use Rattle.logs.proofs.Reading.{all_read}
use Rattle.logs.proofs.read.Goals as goal

pub slice_bounds-result-end : goal.slice_bounds-result-end
slice_bounds-result-end c =
    let read = all_read c.args.line.now c.args.numbers.now _ c.requires c.numbers.ensures.1 _ c.numbers.ensures.0 _ c.unwrap_or-count.ensures in
    let long : length c.numbers.new.out ≡ LONGEST = search rules in
    let all = length-take-le c.unwrap_or-count.result c.numbers.new.out (omega (arith, read.1, long)) in
    omega (arith, all)

pub returns : goal.returns
returns c = (all_read c.args.line.now c.args.numbers.now _ c.requires c.numbers.ensures.1 _ c.numbers.ensures.0 _ c.unwrap_or-count.ensures).0
