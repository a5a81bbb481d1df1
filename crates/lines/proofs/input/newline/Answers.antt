-- `lines::input::newline` meets its contract. Assumes nothing.
use Rattle.std.proofs.Common.{rules, tests, eqb}
use Rattle.std.proofs.lemmas.Iterator.{YieldsList-from_slice}
use Rattle.std.proofs.lemmas.Iterator.Search.{position_from_yields_List}
use Rattle.lines.proofs.Running.{found}
use Rattle.lines.proofs.input.newline.Goals as goal

pub returns : goal.returns
returns c =
    found c.args.bytes.now c.position.result
    (position_from_yields_List (λ b. eqb b 10) _ _ c.position.result c.position.ensures.ran (YieldsList-from_slice c.args.bytes.now cc) (λ x b q k. search (rules, tests)))
