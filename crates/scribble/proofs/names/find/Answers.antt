-- `scribble::names::find` meets its contract. Assumes nothing.
use Rattle.std.proofs.Common.{rules, tests, ◌∙◌, sym, take}
use Rattle.std.proofs.lemmas.Iterator.{YieldsList-from_slice, YieldsList-from_take}
use Rattle.std.proofs.lemmas.Iterator.Search.{position_from_yields_List}
use Rattle.scribble.specs.Tokens.{spelled_alike}
use Rattle.scribble.specs.mirror.Starts.{name_from}
use Rattle.scribble.proofs.Counting.{number_of_names}
use Rattle.scribble.proofs.names.find.Goals as goal

pub returns : goal.returns
returns c =
    let text = c.args.text.now in
    let name = name_from text c.args.at in
    let e = position_from_yields_List (λ x. spelled_alike (name_from text x) name) _ _ c.position.result c.position.ensures.ran (YieldsList-from_take c.args.count (YieldsList-from_slice c.args.starts.now cc) c.take.ensures.count) (λ x b q k. search (rules, tests)) in
    e ∙ sym (number_of_names text name (take c.args.count c.args.starts.now))
