-- `scribble::token::lookup` meets its contract: it answers what the first entry for the name says. Assumes nothing.
use Rattle.std.proofs.Common.{rules, tests, ap, sym, ◌∙◌}
use Rattle.std.specs.Str.{bytes_eq}
use Rattle.std.proofs.lemmas.Iterator.{YieldsList-from_slice}
use Rattle.std.proofs.lemmas.Iterator.Search.{find_from_yields_List}
use Rattle.scribble.proofs.Sorting.{entry_sort, reserved_sort_find}
use Rattle.scribble.proofs.token.lookup.Goals as goal

pub returns-in-Some : goal.returns-in-Some
returns-in-Some c =
    let table = c.args.table.now in
    let s = c.args.name.now in
    let e = find_from_yields_List (λ k. bytes_eq k.0.now s) _ _ c.find.result c.find.ensures.ran (YieldsList-from_slice table cc) (λ x b q k. search (rules, tests)) in
    ap entry_sort (rw c.in-Some.is at e) ∙ sym (reserved_sort_find table s)

pub returns-in-None : goal.returns-in-None
returns-in-None c =
    let table = c.args.table.now in
    let s = c.args.name.now in
    let e = find_from_yields_List (λ k. bytes_eq k.0.now s) _ _ c.find.result c.find.ensures.ran (YieldsList-from_slice table cc) (λ x b q k. search (rules, tests)) in
    ap entry_sort (rw c.in-None.is at e) ∙ sym (reserved_sort_find table s)
