-- `scribble::lines::line_of` meets its contract. Assumes nothing.
use Rattle.std.proofs.Common.{rules, tests, ◌≡◌, length, take, nat_eq, arith}
use Rattle.std.specs.List.{filter}
use Rattle.std.proofs.lemmas.Iterator.{YieldsList-from_slice, YieldsList-from_take}
use Rattle.std.proofs.lemmas.Iterator.Consumers.{count_from_yields_List, YieldsList-from_filter, YieldsList-at}
use Rattle.scribble.specs.Tokens.{line_of}
use Rattle.scribble.proofs.Counting.{newlines_lem}
use Rattle.scribble.proofs.lines.line_of.Goals as goal

pub returns : goal.returns
unfolding line_of
returns c =
    let a = c.args in
    let e : c.count.result ≡ length (filter (λ b. nat_eq b 10) (take a.at a.text.now)) =
    count_from_yields_List _ _ c.count.ensures.ran (YieldsList-from_filter _ (λ b. nat_eq b 10) (YieldsList-at c.filter.ensures.source (YieldsList-from_take a.at (YieldsList-from_slice a.text.now cc) c.take.ensures.count)) c.filter.ensures.closure (λ x b q k. search (rules, tests))) in
    rw newlines_lem (omega arith)
