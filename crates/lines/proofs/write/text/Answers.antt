-- `lines::write::text` meets its contract: the text that is left to write comes to the same as all of it from the start. Assumes nothing.
use mathlib.Core.Path.{refl}
use Rattle.std.proofs.Common.{rules}
use Rattle.lines.proofs.Stores.{start, then}
use Rattle.lines.proofs.Texts.{number_written, none_written, text_written}
use Rattle.lines.proofs.write.text.Goals as goal

pub loop-n-init : goal.loop-n-init
loop-n-init c = (refl, start _ _ _)

pub loop-n-preserved : goal.loop-n-preserved
loop-n-preserved c = (search rules, then (number_written _ _ _ _ _ _ _ _ _ c.loop-n-test.true c.put_number.ensures.written c.put.ensures.written) c.loop-n.invariant.1)

pub returns : goal.returns
returns c =
    let done = text_written _ _ _ _ _ _ _ _ _ _ _ c.in-Some.ensures.cases.0 c.loop-n-test.false c.loop-n.invariant.1 c.put_number-2.ensures.written c.put-2.ensures.written in
    search (rules, done)

pub returns-in_default : goal.returns-in_default
returns-in_default c = none_written _ _ c.in_default.ensures.cases
