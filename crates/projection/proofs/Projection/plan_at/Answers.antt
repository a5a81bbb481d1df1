-- `projection::Projection::plan_at` meets its contract. Assumes nothing.
use mathlib.Core.Path.{refl, sym, ◌∙◌, ap}
use native.Mathlib.Omega.{arith}
use Rattle.table.specs.Rows.{Exchange, Back}
use Rattle.table.specs.mirror.Read.{said}
use Rattle.projection.proofs.Rows.{words_are, at_exchange, at_back, at_other}
use Rattle.projection.proofs.Projection.plan_at.Goals as goal

pub returns-in-Exchange : goal.returns-in-Exchange
returns-in-Exchange c =
    let (k, a, b, f) = words_are _ _ _ _ (Exchange _ _ _) (sym (ap said c.in-Exchange.is) ∙ c.read.ensures.0) (omega arith) in
    at_exchange (sym k) refl (sym a) (sym b) (c.from.ensures ∙ sym f) c.after.ensures c.at_exchange.ensures

pub returns-in-Back : goal.returns-in-Back
returns-in-Back c =
    let (k, a, b, f) = words_are _ _ _ _ (Back _ _ _) (sym (ap said c.in-Back.is) ∙ c.read.ensures.0) (omega arith) in
    at_back (sym k) refl (sym a) c.word.ensures

pub returns-in_default : goal.returns-in_default
returns-in_default c =
    at_other c.read.result c.read.ensures.0 c.in_default.not-Exchange c.in_default.not-Loop c.in_default.not-Back (c.word-in_default.ensures (omega arith))
