-- `Log::answer` meets its contract. Assumes nothing.
use mathlib.Core.Path.{sym, ap, ◌∙◌}
use native.Mathlib.Omega.{arith}
use borrow.Author.Rules.{rules}
use lib.ListN.{length}
use Rattle.lines.specs.Text.{text_of}
use Rattle.table.specs.Limits.{base}
use Rattle.hours.specs.Figures.{Figures}
use Rattle.logs.specs.Lines.{told_of}
use Rattle.logs.specs.Logs.{records}
use Rattle.logs.proofs.Telling.{place_le, tells, asks}
use Rattle.logs.proofs.Log.answer.Goals as goal

pub show-requires : goal.show-requires
show-requires c =
    let e = ap (λ (f : Figures). f.place) c.figures_for.ensures in
    let l = place_le base (records c.args.self.now) c.in-Some.roles in
    (omega (arith, e, l), search rules)

pub returns-in-Some : goal.returns-in-Some
returns-in-Some c =
    let e = ap (λ (f : Figures). text_of (told_of f)) c.figures_for.ensures ∙ sym (tells base c.args.self.now c.in-Some.roles (sym c.roles.ensures ∙ c.in-Some.is)) in
    (c.show.ensures.0 ∙ e, c.show.ensures.1 ∙ ap length e)

pub returns-in-None : goal.returns-in-None
returns-in-None c =
    let e = asks base c.args.self.now (sym c.roles.ensures ∙ c.in-None.is) in
    (c.ask.ensures.0 ∙ sym e, c.ask.ensures.1 ∙ sym (ap length e))
