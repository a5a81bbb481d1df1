-- The examples hold: the reader is run on each, by computation, and answers as the text says. Assumes nothing.
use mathlib.Core.List.{List, [], ◌∷◌, map}
use mathlib.Core.Path.{◌≡◌, refl, subst}
use Rattle.scribble.specs.Ascii.{ascii_lines}
use Rattle.scribble.specs.Outcome.{TextOutcome, ReadsTo}
use Rattle.scribble.specs.Examples.{Example, examples, Hold}
use Rattle.scribble.specs.mirror.Reader.{read_of}
use Rattle.scribble.proofs.Answering.{read_means}

abbrev computed : Example → TextOutcome
computed e = read_of e.limits (ascii_lines e.lines) e.room

hold : (es : List Example) → map (λ e. computed e) es ≡ map (λ e. e.outcome) es → Hold es
hold [] p = tt
hold (e ∷ es) p =
    let first : computed e ≡ e.outcome = cc in
    let later : map (λ e. computed e) es ≡ map (λ e. e.outcome) es = cc in
    (subst (λ (a : TextOutcome). ReadsTo e.limits (ascii_lines e.lines) e.room a) first (read_means e.limits (ascii_lines e.lines) e.room), hold es later)

-- THEOREM
pub examples_hold : Hold examples
unfolding examples read_of ascii_lines
examples_hold = hold examples refl
