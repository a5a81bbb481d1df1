-- `lines::write::text` meets its contract: the text that is left to write comes to the same as all of it from the start. Assumes nothing.
use mathlib.Core.List.{[], ◌∷◌, ◌++◌}
use mathlib.Core.Path.{◌≡◌}
use lib.ListN.{drop}
use Rattle.lines.specs.Text.{text_of}
use Rattle.lines.proofs.Stores.{Same}
use Rattle.lines.proofs.write.text.Given as goal

abbrev pub invariant-loop-n : goal.invariant-loop-n
invariant-loop-n l =
    (l.text.out.ghost_name ≡ l.initial.text.out.ghost_name)
    × Same l.text.out.now l.text.length (text_of (drop l.n-index l.front ++ (l.last ∷ []))) l.initial.text.out.now l.initial.text.length (text_of (l.front ++ (l.last ∷ [])))
