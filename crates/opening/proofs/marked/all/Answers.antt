-- `opening::marked::all` meets its contract, by computation. Assumes nothing.
use mathlib.Core.Path.{refl}
use Rattle.opening.specs.Marked.{marked}
use Rattle.opening.proofs.marked.all.Goals as goal

pub returns : goal.returns
unfolding marked
returns c = refl
