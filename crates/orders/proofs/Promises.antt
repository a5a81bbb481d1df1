-- Any two answers to a line are equal: the bytes, how many they are, and what is kept. Assumes nothing.
use Prim.Native.Nat.{ℕ}
use mathlib.Core.List.{List}
use mathlib.Core.Path.{◌≡◌, sym, ◌∙◌}
use Rattle.table.specs.Limits.{Limits}
use Rattle.orders.specs.Lines.{writes, Starts, Answers}
use Rattle.orders.specs.declared.run.Run.{Run}
use Rattle.orders.specs.declared.run.Answered.{Answered}

pub one_start : (lim : Limits) (a b : Run) → Starts lim a → Starts lim b → a ≡ b
one_start lim a b e f = e ∙ sym f

pub one_answer : (lim : Limits) (run : Run) (ws line : List ℕ) (a b : Answered) (us vs t u : List ℕ)
    → Answers lim run ws line a us t → Answers lim run ws line b vs u → (writes a us t ≡ writes b vs u) × (a.length ≡ b.length)
one_answer lim run ws line a b us vs t u x y = (x.0 ∙ sym y.0, x.1 ∙ sym y.1)
