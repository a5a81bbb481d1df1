-- The customer's numbers of the refusals, and what a refusal offers. Assumes nothing.
use Rattle.std.specs.Prelude.{ℕ, Option, Some, None}
use Rattle.state.specs.Numbers as paper
use Rattle.state.specs.declared.Refusal.{Refusal}
use Rattle.state.specs.declared.Refusal.TheVariants.{Tables, State, Party, Turn, Label, Full, Empty, Stray}

abbrev pub number_of : Refusal → ℕ
number_of Tables = paper.TABLES
number_of State = paper.STATE
number_of Party = paper.PARTY
number_of Turn = paper.TURN
number_of (Label k) = paper.LABEL
number_of Full = paper.FULL
number_of Empty = paper.EMPTY
number_of (Stray k) = paper.STRAY

-- the lowest label that the head offers, where the call is refused for its label
abbrev pub offered_of : Refusal → Option ℕ
offered_of Tables = None
offered_of State = None
offered_of Party = None
offered_of Turn = None
offered_of (Label k) = Some k
offered_of Full = None
offered_of Empty = None
offered_of (Stray k) = Some k
