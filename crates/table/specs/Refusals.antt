-- The numbers of the rules, and what an answer says: its number and its place. Assumes nothing.
use Rattle.std.specs.Prelude.{ℕ, Result, Ok, Err, ⊤}
use Rattle.table.specs.Numbers.{WORDS, ROLES, ROOM, KIND, FIELD, LINK, NAMED, TWICE, UNBOUND, UNGUARDED, NOPART}
use Rattle.table.specs.Check.{Verdict, says, accepted}
use Rattle.table.specs.declared.refusal.Rule.{Rule}
use Rattle.table.specs.declared.refusal.Rule.TheVariants.{Words, Roles, Room, Kind, Field, Link, Named, Twice, Unbound, Unguarded, NoPart}
use Rattle.table.specs.declared.refusal.Refusal.{Refusal}

abbrev pub number_of : Rule → ℕ
number_of Words = WORDS
number_of Roles = ROLES
number_of Room = ROOM
number_of Kind = KIND
number_of Field = FIELD
number_of Link = LINK
number_of Named = NAMED
number_of Twice = TWICE
number_of Unbound = UNBOUND
number_of Unguarded = UNGUARDED
number_of NoPart = NOPART

-- accepted, or the number of the rule that is broken, and the place
abbrev pub verdict_of : Result ⊤ Refusal → Verdict
verdict_of (Ok u) = accepted
verdict_of (Err e) = says (number_of e.rule) e.place
