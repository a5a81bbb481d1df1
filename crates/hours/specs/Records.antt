-- the records of a log, the minutes that each covers, and the minutes of a kind. Assumes nothing.
use Rattle.std.specs.Prelude.{ℕ, suc, ◌-◌, ◌/◌, ◌%◌, ◌^◌, Bool, false, cond, not, ◌&&◌, List, ltb, eqb, length, get_or}
use Rattle.words.specs.Below.{sum, how_many}
use Rattle.table.specs.Limits.{Limits}
use Rattle.hours.specs.declared.Record.{Record}

abbrev pub blank : Record
blank = record { minute = 0; awake = false; set = 0 }

-- record i
abbrev pub at : List Record → ℕ → Record
at rs i = get_or rs i blank

-- a record covers the minutes up to the next one; the last covers none, so one fewer than the records do
abbrev pub spans : List Record → ℕ
spans rs = length rs - 1

abbrev pub covers : List Record → ℕ → ℕ
covers rs i = (at rs (suc i)).minute - (at rs i).minute

-- the minutes that the records of a kind cover
abbrev pub minutes_of : (Record → Bool) → List Record → ℕ
minutes_of p rs = sum (λ i. cond (p (at rs i)) (covers rs i) 0) (spans rs)

-- role r is in the set: its digit of weight 2 ^ r is 1
abbrev pub is_in : ℕ → ℕ → Bool
is_in s r = eqb (s / 2 ^ r % 2) 1

-- how many roles are in the set
abbrev pub roles_in : Limits → ℕ → ℕ
roles_in lim s = how_many (is_in s) lim.roles

-- ---- the kinds of awake records

-- awaiting role k and no other
abbrev pub is_alone : Limits → ℕ → Record → Bool
is_alone lim k r = r.awake && (is_in r.set k && eqb (roles_in lim r.set) 1)

abbrev pub is_several : Limits → Record → Bool
is_several lim r = r.awake && ltb 1 (roles_in lim r.set)

abbrev pub is_nobody : Limits → Record → Bool
is_nobody lim r = r.awake && eqb (roles_in lim r.set) 0

-- ---- the figures

-- from the first record to the last, 0 for none
abbrev pub total : List Record → ℕ
total rs = (at rs (spans rs)).minute - (at rs 0).minute

abbrev pub awake : List Record → ℕ
awake rs = minutes_of (λ r. r.awake) rs

abbrev pub asleep : List Record → ℕ
asleep rs = minutes_of (λ r. not r.awake) rs

abbrev pub alone : Limits → ℕ → List Record → ℕ
alone lim k rs = minutes_of (is_alone lim k) rs

abbrev pub several : Limits → List Record → ℕ
several lim rs = minutes_of (is_several lim) rs

abbrev pub nobody : Limits → List Record → ℕ
nobody lim rs = minutes_of (is_nobody lim) rs
