-- Rule 13 by the state's arrays. Assumes nothing.
use Rattle.std.specs.Prelude.{ℕ, Bool, cond, ◌&&◌, ltb, eqb}
use Rattle.table.specs.Limits.{Limits}
use Rattle.state.specs.State.{State}
use Rattle.state.specs.declared.State.{State as Lent}

-- a slot of a queue that holds so many
abbrev pub slot_holds : Limits → ℕ → ℕ → ℕ → ℕ → Bool
slot_holds lim count k label payload = cond (ltb k count) (ltb label lim.labels) (eqb label 0 && eqb payload 0)

-- what a lent state holds
abbrev pub seen : Lent → State
seen s = record { heads = s.heads.now; counts = s.counts.now; labels = s.labels.now; payloads = s.payloads.now }
