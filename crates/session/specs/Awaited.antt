-- The awaited roles. Assumes nothing.
use Rattle.std.specs.Prelude.{ℕ, Bool, cond, not, List, ltb}
use Rattle.words.specs.Below.{lowest, how_many, set_of}
use Rattle.table.specs.Limits.{Limits}
use Rattle.table.specs.Numbers.{ACCEPTED}
use Rattle.blocks.specs.Tables.{tables_good}
use Rattle.state.specs.Numbers.{TABLES, STATE}
use Rattle.state.specs.State as lists
use Rattle.state.specs.Awaited as acting
use Rattle.session.specs.State.{listed, state_good}
use Rattle.session.specs.declared.Session.{Session}
use Rattle.session.specs.Answers.{Awaiting}

-- role r has a call that would be accepted
abbrev pub is_awaited : Limits → List ℕ → ℕ → Session → ℕ → Bool
is_awaited lim ts roles s r = acting.is_awaited lim ts roles (listed s) r

-- the set of the roles below n that p holds of, how many they are, and the lowest, or `nobody`
abbrev pub role_set : ℕ → (ℕ → Bool) → ℕ → ℕ → Session → Awaiting
role_set number p n nobody s =
    let first = lowest p n in
    record { number = number; set = set_of p n; count = how_many p n; lowest = cond (ltb first n) first nobody; state = s }

-- an awaited answer refused with 12 or 13 is the empty set, 0 and the limit's roles
abbrev pub nobody_awaited : Limits → ℕ → Session → Awaiting
nobody_awaited lim number s = record { number = number; set = 0; count = 0; lowest = lim.roles; state = s }

unfoldable pub awaited_of : Limits → List ℕ → ℕ → Session → Awaiting
unfolding acting.can_act tables_good lists.state_good
awaited_of lim ts roles s =
    cond (not (tables_good lim ts roles)) (nobody_awaited lim TABLES s) (
    cond (not (state_good lim ts roles s)) (nobody_awaited lim STATE s) (
    role_set ACCEPTED (is_awaited lim ts roles s) roles lim.roles s))
