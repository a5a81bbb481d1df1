-- A refused call hands the state back unaltered, and what the values of a refused answer are. For every input.
-- Assumes nothing.
use Rattle.std.specs.Prelude.{ℕ, List, ◌≢◌, ◌≡◌}
use Rattle.table.specs.Limits.{Limits}
use Rattle.table.specs.Numbers.{ACCEPTED}
use Rattle.state.specs.Numbers.{LABEL, STRAY}
use Rattle.session.specs.State.{nothing}
use Rattle.session.specs.Calls.{fresh_of, send_of, receive_of}
use Rattle.session.specs.Awaited.{awaited_of}
use Rattle.session.specs.declared.Session.{Session}
use Rattle.session.specs.Answers.{Answer, Awaiting}

-- refused, a call hands back s, and label and payload 0; but with 16 and 19 it offers nothing, for which the limit's labels stand
abbrev pub HandsBack : Limits → Session → Answer → Type 0
HandsBack lim s a = a.number ≢ ACCEPTED
    → (a.state ≡ s) × (a.label ≡ 0) × (a.payload ≡ 0) × (a.number ≢ LABEL → a.number ≢ STRAY → a.offered ≡ lim.labels)

-- refused, an awaited answer is the empty set, 0 and the limit's roles
abbrev pub NamesNobody : Limits → Awaiting → Type 0
NamesNobody lim a = a.number ≢ ACCEPTED → (a.set ≡ 0) × (a.count ≡ 0) × (a.lowest ≡ lim.roles)

pub record RefusedKeeps (lim : Limits) : Type 0 where
  -- there was no state: it is all zeros
  pub fresh : (tables : List ℕ) (roles : ℕ) → HandsBack lim (nothing lim) (fresh_of lim tables roles)
  pub send : (state : Session) (tables : List ℕ) (roles sender receiver label payload : ℕ)
      → HandsBack lim state (send_of lim tables roles sender receiver label payload state)
  pub receive : (state : Session) (tables : List ℕ) (roles sender receiver : ℕ)
      → HandsBack lim state (receive_of lim tables roles sender receiver state)
  -- the state, refused or not
  pub awaited_state : (state : Session) (tables : List ℕ) (roles : ℕ) → (awaited_of lim tables roles state).state ≡ state
  pub awaited : (state : Session) (tables : List ℕ) (roles : ℕ) → NamesNobody lim (awaited_of lim tables roles state)
