-- Of the code's own answers: a refused opening writes nothing in the room that is lent; a refused call hands the state back
-- unaltered, with the customer's values. For the values that its types hold. Assumes nothing.
use Rattle.std.specs.Prelude.{ℕ, List, ◌≢◌, ◌≡◌}
use Rattle.table.specs.Limits.{base}
use Rattle.table.specs.Numbers.{ACCEPTED}
use Rattle.session.specs.State.{nothing}
use Rattle.session.specs.Refused.{HandsBack, NamesNobody}
use Rattle.session.specs.declared.Session.{Session}
use Rattle.protocol.specs.Engine.{sends, receives}
use Rattle.protocol.specs.Fits.{Size, Words, Fits, FitsSession}
use Rattle.protocol.specs.Promised.{Code}

pub record CodeRefusedKeeps (code : Code) : Type 0 where
  pub opening : (table : List ℕ) (roles : ℕ) (room : List ℕ) → Words table → Size roles → Words room
      → (code.verdict table roles room).number ≢ ACCEPTED → code.filled table roles room ≡ room
  -- there was no state: it is all zeros
  pub fresh : (tables : List ℕ) (roles : ℕ) → Words tables → Size roles → HandsBack base (nothing base) (code.fresh tables roles)
  pub send : (state : Session) (tables : List ℕ) (roles sender receiver label payload : ℕ)
      → FitsSession state → Words tables → Size roles → Fits (sends sender receiver label payload)
      → HandsBack base state (code.send state tables roles sender receiver label payload)
  pub receive : (state : Session) (tables : List ℕ) (roles sender receiver : ℕ)
      → FitsSession state → Words tables → Size roles → Fits (receives sender receiver)
      → HandsBack base state (code.receive state tables roles sender receiver)
  -- the state, refused or not
  pub awaited_state : (state : Session) (tables : List ℕ) (roles : ℕ) → FitsSession state → Words tables → Size roles
      → (code.awaited state tables roles).state ≡ state
  pub awaited : (state : Session) (tables : List ℕ) (roles : ℕ) → FitsSession state → Words tables → Size roles
      → NamesNobody base (code.awaited state tables roles)
