-- Of the code's own answers: what is offered would be taken. Over any tables and states that its types hold. Assumes nothing.
use Rattle.std.specs.Prelude.{ℕ, List, ◌≢◌, ◌≡◌}
use Rattle.table.specs.Limits.{base}
use Rattle.state.specs.Numbers.{LABEL, STRAY}
use Rattle.session.specs.Offered.{WouldBeSent, WouldBeReceived}
use Rattle.session.specs.declared.Session.{Session}
use Rattle.protocol.specs.Engine.{sends, receives}
use Rattle.protocol.specs.Fits.{Size, Words, Fits, FitsSession}
use Rattle.protocol.specs.Promised.{Code}

pub record CodeSaysWhatIsTaken (code : Code) : Type 0 where
  pub fresh : (tables : List ℕ) (roles : ℕ) → Words tables → Size roles → (code.fresh tables roles).offered ≡ base.labels
  pub send : (state : Session) (tables : List ℕ) (roles sender receiver label payload : ℕ)
      → FitsSession state → Words tables → Size roles → Fits (sends sender receiver label payload)
      → let a = code.send state tables roles sender receiver label payload in
      (a.number ≡ LABEL → WouldBeSent base tables roles sender receiver state a.offered) × (a.number ≢ LABEL → a.offered ≡ base.labels)
  pub receive : (state : Session) (tables : List ℕ) (roles sender receiver : ℕ)
      → FitsSession state → Words tables → Size roles → Fits (receives sender receiver)
      → let a = code.receive state tables roles sender receiver in
      (a.number ≡ STRAY → WouldBeReceived base tables roles sender receiver state a.offered) × (a.number ≢ STRAY → a.offered ≡ base.labels)
