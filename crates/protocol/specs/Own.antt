-- The public calls with the answers of the code's own types, and what stands of those. Assumes nothing.
use Rattle.std.specs.Prelude.{ℕ, List, Result, ⊤, ◌≡◌}
use Rattle.table.specs.Limits.{base}
use Rattle.table.specs.Refusals.{verdict_of}
use Rattle.table.specs.declared.refusal.Refusal.{Refusal}
use Rattle.opening.specs.Opening.{Opens}
use Rattle.session.specs.Promises.{Freshens, Sends, Receives, Awaits}
use Rattle.session.specs.Results.{answered, delivered, told}
use Rattle.session.specs.declared.Session.{Session}
use Rattle.session.specs.declared.answers.Answer as own
use Rattle.session.specs.declared.answers.Message.{Message}
use Rattle.session.specs.declared.answers.Awaited.{Awaited}
use Rattle.protocol.specs.Engine.{sends, receives}
use Rattle.protocol.specs.Fits.{Size, Words, Fits, FitsSession}
use Rattle.protocol.specs.Promised.{Code, Demand3OfCode, SessionsFit, K13OfCode, K13ByAnyArmOfCode, NeverStray}
use Rattle.protocol.specs.Refused.{CodeRefusedKeeps}
use Rattle.protocol.specs.Offered.{CodeSaysWhatIsTaken}

-- the public calls, as functions of the values that they are given, in the order of Promised.antt
pub record Own : Type 0 where
  pub result : List ℕ → ℕ → List ℕ → Result ⊤ Refusal
  pub filled : List ℕ → ℕ → List ℕ → List ℕ
  pub fresh : List ℕ → ℕ → own.Answer ⊤
  pub send : Session → List ℕ → ℕ → ℕ → ℕ → ℕ → ℕ → own.Answer ⊤
  pub receive : Session → List ℕ → ℕ → ℕ → ℕ → own.Answer Message
  pub awaited : Session → List ℕ → ℕ → own.Answer Awaited

-- their `ensures`, clause for clause, for the values that their types hold
pub record OwnPromises (own : Own) : Type 0 where
  pub opening : (table : List ℕ) (roles : ℕ) (room : List ℕ) → Words table → Size roles → Words room
      → Opens base table roles room (verdict_of (own.result table roles room)) (own.filled table roles room)
  pub fresh : (tables : List ℕ) (roles : ℕ) → Words tables → Size roles → Freshens base tables roles (answered base (own.fresh tables roles))
  pub send : (state : Session) (tables : List ℕ) (roles sender receiver label payload : ℕ)
      → FitsSession state → Words tables → Size roles → Fits (sends sender receiver label payload)
      → Sends base tables roles sender receiver label payload state (answered base (own.send state tables roles sender receiver label payload))
  pub receive : (state : Session) (tables : List ℕ) (roles sender receiver : ℕ)
      → FitsSession state → Words tables → Size roles → Fits (receives sender receiver)
      → Receives base tables roles sender receiver state (delivered base (own.receive state tables roles sender receiver))
  pub awaited : (state : Session) (tables : List ℕ) (roles : ℕ) → FitsSession state → Words tables → Size roles
      → Awaits base tables roles state (told base (own.awaited state tables roles))

-- what their answers say, in the customer's numbers and values
abbrev pub said_by : Own → Code
said_by own = record {
  verdict = λ t roles room. verdict_of (own.result t roles room);
  filled = own.filled;
  fresh = λ ts roles. answered base (own.fresh ts roles);
  send = λ s ts roles p q l v. answered base (own.send s ts roles p q l v);
  receive = λ s ts roles p q. delivered base (own.receive s ts roles p q);
  awaited = λ s ts roles. told base (own.awaited s ts roles);
}

-- every theorem of the code's own answers
pub record OwnLaws (own : Own) : Type 0 where
  pub demand3 : Demand3OfCode (said_by own)
  pub sessions_fit : SessionsFit (said_by own)
  pub never_stray : NeverStray (said_by own)
  pub k13 : K13OfCode (said_by own)
  pub k13_by_any_arm : K13ByAnyArmOfCode (said_by own)
  pub refused_keeps : CodeRefusedKeeps (said_by own)
  pub says_what_is_taken : CodeSaysWhatIsTaken (said_by own)

-- and what they say leaves nothing of them open: other code that keeps the promises answers the same, wherever the types reach
pub record SameAnswers (own other : Own) : Type 0 where
  pub opening : (table : List ℕ) (roles : ℕ) (room : List ℕ) → Words table → Size roles → Words room
      → (own.result table roles room ≡ other.result table roles room) × (own.filled table roles room ≡ other.filled table roles room)
  pub fresh : (tables : List ℕ) (roles : ℕ) → Words tables → Size roles → own.fresh tables roles ≡ other.fresh tables roles
  pub send : (state : Session) (tables : List ℕ) (roles sender receiver label payload : ℕ)
      → FitsSession state → Words tables → Size roles → Fits (sends sender receiver label payload)
      → own.send state tables roles sender receiver label payload ≡ other.send state tables roles sender receiver label payload
  pub receive : (state : Session) (tables : List ℕ) (roles sender receiver : ℕ)
      → FitsSession state → Words tables → Size roles → Fits (receives sender receiver)
      → own.receive state tables roles sender receiver ≡ other.receive state tables roles sender receiver
  pub awaited : (state : Session) (tables : List ℕ) (roles : ℕ) → FitsSession state → Words tables → Size roles
      → own.awaited state tables roles ≡ other.awaited state tables roles
