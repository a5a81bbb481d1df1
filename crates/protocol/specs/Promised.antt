-- That the engine accepts exactly what the step rules allow, said of the code's own answers: from the promises of its public calls to the record, with nothing between. Assumes nothing.
use Rattle.std.specs.Prelude.{ℕ, ◌*◌, List, ◌≢◌, ◌≡◌, length, take}
use Rattle.table.specs.Limits.{base}
use Rattle.table.specs.Numbers.{ACCEPTED}
use Rattle.table.specs.Tree.{Arms}
use Rattle.table.specs.Check.{Verdict}
use Rattle.opening.specs.Opening.{Opens}
use Rattle.state.specs.Numbers.{STRAY}
use Rattle.session.specs.Promises.{Freshens, Sends, Receives, Awaits}
use Rattle.session.specs.Answers.{Answer, Awaiting}
use Rattle.session.specs.declared.Session.{Session}
use Rattle.protocol.specs.Each.{Each}
use Rattle.protocol.specs.Engine.{Call, sends, receives, Engine, over}
use Rattle.protocol.specs.Fits.{Size, Words, Fits, FitsSession}
use Rattle.protocol.specs.Demand3.{after, Conforms}
use Rattle.protocol.specs.Stranded.{NothingStranded, ByAnyArm, Picks}

-- the public calls, as functions of the values that they are given. The types of the code bound those values, and its promises speak of
-- them only (Fits.antt): beyond, a Code answers anything
pub record Code : Type 0 where
  -- `open`: table, roles, room. The verdict, and the room afterwards
  pub verdict : List ℕ → ℕ → List ℕ → Verdict
  pub filled : List ℕ → ℕ → List ℕ → List ℕ
  -- tables, roles
  pub fresh : List ℕ → ℕ → Answer
  -- state, tables, roles, sender, receiver, label, payload
  pub send : Session → List ℕ → ℕ → ℕ → ℕ → ℕ → ℕ → Answer
  -- state, tables, roles, sender, receiver
  pub receive : Session → List ℕ → ℕ → ℕ → ℕ → Answer
  -- state, tables, roles
  pub awaited : Session → List ℕ → ℕ → Awaiting

-- the promises of `open` (crates/opening/src/lib.rt) and of the calls of `Session` (crates/session/src/lib.rt): the very predicates that their
-- `ensures` cite, for the values that their types hold
pub record Promises (code : Code) : Type 0 where
  pub opening : (table : List ℕ) (roles : ℕ) (room : List ℕ) → Words table → Size roles → Words room
      → Opens base table roles room (code.verdict table roles room) (code.filled table roles room)
  pub fresh : (tables : List ℕ) (roles : ℕ) → Words tables → Size roles → Freshens base tables roles (code.fresh tables roles)
  pub send : (state : Session) (tables : List ℕ) (roles sender receiver label payload : ℕ)
      → FitsSession state → Words tables → Size roles → Fits (sends sender receiver label payload)
      → Sends base tables roles sender receiver label payload state (code.send state tables roles sender receiver label payload)
  pub receive : (state : Session) (tables : List ℕ) (roles sender receiver : ℕ)
      → FitsSession state → Words tables → Size roles → Fits (receives sender receiver)
      → Receives base tables roles sender receiver state (code.receive state tables roles sender receiver)
  pub awaited : (state : Session) (tables : List ℕ) (roles : ℕ) → FitsSession state → Words tables → Size roles
      → Awaits base tables roles state (code.awaited state tables roles)

abbrev pub code_answer : Code → List ℕ → ℕ → Call → Session → Answer
code_answer code ts roles (sends p q l v) s = code.send s ts roles p q l v
code_answer code ts roles (receives p q) s = code.receive s ts roles p q

-- the engine that the code is
abbrev pub engine_of : Code → List ℕ → ℕ → Engine Session
engine_of code ts roles = over base ts roles (code.fresh ts roles) (code_answer code ts roles) (λ s. code.awaited s ts roles)

-- for every table that the code accepts, over the first words of the room that it leaves, and every sequence of calls that fit
abbrev pub Demand3OfCode : Code → Type 0
Demand3OfCode code = (table : List ℕ) (roles : ℕ) (room : List ℕ) → Words table → Size roles → Words room
    → (code.verdict table roles room).number ≡ ACCEPTED
    → Conforms base Fits (engine_of code (take (roles * length table) (code.filled table roles room)) roles) table roles

-- and every session that those calls come to fits: no call of them is made beyond the promises
abbrev pub SessionsFit : Code → Type 0
SessionsFit code = (table : List ℕ) (roles : ℕ) (room : List ℕ) → Words table → Size roles → Words room
    → (code.verdict table roles room).number ≡ ACCEPTED → (cs : List Call) → Each Fits cs
    → let e = engine_of code (take (roles * length table) (code.filled table roles room)) roles in
    FitsSession (after e cs e.fresh.state)

-- and nothing that they let in is stranded (K13): by calls that fit, and whoever picks the arms
abbrev pub K13OfCode : Code → Type 0
K13OfCode code = (table : List ℕ) (roles : ℕ) (room : List ℕ) → Words table → Size roles → Words room
    → (code.verdict table roles room).number ≡ ACCEPTED
    → NothingStranded Fits (engine_of code (take (roles * length table) (code.filled table roles room)) roles) roles

abbrev pub K13ByAnyArmOfCode : Code → Type 0
K13ByAnyArmOfCode code = (table : List ℕ) (roles : ℕ) (room : List ℕ) → Words table → Size roles → Words room
    → (code.verdict table roles room).number ≡ ACCEPTED → (pick : Arms ℕ → ℕ) → Picks pick
    → ByAnyArm Fits (engine_of code (take (roles * length table) (code.filled table roles room)) roles) table roles pick

-- and over tables that an opening wrote, STRAY is met only by a state made by hand: after no such calls is a receive refused with it
abbrev pub NeverStray : Code → Type 0
NeverStray code = (table : List ℕ) (roles : ℕ) (room : List ℕ) → Words table → Size roles → Words room
    → (code.verdict table roles room).number ≡ ACCEPTED → (cs : List Call) → Each Fits cs → (p q : ℕ) → Fits (receives p q)
    → let e = engine_of code (take (roles * length table) (code.filled table roles room)) roles in
    (e.answer (receives p q) (after e cs e.fresh.state)).number ≢ STRAY
