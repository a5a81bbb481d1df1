-- What the report is for: a record whose set is the engine's awaited answer charges exactly the roles that could act. Assumes nothing.
use Rattle.std.specs.Prelude.{ℕ, ◌<◌, Bool, false, ◌&&◌, List, ◌≡◌, ltb, eqb}
use Rattle.words.specs.Below.{how_many}
use Rattle.table.specs.Limits.{Limits}
use Rattle.session.specs.Awaited.{is_awaited}
use Rattle.session.specs.Promises.{Awaits}
use Rattle.session.specs.declared.Session.{Session}
use Rattle.session.specs.Answers.{Awaiting}
use Rattle.hours.specs.Records.{is_alone, is_several, is_nobody}
use Rattle.hours.specs.declared.Record.{Record}

-- of the roles below n those that can act, by p: awake, the record counts for a role alone exactly where that role can act and is the only one; for several
-- where more than one can; for nobody where none can
pub record Charges (lim : Limits) (p : ℕ → Bool) (n : ℕ) (r : Record) : Type 0 where
  pub alone : (k : ℕ) → is_alone lim k r ≡ (r.awake && ((ltb k n && p k) && eqb (how_many p n) 1))
  pub several : is_several lim r ≡ (r.awake && ltb 1 (how_many p n))
  pub nobody : is_nobody lim r ≡ (r.awake && eqb (how_many p n) 0)

-- the record's set is an awaited answer, refused or one of a moment when role k had no call that would be accepted
pub record Unawaited (lim : Limits) (k : ℕ) (r : Record) : Type 0 where
  pub tables : List ℕ
  pub roles : ℕ
  pub state : Session
  pub answer : Awaiting
  pub promised : Awaits lim tables roles state answer
  pub same : r.set ≡ answer.set
  pub not_awaited : answer.number ≡ 0 → k < roles → is_awaited lim tables roles state k ≡ false
