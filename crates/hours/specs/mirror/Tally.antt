-- What the code keeps: the sums after some records. Assumes nothing.
use Rattle.std.specs.Prelude.{ℕ, zero, suc, ◌-◌, ◌<◌, Bool, true, false, cond, List, ◌≡◌, ltb, eqb, length, get_or, Option, Some, None, Result, Ok, Err}
use Rattle.words.specs.Below.{sum}
use Rattle.table.specs.Limits.{Limits}
use Rattle.table.specs.Numbers.{ACCEPTED}
use Rattle.table.specs.Rules.{roles_broken}
use Rattle.hours.specs.Records.{at}
use Rattle.hours.specs.Report.{SET, MOST, earlier, stray, refusal}
use Rattle.hours.specs.Figures.{Figures}
use Rattle.hours.specs.declared.Record.{Record}
use Rattle.hours.specs.declared.refusal.Refusal.{Refusal}
use Rattle.hours.specs.declared.refusal.Refusal.TheVariants.{Roles, Records, Minute}
use Rattle.hours.specs.declared.tally.Tally.{Tally}
use Rattle.hours.specs.mirror.Sums.{SUMS, slot_of, alone_of}

-- what is refused before any record is read
abbrev pub refused : Bool → Refusal → Result Unit Refusal → Result Unit Refusal
refused true r rest = Err r
refused false r rest = rest

abbrev pub roles_refused : Limits → ℕ → Result Unit Refusal
roles_refused lim roles = refused (roles_broken lim roles) Roles (Ok tt)

abbrev pub size_refused : Limits → ℕ → ℕ → Result Unit Refusal
size_refused lim roles n = refused (roles_broken lim roles) Roles (refused (ltb MOST n) Records (Ok tt))

-- a closure's answers, by its `post`, are the records of the list
pub record Lists (post : ℕ → Record → Type 0) (n : ℕ) (rs : List Record) : Type 0 where
  pub long : length rs ≡ n
  pub each : (i : ℕ) (r : Record) → i < n → post i r → r ≡ at rs i

-- the lowest of the first i records that the test holds of
pub data Noted (p : ℕ → Bool) (i : ℕ) : Option ℕ → Type 0 where
  clean : ((k : ℕ) → k < i → p k ≡ false) → Noted p i None
  first : {j : ℕ} → j < i → p j ≡ true → ((k : ℕ) → k < j → p k ≡ false) → Noted p i (Some j)

-- before record i: the latest minute, and the sum that the minutes up to record i go to
abbrev pub last_of : List Record → ℕ → ℕ
last_of rs zero = 0
last_of rs (suc i) = (at rs i).minute

abbrev pub slot_at : List Record → ℕ → ℕ
slot_at rs zero = 0
slot_at rs (suc i) = slot_of (at rs i).awake (at rs i).set

-- the minutes up to record i that go to sum k
abbrev pub spent_on : List Record → ℕ → ℕ → ℕ
spent_on rs k i = sum (λ j. cond (eqb (slot_at rs j) k) ((at rs j).minute - last_of rs j) 0) i

-- the tally of the first i records, none of which is earlier than the one before
pub record Fine (rs : List Record) (roles i : ℕ) (t : Tally) : Type 0 where
  pub rising : (k : ℕ) → k < i → earlier rs k ≡ false
  pub noted : Noted (stray roles rs) i t.stray
  pub last : t.last ≡ last_of rs i
  pub slot : t.slot ≡ slot_at rs i
  pub sums : (k : ℕ) → k < SUMS → get_or t.sums k 0 ≡ spent_on rs k i

-- one record more, or the refusal of one that is earlier
abbrev pub Steps : List Record → ℕ → ℕ → Tally → Result Unit Refusal → Type 0
Steps rs roles i t (Ok u) = Fine rs roles (suc i) t
Steps rs roles i t (Err r) = (r ≡ Minute i) × (earlier rs i ≡ true)

abbrev pub accepted_of : Limits → Tally → Figures
accepted_of lim t =
    record {
      number = ACCEPTED;
      place = 0;
      total = t.last - get_or t.sums 0 0;
      awake = t.last - get_or t.sums 0 0 - get_or t.sums 1 0;
      asleep = get_or t.sums 1 0;
      alone = alone_of lim t.sums;
      several = get_or t.sums 3 0;
      nobody = get_or t.sums 2 0;
    }

abbrev pub finish_by : Limits → Tally → Option ℕ → Figures
finish_by lim t (Some i) = refusal lim SET i
finish_by lim t None = accepted_of lim t

abbrev pub finish_of : Limits → Tally → Figures
finish_of lim t = finish_by lim t t.stray
