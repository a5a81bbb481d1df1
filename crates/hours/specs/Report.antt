-- the report of a log, and what it refuses. Assumes nothing.
use Rattle.std.specs.Prelude.{ℕ, zero, suc, ◌^◌, Bool, false, cond, not, List, [], ◌∷◌, ◌++◌, ltb, length, replicate}
use Rattle.words.specs.Below.{lowest, sum}
use Rattle.table.specs.Limits.{Limits}
use Rattle.table.specs.Numbers.{ACCEPTED, ROLES}
use Rattle.table.specs.Rules.{roles_broken}
use Rattle.hours.specs.Records.{at, total, awake, asleep, alone, several, nobody}
use Rattle.hours.specs.declared.Record.{Record}
use Rattle.hours.specs.Figures.{Figures}

abbrev pub RECORDS : ℕ
RECORDS = 27

abbrev pub MINUTE : ℕ
MINUTE = 28

abbrev pub SET : ℕ
SET = 29

-- at most this many records
abbrev pub MOST : ℕ
MOST = 4096

-- record i is earlier than the one before it; record 0 never is
abbrev pub earlier : List Record → ℕ → Bool
earlier rs zero = false
earlier rs (suc i) = ltb (at rs (suc i)).minute (at rs i).minute

-- record i awaits a role that is not in the session: its set, as a number, has a digit above those of the roles
abbrev pub stray : ℕ → List Record → ℕ → Bool
stray roles rs i = not (ltb (at rs i).set (2 ^ roles))

-- f's values at the numbers below n
unfoldable pub each : (ℕ → ℕ) → ℕ → List ℕ
each f zero = []
each f (suc n) = each f n ++ (f n ∷ [])

-- refused with that number at that record: all figures are 0
abbrev pub refusal : Limits → ℕ → ℕ → Figures
refusal lim n i =
    record { number = n; place = i; total = 0; awake = 0; asleep = 0; alone = replicate lim.roles 0; several = 0; nobody = 0 }

abbrev pub figures : Limits → List Record → Figures
figures lim rs =
    record {
      number = ACCEPTED;
      place = 0;
      total = total rs;
      awake = awake rs;
      asleep = asleep rs;
      alone = each (λ k. alone lim k rs) lim.roles;
      several = several lim rs;
      nobody = nobody lim rs;
    }

-- refused with that number at the lowest record that the test holds of; else the rest
abbrev pub refused_at : Limits → ℕ → (ℕ → Bool) → List Record → Figures → Figures
refused_at lim n broken rs rest = let i = lowest broken (length rs) in cond (ltb i (length rs)) (refusal lim n i) rest

unfoldable pub report_of : Limits → List Record → ℕ → Figures
unfolding sum lowest each
report_of lim rs roles =
    cond (roles_broken lim roles) (refusal lim ROLES 0) (
    cond (ltb MOST (length rs)) (refusal lim RECORDS 0) (
    refused_at lim MINUTE (earlier rs) rs (
    refused_at lim SET (stray roles rs) rs (
    figures lim rs))))
