-- What the code's answer says in the customer's paper: of a refusal its number and the record that it names. Assumes nothing.
use Rattle.std.specs.Prelude.{ℕ, Result, Ok, Err}
use Rattle.table.specs.Limits.{Limits}
use Rattle.table.specs.Numbers.{ACCEPTED, ROLES}
use Rattle.hours.specs.Figures.{Figures}
use Rattle.hours.specs.Report.{RECORDS, MINUTE, SET, refusal}
use Rattle.hours.specs.declared.Figures.{Figures as Accepted}
use Rattle.hours.specs.declared.refusal.Refusal.{Refusal}
use Rattle.hours.specs.declared.refusal.Refusal.TheVariants.{Roles, Records, Minute, Set}

abbrev pub number_of : Refusal → ℕ
number_of Roles = ROLES
number_of Records = RECORDS
number_of (Minute i) = MINUTE
number_of (Set i) = SET

-- 0 where no record is named
abbrev pub place_of : Refusal → ℕ
place_of Roles = 0
place_of Records = 0
place_of (Minute i) = i
place_of (Set i) = i

-- of a refusal all figures are 0
abbrev pub figures_of : Limits → Result Accepted Refusal → Figures
figures_of lim (Ok f) =
    record {
      number = ACCEPTED;
      place = 0;
      total = f.total;
      awake = f.awake;
      asleep = f.asleep;
      alone = f.alone;
      several = f.several;
      nobody = f.nobody;
    }
figures_of lim (Err r) = refusal lim (number_of r) (place_of r)
