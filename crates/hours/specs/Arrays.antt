-- A log as three arrays, for callers that cannot hand over records: minutes, flags (0 for asleep) and sets. Assumes nothing.
use Rattle.std.specs.Prelude.{ℕ, Bool, cond, not, ◌&&◌, List, [], ◌∷◌, eqb, length}
use Rattle.table.specs.Limits.{Limits}
use Rattle.table.specs.Numbers.{ROLES}
use Rattle.table.specs.Rules.{roles_broken}
use Rattle.hours.specs.Report.{RECORDS, refusal, report_of}
use Rattle.hours.specs.declared.Record.{Record}
use Rattle.hours.specs.Figures.{Figures}

abbrev pub record_of : ℕ → ℕ → ℕ → Record
record_of minute flag set = record { minute = minute; awake = not (eqb flag 0); set = set }

-- one record for each place that all three have
unfoldable pub records_of : List ℕ → List ℕ → List ℕ → List Record
records_of [] ws ss = []
records_of (m ∷ ms) [] ss = []
records_of (m ∷ ms) (w ∷ ws) [] = []
records_of (m ∷ ms) (w ∷ ws) (s ∷ ss) = record_of m w s ∷ records_of ms ws ss

abbrev pub one_length : List ℕ → List ℕ → List ℕ → Bool
one_length ms ws ss = eqb (length ws) (length ms) && eqb (length ss) (length ms)

-- the report of the records; arrays of several lengths are no list of records, refused with 27 after 2
unfoldable pub report_of_arrays : Limits → List ℕ → List ℕ → List ℕ → ℕ → Figures
unfolding records_of report_of
report_of_arrays lim ms ws ss roles =
    cond (one_length ms ws ss) (report_of lim (records_of ms ws ss) roles) (
    cond (roles_broken lim roles) (refusal lim ROLES 0) (refusal lim RECORDS 0))
