-- What a report promises of its answer, for every log: number, place and figures. Assumes nothing.
use Rattle.std.specs.Prelude.{ℕ, List, ◌≡◌}
use Rattle.table.specs.Limits.{Limits}
use Rattle.hours.specs.Report.{report_of}
use Rattle.hours.specs.Arrays.{report_of_arrays}
use Rattle.hours.specs.declared.Record.{Record}
use Rattle.hours.specs.Figures.{Figures}

abbrev pub Reports : Limits → List Record → ℕ → Figures → Type 0
Reports lim rs roles f = f ≡ report_of lim rs roles

abbrev pub ReportsArrays : Limits → List ℕ → List ℕ → List ℕ → ℕ → Figures → Type 0
ReportsArrays lim ms ws ss roles f = f ≡ report_of_arrays lim ms ws ss roles
