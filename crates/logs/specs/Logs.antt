-- What the code keeps of the lines, and what each call promises. Assumes nothing.
use Rattle.std.specs.Prelude.{ℕ, List, [], ◌≡◌, length, take, Option, Some, None}
use Rattle.table.specs.Limits.{Limits}
use Rattle.hours.specs.Report.{report_of}
use Rattle.hours.specs.Figures.{Figures}
use Rattle.hours.specs.declared.Record.{Record}
use Rattle.logs.specs.Lines.{Kept, fresh, faulty, logged, taken_of, answer_of}
use Rattle.logs.specs.declared.Log.{Log}
use Rattle.logs.specs.declared.records.Records.{Records}
use Rattle.logs.specs.declared.State.{State}
use Rattle.logs.specs.declared.State.TheVariants.{Fresh, Faulty, Begun}

-- the first ones of the items
abbrev pub kept : Records → List Record
kept rs = take rs.count rs.items

abbrev pub records : Log → List Record
records log = kept log.records

abbrev pub kept_by : State → List Record → Kept
kept_by Fresh rs = fresh
kept_by (Faulty roles) rs = faulty
kept_by (Begun roles) rs = logged roles rs

abbrev pub keeps : Log → Kept
keeps log = kept_by log.state (records log)

abbrev pub Starts : Log → Type 0
Starts log = (log.state ≡ Fresh) × (records log ≡ [])

-- one line more
abbrev pub Takes : Log → List ℕ → Log → Type 0
Takes log line after = keeps after ≡ taken_of (keeps log) line

-- the role count of lines of which none is malformed
abbrev pub roles_of : Kept → Option ℕ
roles_of fresh = None
roles_of faulty = None
roles_of (logged roles rs) = Some roles

-- the role count that the state holds, 0 for none
abbrev pub role_count : State → ℕ
role_count Fresh = 0
role_count (Faulty roles) = roles
role_count (Begun roles) = roles

-- the report of the records that are kept, for so many roles
abbrev pub FiguredFor : Limits → Log → ℕ → Figures → Type 0
FiguredFor lim log roles f = f ≡ report_of lim (records log) roles

-- and for the role count that the state holds
abbrev pub Figured : Limits → Log → Figures → Type 0
Figured lim log f = FiguredFor lim log (role_count log.state) f

-- the answer's bytes are the first ones of the text, and how many they are; of those behind them nothing is said
abbrev pub Answers : Limits → Kept → ℕ → List ℕ → Type 0
Answers lim k n text = (take n text ≡ answer_of lim k) × (n ≡ length (answer_of lim k))
