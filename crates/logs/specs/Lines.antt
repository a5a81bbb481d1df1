-- The lines of the program `report`: first the role count, then one record a line, minute, flag and set; and the line that answers
-- them. A line stands behind a letter and a blank, so that it reads as `lines` says. Assumes nothing.
use Rattle.std.specs.Prelude.{ℕ, ◌^◌, Bool, cond, ◌&&◌, List, [], ◌∷◌, ◌++◌, leb, ltb, length}
use Rattle.lines.specs.Line.{well_formed, numbers_of}
use Rattle.lines.specs.Text.{text_of}
use Rattle.table.specs.Limits.{Limits}
use Rattle.hours.specs.Report.{MOST, report_of}
use Rattle.hours.specs.Arrays.{record_of}
use Rattle.hours.specs.declared.Record.{Record}
use Rattle.hours.specs.Figures.{Figures}

-- a longer line counts as malformed
abbrev pub LONGEST : ℕ
LONGEST = 65536

abbrev pub is_line : List ℕ → Bool
is_line line = leb (length line) LONGEST && well_formed line

-- the numbers of a line, none of a malformed one
abbrev pub line_numbers : List ℕ → List ℕ
line_numbers line = cond (is_line line) (numbers_of line) []

-- what the lines so far say: nothing yet; that one of them is malformed; the role count, and the records
pub data Kept : Type 0 where
  fresh faulty : Kept
  logged : ℕ → List Record → Kept

-- of a log that is too long one record too many is kept
abbrev pub record_more : List Record → Record → List Record
record_more rs r = cond (ltb MOST (length rs)) rs (rs ++ (r ∷ []))

abbrev pub counted : List ℕ → Kept
counted [] = faulty
counted (n ∷ []) = logged n []
counted (n ∷ m ∷ ns) = faulty

abbrev pub recorded : ℕ → List Record → List ℕ → Kept
recorded roles rs [] = faulty
recorded roles rs (m ∷ []) = faulty
recorded roles rs (m ∷ w ∷ []) = faulty
recorded roles rs (m ∷ w ∷ s ∷ []) = cond (ltb w 2 && ltb s (2 ^ 16)) (logged roles (record_more rs (record_of m w s))) faulty
recorded roles rs (m ∷ w ∷ s ∷ n ∷ ns) = faulty

-- one line more
unfoldable pub taken_of : Kept → List ℕ → Kept
taken_of fresh line = counted (line_numbers line)
taken_of faulty line = faulty
taken_of (logged roles rs) line = recorded roles rs (line_numbers line)

-- number, record, and the figures
abbrev pub told_of : Figures → List ℕ
told_of f = f.number ∷ f.place ∷ f.total ∷ f.awake ∷ f.asleep ∷ f.alone ++ (f.several ∷ f.nobody ∷ [])

-- `?` where a line is malformed, or there is none
unfoldable pub answer_of : Limits → Kept → List ℕ
unfolding report_of text_of
answer_of lim fresh = 63 ∷ 10 ∷ []
answer_of lim faulty = 63 ∷ 10 ∷ []
answer_of lim (logged roles rs) = text_of (told_of (report_of lim rs roles))
