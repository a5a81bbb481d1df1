-- What each call promises, for every input: its answer, and all of what was lent. Assumes nothing.
use Rattle.std.specs.Prelude.{ℕ, ◌≤◌, min, Bool, cond, List, Option, ◌≡◌, leb, length, take}
use Rattle.lines.specs.Line.{numbers_of, count_of}
use Rattle.lines.specs.Over.{overlaid, behind, fits, narrowed}
use Rattle.lines.specs.Text.{text_of}

-- xs stand over the old ones from place `at` on; the answer is the place behind them
abbrev pub Puts : {A : Type 0} → ℕ → List A → List A → ℕ → List A → Type 0
Puts at xs old end new = (end ≡ behind at xs old) × (new ≡ overlaid at xs old)

-- how many numbers a line has, or none if it is malformed, and these over the old ones; of a line that is longer than those nothing is stored
abbrev pub Reads : List ℕ → List ℕ → Option ℕ → List ℕ → Type 0
Reads line old n new = (n ≡ count_of line (length old)) × (new ≡ cond (leb (length line) (length old)) (overlaid 0 (numbers_of line) old) old)

-- the text of numbers over the old bytes, as far as those reach, and how many bytes that took
abbrev pub Writes : List ℕ → List ℕ → ℕ → List ℕ → Type 0
Writes ns old n new = (n ≤ length new) × (n ≡ min (length (text_of ns)) (length old)) × (new ≡ overlaid 0 (text_of ns) old)

-- whether all numbers fit below the bound, and these over the old ones if so
abbrev pub Narrows : ℕ → List ℕ → List ℕ → Bool → List ℕ → Type 0
Narrows bound ns old all new = (all ≡ fits bound ns old) × (new ≡ narrowed bound ns old)

-- the numbers over the old ones
abbrev pub Copies : List ℕ → List ℕ → List ℕ → Type 0
Copies ns old new = new ≡ overlaid 0 ns old

-- the smaller number; and the smaller of a number and a length, as a part of a slice asks for it
abbrev pub Least : ℕ → ℕ → ℕ → Type 0
Least a b r = (r ≤ a) × (r ≤ b) × (r ≡ min a b)

abbrev pub Cuts : {A : Type 0} → List A → ℕ → ℕ → Type 0
Cuts xs n r = ((r ≤ length xs) × (r ≡ length (take r xs))) × (r ≤ n) × (r ≡ min n (length xs))
