-- The sums that the code keeps: minutes before the first record, asleep, awaiting nobody, several, each role alone. Assumes nothing.
use Rattle.std.specs.Prelude.{ℕ, ◌+◌, Bool, cond, List, eqb, get_or}
use Rattle.std.specs.Int.Count.{ones, count_trailing_zeros}
use Rattle.table.specs.Limits.{Limits}
use Rattle.hours.specs.Report.{each}

-- a set has WIDTH digits
abbrev pub WIDTH : ℕ
WIDTH = 16

abbrev pub ALONE : ℕ
ALONE = 4

abbrev pub SUMS : ℕ
SUMS = ALONE + WIDTH

-- the sum that the minutes after a record go to, by whether it is awake, how many roles it awaits, and the lowest of them
abbrev pub slot_by : Bool → ℕ → ℕ → ℕ
slot_by w many low = cond w (cond (eqb many 0) 2 (cond (eqb many 1) (ALONE + low) 3)) 1

abbrev pub slot_of : Bool → ℕ → ℕ
slot_of w s = slot_by w (ones s) (count_trailing_zeros WIDTH s)

-- the sum of each role alone
abbrev pub alone_of : Limits → List ℕ → List ℕ
alone_of lim sums = each (λ k. get_or sums (ALONE + k) 0) lim.roles
