-- Who names each row, and the Loops around it, as lists that one pass each over the rows fills. Assumes nothing.
use Rattle.std.specs.Prelude.{ℕ, ◌*◌, ◌-◌, ◌≤◌, ◌<◌, cond, List, ◌≡◌, ltb, get_or, length, map, set}
use Rattle.std.specs.Option.{unwrap_or}
use Rattle.words.specs.Rows.{rows_of}
use Rattle.table.specs.Limits.{base}
use Rattle.table.specs.Above.{times_named, namer, loops, above}
use Rattle.table.specs.mirror.Names.{near_loops, Rising}
use Rattle.rules.specs.declared.Name.{Name}
use Rattle.rules.specs.declared.Nest.{Nest}

-- the limit of the code
abbrev pub FewRows : List ℕ → Type 0
FewRows t = length t ≤ base.rows * 4

-- one place for each row
abbrev pub places : ℕ
places = base.rows

-- a list of so many places with x for its i-th element, where i is inside
abbrev pub placed : List ℕ → ℕ → ℕ → List ℕ
placed l i x = cond (ltb i places) (set l i x) l

-- one number of each place; for who names a row that nobody names, a number is given
abbrev pub named_by : ℕ → List Name → List ℕ
named_by none names = map (λ n. unwrap_or n.by none) names

abbrev pub times_of : List Name → List ℕ
times_of names = map (λ n. n.times) names

abbrev pub around_of : List Nest → List ℕ
around_of nests = map (λ n. n.around) nests

abbrev pub near_of : List Nest → List ℕ
near_of nests = map (λ n. n.near) nests

-- the list has, for each row but 0, the lowest row that names it
abbrev pub Namers : List ℕ → List ℕ → Type 0
Namers t by = (i : ℕ) → 0 < i → i < rows_of t → get_or by i 0 ≡ namer t i

-- the list has rows of the table alone, where it has any
abbrev pub Inside : List ℕ → List ℕ → Type 0
Inside t by = (i : ℕ) → get_or by i 0 ≤ rows_of t - 1

-- the list has, for each of these, how many links name it
abbrev pub Counts : List ℕ → List ℕ → Type 0
Counts t times = (i : ℕ) → 0 < i → i < rows_of t → get_or times i 0 ≡ times_named t i

-- the lists have, for each row of such a table, how many Loops stand around it, and how many of these with only Loops between
abbrev pub Around : List ℕ → List ℕ → List ℕ → Type 0
Around t around near =
    Rising t → (i : ℕ) → i < rows_of t → (get_or around i 0 ≡ loops t (above t i)) × (get_or near i 0 ≡ near_loops t (above t i))
