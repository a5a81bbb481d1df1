-- A line: a letter, then for each number one blank and one or more digits (second/README.md, points 2 to 4). Its first byte is its
-- letter, whichever it is: whether there is such a command is not judged here. Assumes nothing.
use Rattle.std.specs.Prelude.{ℕ, ◌+◌, ◌-◌, ◌*◌, ◌^◌, Bool, true, false, cond, ◌&&◌, List, [], ◌∷◌, leb, ltb, eqb, length, Option, Some, None}

-- the bytes up to the first blank
unfoldable pub part : List ℕ → List ℕ
part [] = []
part (b ∷ bs) = cond (eqb b 32) [] (b ∷ part bs)

-- behind each blank, the bytes up to the next
unfoldable pub parts : List ℕ → List (List ℕ)
parts [] = []
parts (b ∷ bs) = cond (eqb b 32) (part bs ∷ parts bs) (parts bs)

unfoldable pub is_digit : ℕ → Bool
is_digit b = leb 48 b && leb b 57

unfoldable pub all_digits : List ℕ → Bool
all_digits [] = true
all_digits (b ∷ bs) = is_digit b && all_digits bs

abbrev pub is_empty : List ℕ → Bool
is_empty [] = true
is_empty (b ∷ bs) = false

-- what digits stand for: the first has the highest weight
unfoldable pub value : List ℕ → ℕ
value [] = 0
value (b ∷ bs) = (b - 48) * 10 ^ length bs + value bs

-- one or more digits, of a number of 32 bits; zeros may stand in front
unfoldable pub is_number : List ℕ → Bool
is_number [] = false
is_number (b ∷ bs) = all_digits (b ∷ bs) && ltb (value (b ∷ bs)) (2 ^ 32)

unfoldable pub all_numbers : List (List ℕ) → Bool
all_numbers [] = true
all_numbers (p ∷ ps) = is_number p && all_numbers ps

-- the values of the parts up to the first that is no number
unfoldable pub values : List (List ℕ) → List ℕ
values [] = []
values (p ∷ ps) = cond (is_number p) (value p ∷ values ps) []

-- nothing stands between the letter and the first blank, and each part behind a blank is a number
unfoldable pub well_formed : List ℕ → Bool
well_formed [] = false
well_formed (letter ∷ bs) = is_empty (part bs) && all_numbers (parts bs)

-- the numbers of a line; of a malformed one those before its fault
unfoldable pub numbers_of : List ℕ → List ℕ
numbers_of [] = []
numbers_of (letter ∷ bs) = cond (is_empty (part bs)) (values (parts bs)) []

-- the answer for a line that is read into so much room: how many numbers, or none of a malformed line
unfoldable pub count_of : List ℕ → ℕ → Option ℕ
count_of line room = cond (leb (length line) room && well_formed line) (Some (length (numbers_of line))) None
