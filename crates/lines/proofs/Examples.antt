-- What the definitions give for the lines of second/README.md, points 2 to 4, by computation. Assumes nothing.
use Prim.Native.Nat.{ℕ}
use mathlib.Core.Bool.{false}
use mathlib.Core.List.{List, [], ◌∷◌}
use mathlib.Core.Path.{◌≡◌, refl}
use Rattle.std.proofs.Common.{Some, None}
use Rattle.lines.specs.Line.{part, parts, is_digit, all_digits, value, is_number, all_numbers, values, well_formed, numbers_of, count_of}
use Rattle.lines.specs.Over.{overlaid, behind, all_below, fits, narrowed}
use Rattle.lines.specs.Text.{digits_of, decimal, text_of}

-- "o 07 4294967295"
abbrev whole : List ℕ
whole = 111 ∷ 32 ∷ 48 ∷ 55 ∷ 32 ∷ 52 ∷ 50 ∷ 57 ∷ 52 ∷ 57 ∷ 54 ∷ 55 ∷ 50 ∷ 57 ∷ 53 ∷ []

whole_numbers : numbers_of whole ≡ 7 ∷ 4294967295 ∷ []
unfolding part parts is_digit all_digits value is_number values numbers_of
whole_numbers = refl

whole_count : count_of whole 15 ≡ Some 2
unfolding part parts is_digit all_digits value is_number all_numbers values well_formed numbers_of count_of
whole_count = refl

-- a line longer than the room
whole_long : count_of whole 14 ≡ None
unfolding part parts is_digit all_digits value is_number all_numbers values well_formed numbers_of count_of
whole_long = refl

-- "f": a letter alone has no numbers
letter : count_of (102 ∷ []) 9 ≡ Some 0
unfolding part parts is_number all_numbers values well_formed numbers_of count_of
letter = refl

empty : count_of [] 9 ≡ None
unfolding well_formed numbers_of count_of
empty = refl

-- "f ": a blank at the end
blank_behind : count_of (102 ∷ 32 ∷ []) 9 ≡ None
unfolding part parts is_number all_numbers values well_formed numbers_of count_of
blank_behind = refl

-- "f1 2": no blank behind the letter
no_blank : count_of (102 ∷ 49 ∷ 32 ∷ 50 ∷ []) 9 ≡ None
unfolding part parts is_digit all_digits value is_number all_numbers values well_formed numbers_of count_of
no_blank = refl

-- "f 1  2": two blanks together; the number before them is read
two_blanks : count_of (102 ∷ 32 ∷ 49 ∷ 32 ∷ 32 ∷ 50 ∷ []) 9 ≡ None
unfolding part parts is_digit all_digits value is_number all_numbers values well_formed numbers_of count_of
two_blanks = refl

two_blanks_numbers : numbers_of (102 ∷ 32 ∷ 49 ∷ 32 ∷ 32 ∷ 50 ∷ []) ≡ 1 ∷ []
unfolding part parts is_digit all_digits value is_number values numbers_of
two_blanks_numbers = refl

-- "f 1" with a tab, a sign or a carriage return
tab : count_of (102 ∷ 9 ∷ 49 ∷ []) 9 ≡ None
unfolding part parts is_digit all_digits value is_number all_numbers values well_formed numbers_of count_of
tab = refl

sign : count_of (102 ∷ 32 ∷ 43 ∷ 49 ∷ []) 9 ≡ None
unfolding part parts is_digit all_digits value is_number all_numbers values well_formed numbers_of count_of
sign = refl

return : count_of (102 ∷ 32 ∷ 49 ∷ 13 ∷ []) 9 ≡ None
unfolding part parts is_digit all_digits value is_number all_numbers values well_formed numbers_of count_of
return = refl

-- "f 4294967296"
too_wide : count_of (102 ∷ 32 ∷ 52 ∷ 50 ∷ 57 ∷ 52 ∷ 57 ∷ 54 ∷ 55 ∷ 50 ∷ 57 ∷ 54 ∷ []) 99 ≡ None
unfolding part parts is_digit all_digits value is_number all_numbers values well_formed numbers_of count_of
too_wide = refl

zero_text : decimal 0 ≡ 48 ∷ []
unfolding decimal digits_of
zero_text = refl

widest : decimal 4294967295 ≡ 52 ∷ 50 ∷ 57 ∷ 52 ∷ 57 ∷ 54 ∷ 55 ∷ 50 ∷ 57 ∷ 53 ∷ []
unfolding decimal digits_of
widest = refl

-- "0 10 7" and a newline
text : text_of (0 ∷ 10 ∷ 7 ∷ []) ≡ 48 ∷ 32 ∷ 49 ∷ 48 ∷ 32 ∷ 55 ∷ 10 ∷ []
unfolding text_of decimal digits_of
text = refl

-- in the middle, across the end, behind the end
middle : overlaid {A = ℕ} 1 (7 ∷ 8 ∷ []) (1 ∷ 2 ∷ 3 ∷ 4 ∷ []) ≡ 1 ∷ 7 ∷ 8 ∷ 4 ∷ []
unfolding overlaid
middle = refl

across : overlaid {A = ℕ} 3 (7 ∷ 8 ∷ []) (1 ∷ 2 ∷ 3 ∷ 4 ∷ []) ≡ 1 ∷ 2 ∷ 3 ∷ 7 ∷ []
unfolding overlaid
across = refl

across_ends : behind {A = ℕ} 3 (7 ∷ 8 ∷ []) (1 ∷ 2 ∷ 3 ∷ 4 ∷ []) ≡ 4
unfolding behind
across_ends = refl

past : overlaid {A = ℕ} 6 (7 ∷ 8 ∷ []) (1 ∷ 2 ∷ 3 ∷ 4 ∷ []) ≡ 1 ∷ 2 ∷ 3 ∷ 4 ∷ []
unfolding overlaid
past = refl

fit : narrowed 256 (255 ∷ 3 ∷ []) (0 ∷ 0 ∷ 9 ∷ []) ≡ 255 ∷ 3 ∷ 9 ∷ []
unfolding overlaid all_below fits narrowed
fit = refl

wide : fits 256 (3 ∷ 256 ∷ []) (0 ∷ 0 ∷ 9 ∷ []) ≡ false
unfolding all_below fits
wide = refl

wide_stays : narrowed 256 (3 ∷ 256 ∷ []) (0 ∷ 0 ∷ 9 ∷ []) ≡ 0 ∷ 0 ∷ 9 ∷ []
unfolding overlaid all_below fits narrowed
wide_stays = refl

many : fits 256 (3 ∷ 2 ∷ []) (0 ∷ []) ≡ false
unfolding all_below fits
many = refl
