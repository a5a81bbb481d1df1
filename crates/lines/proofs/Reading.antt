-- Going from byte to byte gives what a line means: the parts between its blanks, each a number. Assumes nothing.
use Prim.Native.Nat.{ℕ, suc, ◌+◌, ◌-◌, ◌*◌, ◌^◌, ◌≤◌, ◌<◌}
use mathlib.Core.Bool.{Bool, true, false, cond, ◌&&◌, and-false}
use mathlib.Core.List.{List, [], ◌∷◌, ◌++◌}
use mathlib.Core.Path.{◌≡◌, refl, ap}
use native.Mathlib.Nat.{pow-succ', one-le-pow, mul_assoc, add-mul, le-mul_of_pos_right}
use native.Mathlib.Omega.{arith}
use lib.Dec.{ltb, eqb}
use borrow.Author.Tests.{lt-ltb, le-ltb, ltb-true, ltb-false, eqb-true}
use lib.ListN.{length}
use Rattle.lines.specs.declared.read.Place.{Place}
use Rattle.lines.specs.declared.read.Place.TheVariants.{Letter, Blank, Number, Wrong}
use Rattle.lines.specs.Line.{part, parts, is_digit, all_digits, is_empty, value, is_number, all_numbers, values}
use Rattle.lines.specs.mirror.Places.{digit_of, step_of, ended_of, whole_of}

-- the numbers that are stored from a place on, the last one at the line's end
unfoldable pub to_store : Place → List ℕ → List ℕ
to_store p [] = ended_of p 32
to_store p (b ∷ bs) = ended_of p b ++ to_store (step_of p b) bs

-- where the reader stands at the line's end
unfoldable pub last : Place → List ℕ → Place
last p [] = p
last p (b ∷ bs) = last (step_of p b) bs

-- what is read from a place on: a number v and those of the parts behind it, or nothing
abbrev Reads : Place → List ℕ → Bool → ℕ → List (List ℕ) → Type 0
Reads p bs good v ps = (to_store p bs ≡ cond good (v ∷ values ps) []) × (whole_of (last p bs) ≡ good && all_numbers ps)

abbrev pub ReadLine : List ℕ → Type 0
ReadLine bs = (to_store Letter bs ≡ cond (is_empty (part bs)) (values (parts bs)) []) × (whole_of (last Letter bs) ≡ is_empty (part bs) && all_numbers (parts bs))

wrong : (bs : List ℕ) → Reads Wrong bs false 0 []
unfolding to_store last step_of ended_of
wrong [] = (refl, refl)
wrong (b ∷ bs) = wrong bs

-- the value of the digits of n and the part behind them
abbrev longer : ℕ → List ℕ → ℕ
longer n q = n * 10 ^ length q + value q

abbrev InNumber : List ℕ → Type 0
InNumber bs = (n : ℕ) → n < 2 ^ 32 → Reads (Number n) bs (all_digits (part bs) && ltb (longer n (part bs)) (2 ^ 32)) (longer n (part bs)) (parts bs)

one_longer : (n b : ℕ) (q : List ℕ) → longer (n * 10 + (b - 48)) q ≡ longer n (b ∷ q)
unfolding value
one_longer n b q =
    let e : 10 ^ suc (length q) ≡ 10 * 10 ^ length q = pow-succ' 10 (length q) in
    rw (e, add-mul (n * 10) (b - 48) (10 ^ length q), mul_assoc n 10 (10 ^ length q)) (omega arith)

no_longer : (n : ℕ) → longer n [] ≡ n
unfolding value
no_longer n = omega arith

from_none : (q : List ℕ) → value q ≡ longer 0 q
from_none q = omega arith

-- digits behind a number do not make it less
too_long : (m : ℕ) (q : List ℕ) → 2 ^ 32 ≤ m → ltb (longer m q) (2 ^ 32) ≡ false
too_long m q l = le-ltb (longer m q) (2 ^ 32) (omega (arith, le-mul_of_pos_right m (one-le-pow (length q) 10 (omega arith))))

-- a byte that is no blank, behind the digits of n
more_digits : (n b : ℕ) (bs : List ℕ) (d t : Bool) → is_digit b ≡ d → ltb (n * 10 + (b - 48)) (2 ^ 32) ≡ t → InNumber bs
    → Reads (digit_of n b) bs (all_digits (b ∷ part bs) && ltb (longer n (b ∷ part bs)) (2 ^ 32)) (longer n (b ∷ part bs)) (parts bs)
unfolding digit_of all_digits
more_digits n b bs true true e f in_number =
    rw (e, f, ← (one_longer n b (part bs))) (in_number (n * 10 + (b - 48)) (ltb-true _ _ f))
more_digits n b bs true false e f in_number =
    rw (e, f, ← (one_longer n b (part bs)), too_long (n * 10 + (b - 48)) (part bs) (ltb-false _ _ f), and-false (all_digits (part bs))) (wrong bs)
more_digits n b bs false t e f in_number = rw e (wrong bs)

abbrev BehindBlank : List ℕ → Type 0
BehindBlank bs = Reads Blank bs (is_number (part bs)) (value (part bs)) (parts bs)

no_digit : (bs : List ℕ) → Reads (digit_of 0 32) bs false 0 []
unfolding digit_of is_digit
no_digit bs = wrong bs

blank_byte : (b : ℕ) (bs : List ℕ) (t : Bool) → eqb b 32 ≡ t → InNumber bs → BehindBlank (b ∷ bs)
unfolding to_store last step_of ended_of part parts is_number
blank_byte b bs true e in_number = rw (eqb-true b 32 e) (no_digit bs)
blank_byte b bs false e in_number = rw (e, from_none (b ∷ part bs)) (more_digits 0 b bs (is_digit b) (ltb (0 * 10 + (b - 48)) (2 ^ 32)) refl refl in_number)

number_byte : (b : ℕ) (bs : List ℕ) (t : Bool) → eqb b 32 ≡ t → BehindBlank bs → InNumber bs → InNumber (b ∷ bs)
unfolding to_store last step_of ended_of part parts all_digits values all_numbers
number_byte b bs true e behind_blank in_number n l =
    rw (eqb-true b 32 e, no_longer n, lt-ltb n (2 ^ 32) l) (ap (λ (ns : List ℕ). n ∷ ns) behind_blank.0, behind_blank.1)
number_byte b bs false e behind_blank in_number n l = rw e (more_digits n b bs (is_digit b) (ltb (n * 10 + (b - 48)) (2 ^ 32)) refl refl in_number)

both : (bs : List ℕ) → BehindBlank bs × InNumber bs
unfolding to_store last ended_of part parts is_number all_digits values all_numbers
both [] = ((refl, refl), λ n l. rw (no_longer n, lt-ltb n (2 ^ 32) l) (refl, refl))
both (b ∷ bs) = (blank_byte b bs (eqb b 32) refl (both bs).1, number_byte b bs (eqb b 32) refl (both bs).0 (both bs).1)

-- behind the letter
letter_byte : (b : ℕ) (bs : List ℕ) (t : Bool) → eqb b 32 ≡ t → ReadLine (b ∷ bs)
unfolding to_store last step_of ended_of part parts values all_numbers
letter_byte b bs true e = rw (eqb-true b 32 e) (both bs).0
letter_byte b bs false e = rw e (wrong bs)

pub read_line : (bs : List ℕ) → ReadLine bs
unfolding to_store last ended_of part parts values all_numbers
read_line [] = (refl, refl)
read_line (b ∷ bs) = letter_byte b bs (eqb b 32) refl
