-- A text that was written, behind a letter and a blank, is a line that has its numbers. Assumes nothing.
use Prim.Native.Nat.{ℕ, zero, suc, ◌+◌, ◌-◌, ◌*◌, ◌/◌, ◌%◌, ◌^◌, ◌≤◌, ◌<◌}
use mathlib.Core.Bool.{Bool, true, false}
use mathlib.Core.List.{List, [], ◌∷◌, ◌++◌, append-nil, append_assoc}
use mathlib.Core.Path.{◌≡◌, refl, sym, ◌∙◌, ap}
use native.Mathlib.Nat.{pow-suc, mul_assoc}
use native.Mathlib.Numerals.{add-one}
use native.Mathlib.Omega.{arith}
use lib.Dec.{leb, ltb, eqb}
use borrow.Author.Tests.{lt-ltb, le-leb, leb-true, ltb-true, ltb-false, ne_eqb}
use lib.ListN.{length, length-append}
use Rattle.words.proofs.Below.{and_both}
use Rattle.lines.specs.Line.{part, parts, is_digit, all_digits, value, is_number, all_numbers, values, well_formed, numbers_of}
use Rattle.lines.specs.Over.{all_below}
use Rattle.lines.specs.Text.{digits_of, decimal, text_of}

-- each number behind a blank
unfoldable pub spaced : List ℕ → List ℕ
spaced [] = []
spaced (n ∷ ns) = 32 ∷ (decimal n ++ spaced ns)

-- a digit put behind others
value_more : (ds : List ℕ) (d : ℕ) → value (ds ++ (d ∷ [])) ≡ value ds * 10 + (d - 48)
unfolding value
value_more [] d = omega arith
value_more (b ∷ ds) d =
    let e : 10 ^ (length ds + 1) ≡ 10 ^ length ds * 10 = rw (add-one (length ds)) (pow-suc 10 (length ds)) in
    rw (length-append ds (d ∷ []), e, value_more ds d, ← (mul_assoc (b - 48) (10 ^ length ds) 10)) (omega arith)

digits_more : (ds : List ℕ) (d : ℕ) → is_digit d ≡ true → all_digits ds ≡ true → all_digits (ds ++ (d ∷ [])) ≡ true
unfolding all_digits
digits_more [] d e f = rw e
digits_more (b ∷ ds) d e f =
    let both = and_both (is_digit b) (all_digits ds) f in
    rw both.0 (digits_more ds d e both.1)

is_digit_lem : (n : ℕ) → n < 10 → is_digit (48 + n) ≡ true
unfolding is_digit
is_digit_lem n l = rw (le-leb 48 (48 + n) (omega arith), le-leb (48 + n) 57 (omega arith))

-- digits of n: what a number of at most k digits is written as
record Digits (n : ℕ) (ds : List ℕ) : Type 0 where
  digits : all_digits ds ≡ true
  stand : value ds ≡ n
  some : 0 < length ds

spelt : (k n : ℕ) (t : Bool) → ltb n 10 ≡ t → (10 ≤ n → Digits (n / 10) (digits_of k (n / 10))) → Digits n (digits_of (suc k) n)
unfolding digits_of all_digits value
spelt k n true e tenth = rw e record { digits = rw (is_digit_lem n (ltb-true n 10 e)); stand = omega arith; some = omega arith }
spelt k n false e tenth =
    let front = tenth (ltb-false n 10 e) in
    rw e record {
      digits = digits_more (digits_of k (n / 10)) (48 + n % 10) (is_digit_lem (n % 10) (omega arith)) front.digits;
      stand = value_more (digits_of k (n / 10)) (48 + n % 10) ∙ rw front.stand (omega arith);
      some = rw (length-append (digits_of k (n / 10)) ((48 + n % 10) ∷ [])) (omega arith);
    }

spelling : (k n : ℕ) → n < 10 ^ suc k → Digits n (digits_of (suc k) n)
spelling zero n l = spelt zero n (ltb n 10) refl (λ h. absurd (omega arith))
spelling (suc k) n l = spelt (suc k) n (ltb n 10) refl (λ h. spelling k (n / 10) (omega (arith, pow-suc 10 (suc k))))

spelling_of : (n : ℕ) → n < 2 ^ 32 → Digits n (decimal n)
unfolding decimal
spelling_of n l = spelling 9 n (omega arith)

-- no digit is a blank
no_blank : (b : ℕ) → is_digit b ≡ true → eqb b 32 ≡ false
unfolding is_digit
no_blank b e = ne_eqb b 32 (λ h. omega (arith, leb-true 48 b (and_both (leb 48 b) (leb b 57) e).0))

module _ (rest : List ℕ) (ends : part rest ≡ []) where
  part_digits : (ds : List ℕ) → all_digits ds ≡ true → part (ds ++ rest) ≡ ds
  unfolding part all_digits
  part_digits [] e = ends
  part_digits (d ∷ ds) e =
      let both = and_both (is_digit d) (all_digits ds) e in
      rw (no_blank d both.0) (ap (λ (l : List ℕ). d ∷ l) (part_digits ds both.1))

  parts_digits : (ds : List ℕ) → all_digits ds ≡ true → parts (ds ++ rest) ≡ parts rest
  unfolding parts all_digits
  parts_digits [] e = refl
  parts_digits (d ∷ ds) e =
      let both = and_both (is_digit d) (all_digits ds) e in
      rw (no_blank d both.0) (parts_digits ds both.1)

is_number_lem : (n : ℕ) (ds : List ℕ) → n < 2 ^ 32 → Digits n ds → is_number ds ≡ true
unfolding is_number
is_number_lem n [] l d = absurd (omega (arith, d.some))
is_number_lem n (b ∷ ds) l d = rw (d.digits, d.stand) (lt-ltb n (2 ^ 32) l)

at_blank : (ns : List ℕ) → part (spaced ns) ≡ []
unfolding part spaced
at_blank [] = refl
at_blank (n ∷ ns) = refl

numbers_back : (ns : List ℕ) → all_below (2 ^ 32) ns ≡ true → (values (parts (spaced ns)) ≡ ns) × (all_numbers (parts (spaced ns)) ≡ true)
unfolding spaced parts values all_numbers all_below
numbers_back [] e = (refl, refl)
numbers_back (n ∷ ns) e =
    let both = and_both (ltb n (2 ^ 32)) (all_below (2 ^ 32) ns) e in
    let small : n < 2 ^ 32 = ltb-true n (2 ^ 32) both.0 in
    let d = spelling_of n small in
    let back = numbers_back ns both.1 in
    rw (part_digits (spaced ns) (at_blank ns) (decimal n) d.digits, parts_digits (spaced ns) (at_blank ns) (decimal n) d.digits, is_number_lem n (decimal n) small d, d.stand)
    (ap (λ (l : List ℕ). n ∷ l) back.0, back.1)

pub read_back : (letter : ℕ) (ns : List ℕ) → all_below (2 ^ 32) ns ≡ true → (well_formed (letter ∷ spaced ns) ≡ true) × (numbers_of (letter ∷ spaced ns) ≡ ns)
unfolding well_formed numbers_of
read_back letter ns e =
    let back = numbers_back ns e in
    rw (at_blank ns) (back.1, back.0)

-- the text of numbers is them spaced, without the first blank and with a newline behind
pub text_spaced : (n : ℕ) (ns : List ℕ) → 32 ∷ text_of (n ∷ ns) ≡ spaced (n ∷ ns) ++ (10 ∷ [])
unfolding text_of spaced
text_spaced n [] = rw (append-nil (decimal n))
text_spaced n (m ∷ ns) = ap (λ (l : List ℕ). 32 ∷ l) (ap (λ (l : List ℕ). decimal n ++ l) (text_spaced m ns) ∙ sym (append_assoc (decimal n) (spaced (m ∷ ns)) (10 ∷ [])))
