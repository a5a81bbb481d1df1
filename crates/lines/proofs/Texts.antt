-- A number's digits as `io` spells them are its decimal, and a text is its first number, a mark, and the text behind. Assumes nothing.
use Prim.Native.Nat.{ℕ, zero, suc, ◌+◌, ◌-◌, ◌*◌, ◌/◌, ◌%◌, ◌^◌, ◌≤◌, ◌<◌}
use mathlib.Core.Bool.{Bool, true, false}
use mathlib.Core.List.{List, [], ◌∷◌, ◌++◌}
use mathlib.Core.Path.{◌≡◌, refl, sym}
use native.Mathlib.Nat.{pow-suc, one-le-pow}
use native.Mathlib.Numerals.{add-one, unary_clauses}
use native.Mathlib.Omega.{arith}
use lib.Dec.{ltb}
use borrow.Author.Tests.{lt-ltb, ltb-true, ltb-false}
use lib.ListN.{length, get_or, drop, drop_of_length-le}
use lib.Seq.{drop-cons}
use Rattle.io.specs.Digits.{hex_digit_ascii, last_digits, IsDigitCount}
use Rattle.lines.specs.Over.{behind}
use Rattle.lines.specs.Text.{digits_of, decimal, text_of}
use Rattle.lines.specs.Promises.{Puts, Writes}
use Rattle.lines.proofs.Stores.{Same, then, written, all_written, nothing, length_over}

small : (n : ℕ) → n < 10 → hex_digit_ascii (n % 10) ≡ 48 + n
small n l =
    let e : n % 10 ≡ n = omega arith in
    rw (e, lt-ltb n 10 l)

last : (n : ℕ) → hex_digit_ascii (n % 10) ≡ 48 + n % 10
last n = rw (lt-ltb (n % 10) 10 (omega arith))

fewest_tenth : (n r : ℕ) → 10 ≤ n → IsDigitCount 10 1 n (suc (suc r)) → IsDigitCount 10 1 (n / 10) (suc r)
fewest_tenth n r l f =
    let high : n < 10 ^ suc r * 10 = rw (← (pow-suc 10 (suc r))) f.1 in
    let low : 10 ^ r * 10 ≤ n = simp unary_clauses at (f.2 (omega arith)) in
    let ten : 10 ^ suc r ≡ 10 ^ r * 10 = pow-suc 10 r in
    let one : suc r - 1 ≡ r = omega arith in
    (omega arith, omega arith, λ k. rw one (omega arith))

one_digit : (k r n : ℕ) (t : Bool) → ltb n 10 ≡ t → IsDigitCount 10 1 n (suc r) → (10 ≤ n → digits_of k (n / 10) ≡ last_digits 10 r (n / 10)) → digits_of (suc k) n ≡ last_digits 10 (suc r) n
unfolding digits_of
one_digit k zero n true e f more = rw (e, small n (ltb-true n 10 e))
one_digit k (suc r) n true e f more =
    let low : 10 ^ r * 10 ≤ n = simp unary_clauses at (f.2 (omega arith)) in
    absurd (omega (arith, ltb-true n 10 e, pow-suc 10 r, one-le-pow r 10 (omega arith)))
one_digit k r n false e f more = rw (e, last n, more (ltb-false n 10 e))

spelt : (k r n : ℕ) → n < 10 ^ suc k → IsDigitCount 10 1 n (suc r) → digits_of (suc k) n ≡ last_digits 10 (suc r) n
spelt zero r n l f = one_digit zero r n (ltb n 10) refl f (λ h. absurd (omega arith))
spelt (suc k) zero n l f = one_digit (suc k) zero n (ltb n 10) refl f (λ h. absurd (omega (arith, f.1)))
spelt (suc k) (suc r) n l f =
    one_digit (suc k) (suc r) n (ltb n 10) refl f (λ h. spelt k r (n / 10) (omega (arith, pow-suc 10 (suc k))) (fewest_tenth n r h f))

pub spelt_decimal : (n r : ℕ) → n < 2 ^ 32 → IsDigitCount 10 1 n r → last_digits 10 r n ≡ decimal n
unfolding decimal
spelt_decimal n zero l f = absurd (omega (arith, f.0))
spelt_decimal n (suc r) l f = sym (spelt 9 r n (omega arith) f)

-- a number that is not the last, the blank behind it and the text of the others
before_last : (n : ℕ) (ns : List ℕ) (last : ℕ) → decimal n ++ (32 ∷ text_of (ns ++ (last ∷ []))) ≡ text_of (n ∷ (ns ++ (last ∷ [])))
unfolding text_of
before_last n [] last = refl
before_last n (m ∷ ns) last = refl

-- a number and the blank behind it are written: the text from the next number on is left
pub number_written : (front : List ℕ) (last i : ℕ) (out₀ out₁ out₂ : List ℕ) (at₀ at₁ at₂ : ℕ) → i < length front
    → Puts at₀ (decimal (get_or front i 0)) out₀ at₁ out₁ → Puts at₁ (32 ∷ []) out₁ at₂ out₂
    → Same out₂ at₂ (text_of (drop (i + 1) front ++ (last ∷ []))) out₀ at₀ (text_of (drop i front ++ (last ∷ [])))
number_written front last i out₀ out₁ out₂ at₀ at₁ at₂ l p q =
    let rest = text_of (drop (suc i) front ++ (last ∷ [])) in
    rw (add-one i, drop-cons front i 0 l, ← (before_last (get_or front i 0) (drop (suc i) front) last))
    (then (written at₁ at₂ (32 ∷ []) rest out₁ out₂ q.0 q.1) (written at₀ at₁ (decimal (get_or front i 0)) (32 ∷ rest) out₀ out₁ p.0 p.1))

no_text : (old : List ℕ) → Writes [] old 0 old
unfolding text_of
no_text old = (omega arith, omega arith, (nothing 0 old).1)

-- no numbers have no text
pub none_written : (ns old : List ℕ) → length ns ≡ 0 → Writes ns old 0 old
none_written [] old e = no_text old
none_written (n ∷ ns) old e = absurd (omega arith)

-- the last number and the newline behind it are written: that is all of the text
pub text_written : (ns front : List ℕ) (last i : ℕ) (old out₀ out₁ out₂ : List ℕ) (at₀ at₁ at₂ : ℕ) → ns ≡ front ++ (last ∷ []) → length front ≤ i
    → Same out₀ at₀ (text_of (drop i front ++ (last ∷ []))) old 0 (text_of (front ++ (last ∷ [])))
    → Puts at₀ (decimal last) out₀ at₁ out₁ → Puts at₁ (10 ∷ []) out₁ at₂ out₂ → Writes ns old at₂ out₂
unfolding text_of behind
text_written ns front last i old out₀ out₁ out₂ at₀ at₁ at₂ e l s p q =
    let here = rw (drop_of_length-le front l) at s in
    let newline = written at₁ at₂ (10 ∷ []) [] out₁ out₂ q.0 q.1 in
    let number = written at₀ at₁ (decimal last) (10 ∷ []) out₀ out₁ p.0 p.1 in
    let done = all_written 0 at₂ (text_of (front ++ (last ∷ []))) out₂ old (then (then newline number) here) in
    let long : length out₂ ≡ length old = rw done.1 (length_over 0 (text_of (front ++ (last ∷ []))) old) in
    rw e (omega (arith, done.0), omega (arith, done.0), done.1)
