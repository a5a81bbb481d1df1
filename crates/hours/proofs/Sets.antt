-- A set of roles as a number: its binary digits are counted by `ones`, and the only one is found by `count_trailing_zeros`. Assumes nothing.
use Prim.Native.Nat.{ℕ, zero, suc, ◌+◌, ◌*◌, ◌/◌, ◌%◌, ◌^◌, ◌≤◌, ◌<◌}
use mathlib.Core.Bool.{Bool, true, false, not, ◌&&◌}
use mathlib.Core.Path.{◌≡◌, refl, sym, ap, ◌∙◌}
use native.Mathlib.Nat.{mul-one, mul_assoc, zero-div, pow-suc, div-one, div-eq_of_lt, le-div_iff_mul-le, one-le-pow}
use native.Mathlib.Omega.{arith}
use lib.Count.{ones, count_trailing_zeros, under, ones_step}
use lib.Dec.{ltb, eqb}
use lib.Pow.{shr-shr, pow_mono}
use borrow.Author.Tests.{eqb-true, eqb-false, eq-eqb, ne_eqb, ltb-true, ltb-false, lt-ltb, le-ltb}
use Rattle.words.specs.Below.{sum, one, how_many, set_of}
use Rattle.words.proofs.Below.{sum_ext, sum_at}
use Rattle.words.proofs.Sets.{set_lt}
use Rattle.hours.specs.Records.{is_in}
use Rattle.hours.proofs.Sums.{sum_head}

-- numbers raised alike are equal where they were
pub eqb_add : (d a b : ℕ) → eqb (d + a) (d + b) ≡ eqb a b
eqb_add d a b = by_test (eqb a b) refl
  where
    by_test : (t : Bool) → eqb a b ≡ t → eqb (d + a) (d + b) ≡ t
    by_test true e = let q = eqb-true a b e in eq-eqb (d + a) (d + b) (omega arith)
    by_test false e = ne_eqb (d + a) (d + b) (λ q. eqb-false a b e (omega arith))

eqb_suc : (a b : ℕ) → eqb (suc a) (suc b) ≡ eqb a b
eqb_suc a b = let p : suc a ≡ 1 + a = omega arith in let q : suc b ≡ 1 + b = omega arith in rw (p, q) (eqb_add 1 a b)

pub in_half : (s k : ℕ) → is_in s (suc k) ≡ is_in (s / 2) k
in_half s k =
    let p : suc k ≡ 1 + k = omega arith in
    ap (λ (x : ℕ). eqb (s / 2 ^ x % 2) 1) p ∙ ap (λ (x : ℕ). eqb (x % 2) 1) (sym (shr-shr s 1 k))

half_lt : (s n : ℕ) → s < 2 ^ suc n → s / 2 < 2 ^ n
half_lt s n l = omega (arith, pow-suc 2 n)

zero_of : (s : ℕ) → s < 2 ^ 0 → s ≡ 0
zero_of s l = omega arith

one_digit : (b : Bool) (d : ℕ) → d < 2 → eqb d 1 ≡ b → one b ≡ d
one_digit true d l e = let q = eqb-true d 1 e in omega arith
one_digit false d l e = let h = eqb-false d 1 e in small d l h
  where
    small : (d : ℕ) → d < 2 → (d ≡ 1 → ⊥) → 0 ≡ d
    small zero l h = refl
    small (suc zero) l h = absurd (h refl)
    small (suc (suc d)) l h = absurd (omega arith)

pub lowest_digit : (s : ℕ) → one (is_in s 0) ≡ s % 2
lowest_digit s = rw (div-one s) (one_digit (eqb (s % 2) 1) (s % 2) (omega arith) refl)

-- as many digits are 1 as roles are in the set
pub ones_in : (n s : ℕ) → s < 2 ^ n → ones s ≡ how_many (is_in s) n
unfolding sum ones
ones_in zero s l = ap ones (zero_of s l)
ones_in (suc n) s l =
    ones_step s
    ∙ rw (ones_in n (s / 2) (half_lt s n l), ← lowest_digit s)
    (sym (sum_head (λ k. one (is_in s k)) n ∙ ap (λ (x : ℕ). one (is_in s 0) + x) (sum_ext (λ k. one (is_in s (suc k))) (λ k. one (is_in (s / 2) k)) n (λ k m. ap one (in_half s k)))))

-- no role is in a set that counts none
none_in : (n s r : ℕ) → s < 2 ^ n → ones s ≡ 0 → r < n → is_in s r ≡ false
none_in n s r l z m = off (is_in s r) (sum_at (λ k. one (is_in s k)) n r m)
  where
    off : (b : Bool) → one b ≤ how_many (is_in s) n → b ≡ false
    off true h = let e = ones_in n s l in absurd (omega arith)
    off false h = refl

-- the only role in a set is the zeros below its digit
pub only_in : (n K s r : ℕ) → s < 2 ^ n → n ≤ K → ones s ≡ 1 → r < n → is_in s r ≡ eqb (count_trailing_zeros K s) r
unfolding count_trailing_zeros
only_in zero K s r l m e h = absurd (omega arith)
only_in (suc n) zero s r l m e h = absurd (omega arith)
only_in (suc n) (suc K) s r l m e h = by_digit (s % 2) refl (λ r' z h'. only_in n K (s / 2) r' (half_lt s n l) (omega arith) z h')
  where
    even : (r : ℕ) → r < suc n → s % 2 ≡ 0 → ((r : ℕ) → r < n → is_in (s / 2) r ≡ eqb (count_trailing_zeros K (s / 2)) r) → is_in s r ≡ eqb (suc (count_trailing_zeros K (s / 2))) r
    even zero h p ih = rw (div-one s, p) (sym (ne_eqb (suc (count_trailing_zeros K (s / 2))) 0 (λ e. absurd (omega arith))))
    even (suc r) h p ih = in_half s r ∙ ih r (omega arith) ∙ sym (eqb_suc (count_trailing_zeros K (s / 2)) r)

    odd : (r : ℕ) → r < suc n → s % 2 ≡ 1 → ones (s / 2) ≡ 0 → is_in s r ≡ eqb 0 r
    odd zero h p z = rw (div-one s, p)
    odd (suc r) h p z = in_half s r ∙ none_in n (s / 2) r (half_lt s n l) z (omega arith) ∙ sym (ne_eqb 0 (suc r) (λ e. absurd (omega arith)))

    by_digit : (d : ℕ) → s % 2 ≡ d → ((r : ℕ) → ones (s / 2) ≡ 1 → r < n → is_in (s / 2) r ≡ eqb (count_trailing_zeros K (s / 2)) r)
        → is_in s r ≡ eqb (under d (count_trailing_zeros K (s / 2))) r
    by_digit zero p ih = let q = ones_step s in even r h p (λ r' h'. ih r' (omega arith) h')
    by_digit (suc d) p ih = let q = ones_step s in odd r h (omega arith) (omega arith)

-- the lowest role of a set that is not empty
pub low_lt : (K s : ℕ) → s < 2 ^ K → 0 < ones s → count_trailing_zeros K s < K
unfolding count_trailing_zeros ones
low_lt zero s l h = let e = ap ones (zero_of s l) in absurd (omega (arith, rw e at h))
low_lt (suc K) s l h = by_digit (s % 2) refl (λ z. low_lt K (s / 2) (half_lt s K l) z)
  where
    by_digit : (d : ℕ) → s % 2 ≡ d → (0 < ones (s / 2) → count_trailing_zeros K (s / 2) < K) → under d (count_trailing_zeros K (s / 2)) < suc K
    by_digit zero p ih = let q = ones_step s in let a = ih (omega arith) in omega arith
    by_digit (suc d) p ih = omega arith

-- a digit above those of the roles
pub digit_above : (s n : ℕ) → ltb 0 (s / 2 ^ n) ≡ not (ltb s (2 ^ n))
digit_above s n = by_test (ltb s (2 ^ n)) refl
  where
    by_test : (b : Bool) → ltb s (2 ^ n) ≡ b → ltb 0 (s / 2 ^ n) ≡ not b
    by_test true e = rw (div-eq_of_lt {n = s} {m = 2 ^ n} (ltb-true s (2 ^ n) e))
    by_test false e = lt-ltb 0 (s / 2 ^ n) ((le-div_iff_mul-le {k = 2 ^ n} {x = 1} {y = s} (one-le-pow n 2 (omega arith))).1 (omega (arith, ltb-false s (2 ^ n) e)))

-- ---- the set of the numbers that a test holds of

half_set : (p : ℕ → Bool) (n : ℕ) → set_of p (suc n) ≡ one (p 0) + set_of (λ k. p (suc k)) n * 2
unfolding sum
half_set p zero = omega (arith, mul-one (one (p 0)))
half_set p (suc n) =
    let a = half_set p n in
    let b : one (p (suc n)) * 2 ^ suc n ≡ one (p (suc n)) * 2 ^ n * 2 = rw (pow-suc 2 n) (sym (mul_assoc (one (p (suc n))) (2 ^ n) 2)) in
    omega (arith, a, b)

same_one : (a b : Bool) → one a ≡ one b → a ≡ b
same_one true true e = refl
same_one true false e = absurd (omega arith)
same_one false true e = absurd (omega arith)
same_one false false e = refl

ltb_suc : (a b : ℕ) → ltb (suc a) (suc b) ≡ ltb a b
ltb_suc a b = by_test (ltb a b) refl
  where
    by_test : (t : Bool) → ltb a b ≡ t → ltb (suc a) (suc b) ≡ t
    by_test true e = let l = ltb-true a b e in lt-ltb (suc a) (suc b) (omega arith)
    by_test false e = let l = ltb-false a b e in le-ltb (suc a) (suc b) (omega arith)

one_most : (b : Bool) → one b ≤ 1
one_most true = omega arith
one_most false = omega arith

-- its digits are the test
pub in_set : (p : ℕ → Bool) (n k : ℕ) → is_in (set_of p n) k ≡ (ltb k n && p k)
unfolding sum
in_set p zero k = rw (zero-div (2 ^ k), le-ltb k 0 (omega arith))
in_set p (suc n) zero =
    let a = half_set p n in
    let b = lowest_digit (set_of p (suc n)) in
    rw (lt-ltb 0 (suc n) (omega arith)) (same_one (is_in (set_of p (suc n)) 0) (p 0) (omega (arith, a, b, one_most (p 0))))
in_set p (suc n) (suc k) =
    let a = half_set p n in
    let h : set_of p (suc n) / 2 ≡ set_of (λ j. p (suc j)) n = omega (arith, a, one_most (p 0)) in
    in_half (set_of p (suc n)) k ∙ rw (h, ltb_suc k n) (in_set (λ j. p (suc j)) n k)

-- and as many roles are in it, whatever the limit
pub many_in : (p : ℕ → Bool) (n m : ℕ) → n ≤ m → how_many (is_in (set_of p n)) m ≡ how_many p n
many_in p n m l =
    sym (ones_in m (set_of p n) (omega (arith, set_lt p n, pow_mono l)))
    ∙ ones_in n (set_of p n) (set_lt p n)
    ∙ sum_ext (λ k. one (is_in (set_of p n) k)) (λ k. one (p k)) n (λ k h. rw (in_set p n k, lt-ltb k n h))
