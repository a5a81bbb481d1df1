-- A set of numbers below n as one number: how many it holds, the lowest, and one more joined. Assumes nothing.
use Prim.Native.Nat.{ℕ, zero, suc, ◌+◌, ◌*◌, ◌^◌, ◌<◌, ◌≤◌, ◌%◌}
use mathlib.Core.Bool.{Bool, true, false, cond}
use mathlib.Core.Path.{◌≡◌, refl, sym, ap, ◌∙◌}
use lib.Dec.{ltb}
use native.Mathlib.Omega.{arith}
use native.Mathlib.Nat.{pow-suc, zero-mul, add-zero, add_comm, mul-one, mul_comm, mul_assoc, add-mul}
use lib.Count.{ones, count_trailing_zeros, ones_cat, trailing_of_zero}
use lib.Bits.{bit_or, or_shifted_r, shifted_half, shifted_even}
use lib.Pow.{shl_exact}
use borrow.Author.Tests.{lt-ltb, le-ltb, ltb-true}
use Rattle.words.specs.Below.{lowest, sum, one, how_many, set_of}
use Rattle.words.proofs.Sets.{set_lt}

up_one : (a n : ℕ) → a * 2 ^ suc n ≡ a * 2 * 2 ^ n
up_one a n = rw (pow-suc 2 n, mul_comm (2 ^ n) 2, ← (mul_assoc a 2 (2 ^ n)))

ones_one : (b : Bool) → ones (one b) ≡ one b
unfolding ones
ones_one true = refl
ones_one false = refl

-- the digits that are 1 are as many as the numbers in the set
pub set_count : (p : ℕ → Bool) (n : ℕ) → ones (set_of p n) ≡ how_many p n
unfolding sum ones
set_count p zero = refl
set_count p (suc n) =
    ap ones (add_comm (set_of p n) (one (p n) * 2 ^ n))
    ∙ ones_cat n (one (p n)) (set_of p n) (set_lt p n)
    ∙ rw (ones_one (p n), set_count p n) (add_comm (one (p n)) (how_many p n))

-- the lowest number below n that p holds of, or d, from the highest down
least_of : (ℕ → Bool) → ℕ → ℕ → ℕ
least_of p zero d = d
least_of p (suc n) d = least_of p n (cond (p n) n d)

tz_odd : (m k K : ℕ) → m % 2 ≡ 1 → k < K → count_trailing_zeros K (m * 2 ^ k) ≡ k
unfolding count_trailing_zeros
tz_odd m k zero o l = absurd (omega arith)
tz_odd m zero (suc K) o l = rw (mul-one m, o)
tz_odd m (suc k) (suc K) o l = rw (shifted_even m k, shifted_half m k, tz_odd m k K o (omega arith))

-- the digits above the n-th are a, whose zeros, with the n below, are d
tz_set : (p : ℕ → Bool) (n K a d : ℕ) → n ≤ K → count_trailing_zeros K (a * 2 ^ n) ≡ d → count_trailing_zeros K (a * 2 ^ n + set_of p n) ≡ least_of p n d
unfolding sum least_of
tz_set p zero K a d l e = rw add-zero e
tz_set p (suc n) K a d l e = up (p n) (tz_set p n K)
  where
    up : (b : Bool) → ((a d : ℕ) → n ≤ K → count_trailing_zeros K (a * 2 ^ n) ≡ d → count_trailing_zeros K (a * 2 ^ n + set_of p n) ≡ least_of p n d)
        → count_trailing_zeros K (a * 2 ^ suc n + (set_of p n + one b * 2 ^ n)) ≡ least_of p n (cond b n d)
    up true ih = ap (count_trailing_zeros K) (omega (arith, up_one a n, add-mul (a * 2) 1 (2 ^ n))) ∙ ih (a * 2 + 1) n (omega arith) (tz_odd (a * 2 + 1) n K (omega arith) (omega arith))
    up false ih = ap (count_trailing_zeros K) (omega (arith, up_one a n)) ∙ ih (a * 2) d (omega arith) (ap (count_trailing_zeros K) (sym (up_one a n)) ∙ e)

least_step : (k n d : ℕ) (b c : Bool) → ltb k n ≡ b
    → cond b k (cond c n d) ≡ cond (ltb (cond b k (cond c n (suc n))) (suc n)) (cond b k (cond c n (suc n))) d
least_step k n d true c e = let l : k < n = ltb-true k n e in rw (lt-ltb k (suc n) (omega arith))
least_step k n d false true e = rw (lt-ltb n (suc n) (omega arith))
least_step k n d false false e = rw (le-ltb (suc n) (suc n) (omega arith))

least_lowest : (p : ℕ → Bool) (n d : ℕ) → least_of p n d ≡ cond (ltb (lowest p n) n) (lowest p n) d
unfolding least_of lowest
least_lowest p zero d = refl
least_lowest p (suc n) d =
    least_lowest p n (cond (p n) n d) ∙ least_step (lowest p n) n d (ltb (lowest p n) n) (p n) refl

-- the zeros below the lowest 1 are the lowest number of the set; an empty set of w digits has w
pub set_least : (w : ℕ) (p : ℕ → Bool) (n : ℕ) → n ≤ w → count_trailing_zeros w (set_of p n) ≡ cond (ltb (lowest p n) n) (lowest p n) w
set_least w p n l =
    ap (count_trailing_zeros w) (omega (arith, zero-mul (2 ^ n))) ∙ tz_set p n w 0 w l (rw zero-mul (trailing_of_zero w))
    ∙ least_lowest p n w

-- n joins the numbers below it, in a word of w digits
pub set_or : (w : ℕ) (p : ℕ → Bool) (n : ℕ) → n < w → p n ≡ true → bit_or (set_of p n) (1 * 2 ^ n % 2 ^ w) ≡ set_of p (suc n)
unfolding sum
set_or w p n l e =
    rw (shl_exact {a = 1} 1 n w (omega arith) (omega arith), or_shifted_r 1 n (set_of p n) (set_lt p n), e)
    (add_comm (1 * 2 ^ n) (set_of p n))

pub set_not : (p : ℕ → Bool) (n : ℕ) → p n ≡ false → set_of p n ≡ set_of p (suc n)
unfolding sum
set_not p n e = rw (e, zero-mul, add-zero)
