-- Sums of the numbers below a bound: one value raised, the first split off, two orders. Assumes nothing.
use Prim.Native.Nat.{ℕ, zero, suc, ◌+◌, ◌<◌}
use mathlib.Core.Logic.{◌≢◌, ⊎_elim}
use mathlib.Core.Path.{◌≡◌, refl, sym, subst, ◌∙◌}
use native.Mathlib.Nat.{eq-or-lt_of_le, le_of_suc-le-suc}
use native.Mathlib.Omega.{arith}
use Rattle.words.specs.Below.{sum}
use Rattle.words.proofs.Below.{sum_ext, sum_add, sum_zero}

bump_last : (f g : ℕ → ℕ) (n d : ℕ) → g n ≡ f n + d → ((k : ℕ) → k ≢ n → g k ≡ f k) → sum g (suc n) ≡ sum f (suc n) + d
unfolding sum
bump_last f g n d here other = let a = sum_ext g f n (λ k m. other k (λ e. absurd (omega arith))) in omega arith

-- one value is d more
pub sum_bump : (f g : ℕ → ℕ) (n i d : ℕ) → i < n → g i ≡ f i + d → ((k : ℕ) → k ≢ i → g k ≡ f k) → sum g n ≡ sum f n + d
unfolding sum
sum_bump f g zero i d l here other = absurd (omega arith)
sum_bump f g (suc n) i d l here other =
    ⊎_elim
    (λ q. bump_last f g n d (subst (λ (k : ℕ). g k ≡ f k + d) q here) (λ k m. other k (λ e. m (e ∙ q))))
    (λ q. let a = sum_bump f g n i d q here other in let b = other n (λ e. absurd (omega arith)) in omega arith)
    (eq-or-lt_of_le (le_of_suc-le-suc l))

pub sum_head : (f : ℕ → ℕ) (n : ℕ) → sum f (suc n) ≡ f 0 + sum (λ k. f (suc k)) n
unfolding sum
sum_head f zero = omega arith
sum_head f (suc n) = let a = sum_head f n in omega arith

pub sum_swap : (f : ℕ → ℕ → ℕ) (n m : ℕ) → sum (λ i. sum (f i) m) n ≡ sum (λ j. sum (λ i. f i j) n) m
unfolding sum
sum_swap f zero m = sym (sum_zero (λ j. 0) m (λ k l. refl))
sum_swap f (suc n) m =
    let a = sum_swap f n m in
    let b = sum_add (λ j. sum (λ i. f i j) n) (f n) m in
    omega arith
