-- A set of numbers below n kept as one number is below 2 ^ n. Assumes nothing.
use Prim.Native.Nat.{ℕ, zero, suc, ◌+◌, ◌*◌, ◌^◌, ◌<◌}
use mathlib.Core.Bool.{Bool, true, false}
use native.Mathlib.Nat.{pow-suc}
use native.Mathlib.Omega.{arith}
use Rattle.words.specs.Below.{sum, one, set_of}

lt_step : (b : Bool) (n s : ℕ) → s < 2 ^ n → s + one b * 2 ^ n < 2 ^ suc n
lt_step true n s h = omega (arith, pow-suc 2 n)
lt_step false n s h = omega (arith, pow-suc 2 n)

pub set_lt : (p : ℕ → Bool) (n : ℕ) → set_of p n < 2 ^ n
unfolding sum
set_lt p zero = omega arith
set_lt p (suc n) = lt_step (p n) n (set_of p n) (set_lt p n)
