-- Tests of the numbers below a bound: the rows of a table, the roles of a protocol, the slots of a queue. Assumes nothing.
use Rattle.std.specs.Prelude.{ℕ, zero, suc, ◌+◌, ◌*◌, ◌^◌, Bool, true, false, cond, ◌&&◌, ◌||◌, ltb}

-- the lowest number below n that p holds of, or n for none
unfoldable pub lowest : (ℕ → Bool) → ℕ → ℕ
lowest p zero = zero
lowest p (suc n) = let k = lowest p n in cond (ltb k n) k (cond (p n) n (suc n))

-- p holds of every number below n
unfoldable pub every : (ℕ → Bool) → ℕ → Bool
every p zero = true
every p (suc n) = every p n && p n

-- p holds of some number below n
unfoldable pub any : (ℕ → Bool) → ℕ → Bool
any p zero = false
any p (suc n) = any p n || p n

-- f's values at the numbers below n, added up
unfoldable pub sum : (ℕ → ℕ) → ℕ → ℕ
sum f zero = 0
sum f (suc n) = sum f n + f n

-- 1 for true
abbrev pub one : Bool → ℕ
one true = 1
one false = 0

-- how many numbers below n p holds of
abbrev pub how_many : (ℕ → Bool) → ℕ → ℕ
how_many p n = sum (λ k. one (p k)) n

-- the numbers below n that p holds of, as one number: k is the binary digit of weight 2 ^ k
abbrev pub set_of : (ℕ → Bool) → ℕ → ℕ
set_of p n = sum (λ k. one (p k) * 2 ^ k) n
