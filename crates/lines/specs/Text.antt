-- Numbers as text: decimal digits, a blank between two numbers, a newline behind the last. Assumes nothing.
use Rattle.std.specs.Prelude.{ℕ, zero, suc, ◌+◌, ◌/◌, ◌%◌, cond, List, [], ◌∷◌, ◌++◌, ltb}

-- a number of at most k digits: its last digit behind those of its tenth, and no zero in front
unfoldable pub digits_of : ℕ → ℕ → List ℕ
digits_of zero n = []
digits_of (suc k) n = let front = digits_of k (n / 10) in cond (ltb n 10) ((48 + n) ∷ []) (front ++ ((48 + n % 10) ∷ []))

-- a number of 32 bits has at most ten digits
unfoldable pub decimal : ℕ → List ℕ
decimal n = digits_of 10 n

unfoldable pub text_of : List ℕ → List ℕ
text_of [] = []
text_of (n ∷ []) = decimal n ++ (10 ∷ [])
text_of (n ∷ m ∷ ns) = decimal n ++ (32 ∷ text_of (m ∷ ns))
