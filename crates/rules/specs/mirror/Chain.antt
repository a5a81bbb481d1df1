-- One chain of arms, walked from its first arm. Assumes nothing.
use Rattle.std.specs.Prelude.{ℕ, zero, suc, Bool, cond, ◌||◌, List, ltb, eqb, Option, Some, None}
use Rattle.words.specs.Rows.{rows_of, word}
use Rattle.words.specs.Below.{lowest, any}
use Rattle.table.specs.Rows.{Row, End, Exchange, Arm, Loop, Back, Other}

-- the i-th row of the chain that starts at first: 0 past its end
unfoldable pub nth : List ℕ → ℕ → ℕ → ℕ
nth t first zero = first
nth t first (suc i) = word t (nth t first i) 3

-- the i-th arm of the chain has the label of an earlier one
abbrev pub repeats : List ℕ → ℕ → ℕ → Bool
repeats t first i = any (λ j. eqb (word t (nth t first j) 1) (word t (nth t first i) 1)) i

abbrev pub stops : List ℕ → ℕ → ℕ → Bool
stops t first i = eqb (nth t first i) 0 || repeats t first i

-- the row of the chain's first arm that repeats a label
unfoldable pub repeated_of : List ℕ → ℕ → Option ℕ
repeated_of t first =
    let i = lowest (stops t first) (rows_of t) in
    let at = nth t first i in
    cond (ltb i (rows_of t)) (cond (eqb at 0) None (Some at)) None

-- the same for the chain of an Exchange
abbrev pub chain_of : List ℕ → Row → Option ℕ
chain_of t (End a b c) = None
chain_of t (Exchange s r f) = repeated_of t f
chain_of t (Arm l c n) = None
chain_of t (Loop b x y) = None
chain_of t (Back d x y) = None
chain_of t Other = None
