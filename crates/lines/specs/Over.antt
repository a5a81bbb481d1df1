-- Items written over others. Assumes nothing.
use Rattle.std.specs.Prelude.{ℕ, ◌+◌, ◌-◌, min, Bool, true, cond, ◌&&◌, List, [], ◌∷◌, ◌++◌, leb, ltb, length, take, drop}

-- xs over the old ones from place `at` on, as many as there is room for; what stands before and behind them stays
unfoldable pub overlaid : {A : Type 0} → ℕ → List A → List A → List A
overlaid at xs old = take at old ++ take (length old - at) xs ++ drop (at + length xs) old

-- the place behind the last one written
unfoldable pub behind : {A : Type 0} → ℕ → List A → List A → ℕ
behind at xs old = at + min (length xs) (length old - at)

-- every number is below the bound
unfoldable pub all_below : ℕ → List ℕ → Bool
all_below bound [] = true
all_below bound (n ∷ ns) = ltb n bound && all_below bound ns

-- every number is below the bound, and there is room for all
unfoldable pub fits : ℕ → List ℕ → List ℕ → Bool
fits bound ns old = leb (length ns) (length old) && all_below bound ns

-- the numbers over the old ones if all fit, and else the old ones
unfoldable pub narrowed : ℕ → List ℕ → List ℕ → List ℕ
narrowed bound ns old = cond (fits bound ns old) (overlaid 0 ns old) old
