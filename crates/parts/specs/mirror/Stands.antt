-- Words that stand in a list from a place on. Assumes nothing.
use Rattle.std.specs.Prelude.{ℕ, suc, List, [], ◌∷◌, ◌≡◌, get_or}

-- the words ws stand in s from a on
abbrev pub Stands : List ℕ → ℕ → List ℕ → Type 0
Stands s a [] = Unit
Stands s a (w ∷ ws) = (get_or s a 0 ≡ w) × Stands s (suc a) ws
