-- A property of each element of a list. Assumes nothing.
use Rattle.std.specs.Prelude.{List, [], ◌∷◌}

pub data Each {X : Type 0} (P : X → Type 0) : List X → Type 0 where
  each_nil : Each P []
  each_cons : {x : X} {xs : List X} → P x → Each P xs → Each P (x ∷ xs)
