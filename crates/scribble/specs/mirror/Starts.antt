-- Names by the places where they start. Assumes nothing.
use Rattle.std.specs.Prelude.{ℕ, Bool, ◌&&◌, List, map, eqb, take, drop}
use Rattle.scribble.specs.Tokens.{in_name, name_length}

-- the name that starts there; none where no name does
unfoldable pub name_from : List ℕ → ℕ → List ℕ
unfolding name_length
name_from text a = take (name_length (drop a text)) (drop a text)

abbrev pub names_from : List ℕ → List ℕ → List (List ℕ)
names_from text starts = map (λ a. name_from text a) starts

-- both are the same byte of a name
abbrev pub shared : ℕ × ℕ → Bool
shared p = eqb p.0 p.1 && in_name p.0
