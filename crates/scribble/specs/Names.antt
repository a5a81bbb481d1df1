-- Names of a text. They are the same when they are written alike; roles number as listed, labels by first appearance. Assumes nothing.
use Rattle.std.specs.Prelude.{ℕ, suc, Bool, cond, Option, None, Some, List, [], ◌∷◌, ◌++◌, map, ltb, length}
use Rattle.scribble.specs.Tokens.{spelled_alike}
use Rattle.scribble.specs.Grammar.{Name, name_at}

abbrev pub spelled : Name → List ℕ
spelled (name_at b s) = s

-- the place of its first byte
abbrev pub stands_at : Name → ℕ
stands_at (name_at b s) = b

abbrev pub spellings : List Name → List (List ℕ)
spellings ns = map (λ n. spelled n) ns

-- the number of a name among names: how many stand before it, or how many they are where it is none of them
unfoldable pub index_of : List ℕ → List (List ℕ) → ℕ
unfolding spelled_alike
index_of s [] = 0
index_of s (n ∷ ns) = let later = suc (index_of s ns) in cond (spelled_alike n s) 0 later

unfoldable pub is_in : List ℕ → List (List ℕ) → Bool
unfolding index_of
is_in s ns = ltb (index_of s ns) (length ns)

-- the number of a name among names, where it is one of them
abbrev pub number_of : List ℕ → List (List ℕ) → Option ℕ
number_of s ns = cond (is_in s ns) (Some (index_of s ns)) None

-- the names that were not met before, in the order met; `before` are those met before
unfoldable pub firsts : List (List ℕ) → List Name → List Name
unfolding is_in index_of
firsts before [] = []
firsts before (n ∷ ns) =
    let new = n ∷ firsts (before ++ (spelled n ∷ [])) ns in
    let old = firsts before ns in
    cond (is_in (spelled n) before) old new
