-- Names among names, one by one; the bytes of a name; the newlines before a place. Assumes nothing.
use Prim.Native.Nat.{ℕ, suc, ◌+◌, ◌≤◌}
use mathlib.Core.Bool.{Bool, true, false, not, cond}
use mathlib.Core.List.{List, [], ◌∷◌}
use mathlib.Core.Path.{◌≡◌, refl, ◌∙◌, ap}
use native.Mathlib.Omega.{arith}
use lib.Dec.{eqb}
use lib.ListN.{length, length-map, drop, length-take}
use Rattle.std.specs.List.{filter, position, position_or_len}
use Rattle.scribble.specs.Tokens.{spelled_alike, in_name, name_length, newlines}
use Rattle.scribble.specs.Names.{index_of, is_in, number_of}
use Rattle.scribble.specs.mirror.Starts.{name_from, names_from}

-- ---- the bytes of a name

name_fits : (bs : List ℕ) → name_length bs ≤ length bs
unfolding name_length
name_fits [] = omega arith
name_fits (b ∷ bs) = by (name_fits bs) (in_name b)
  where
    by : name_length bs ≤ length bs → (t : Bool) → cond t (suc (name_length bs)) 0 ≤ suc (length bs)
    by l true = omega arith
    by l false = omega arith

pub name_length_lem : (text : List ℕ) (a : ℕ) → length (name_from text a) ≡ name_length (drop a text)
unfolding name_from
name_length_lem text a = let l = name_fits (drop a text) in length-take (name_length (drop a text)) (drop a text) ∙ omega arith

-- ---- newlines

pub newlines_lem : (xs : List ℕ) → newlines xs ≡ length (filter (λ b. eqb b 10) xs)
unfolding newlines
newlines_lem [] = refl
newlines_lem (x ∷ xs) = by (newlines_lem xs) (eqb x 10)
  where
    by : newlines xs ≡ length (filter (λ b. eqb b 10) xs) → (t : Bool)
        → cond t (suc (newlines xs)) (newlines xs) ≡ length (cond t (x ∷ filter (λ b. eqb b 10) xs) (filter (λ b. eqb b 10) xs))
    by e true = ap suc e
    by e false = e

-- a place among places where names start, and the number of a name among the names
pub index_of_names : (text s xs : List ℕ) → index_of s (names_from text xs) ≡ position_or_len (λ x. spelled_alike (name_from text x) s) xs
unfolding index_of
index_of_names text s [] = refl
index_of_names text s (x ∷ xs) = by (index_of_names text s xs) (spelled_alike (name_from text x) s)
  where
    by : index_of s (names_from text xs) ≡ position_or_len (λ x'. spelled_alike (name_from text x') s) xs → (t : Bool)
        → cond t 0 (suc (index_of s (names_from text xs))) ≡ cond (not t) (1 + position_or_len (λ x'. spelled_alike (name_from text x') s) xs) 0
    by e true = refl
    by e false = omega arith

pub number_of_names : (text s xs : List ℕ) → number_of s (names_from text xs) ≡ position (λ x. spelled_alike (name_from text x) s) xs
unfolding is_in
number_of_names text s xs = rw (index_of_names text s xs, length-map)
