-- Names that are written the same are the same, and a known name has its number for itself. Assumes nothing.
use Prim.Native.Nat.{ℕ, suc, ◌<◌, ◌≤◌}
use mathlib.Core.Bool.{Bool, true, false, true≢false, cond}
use mathlib.Core.List.{List, [], ◌∷◌}
use mathlib.Core.Path.{◌≡◌, refl, sym, ◌∙◌, ap}
use native.Mathlib.Omega.{arith}
use lib.Dec.{eqb, ltb}
use Rattle.std.proofs.Common.{Some, None}
use Rattle.std.specs.Option.{unwrap_or}
use lib.ListN.{length}
use borrow.Author.Tests.{ltb-true, ltb-false, eq-eqb, ne_eqb}
use Rattle.std.proofs.lemmas.Slice.Eq.{bytes_eq-Decides}
use Rattle.scribble.proofs.Sorting.{spelled_alike_bytes}
use Rattle.scribble.specs.Tokens.{spelled_alike}
use Rattle.scribble.specs.Names.{is_in, index_of, number_of}

pub same_self : (x : List ℕ) → spelled_alike x x ≡ true
same_self x = spelled_alike_bytes x x ∙ (bytes_eq-Decides x x).1 refl

pub same_true : (x y : List ℕ) → spelled_alike x y ≡ true → x ≡ y
same_true x y e = (bytes_eq-Decides x y).0 (sym (spelled_alike_bytes x y) ∙ e)

-- no other name has the number of a known one
number_one : (a b : List ℕ) (ns : List (List ℕ)) → index_of b ns < length ns → index_of a ns ≡ index_of b ns → a ≡ b
unfolding index_of
number_one a b [] lt e = let w : ⊥ = omega arith in absurd w
number_one a b (n ∷ ns) lt e = by (number_one a b ns) (spelled_alike n a) refl (spelled_alike n b) refl lt e
  where
    by : (index_of b ns < length ns → index_of a ns ≡ index_of b ns → a ≡ b) → (t : Bool) → spelled_alike n a ≡ t → (u : Bool) → spelled_alike n b ≡ u
        → cond u 0 (suc (index_of b ns)) < suc (length ns) → cond t 0 (suc (index_of a ns)) ≡ cond u 0 (suc (index_of b ns)) → a ≡ b
    by ih true p true q lt e = sym (same_true n a p) ∙ same_true n b q
    by ih true p false q lt e = let w : ⊥ = omega arith in absurd w
    by ih false p true q lt e = let w : ⊥ = omega arith in absurd w
    by ih false p false q lt e = ih (omega arith) (omega arith)

-- THEOREM: a name is written as a known one exactly when it has its number, so a reader may compare numbers
pub numbers_compare : (a b : List ℕ) (ns : List (List ℕ)) → is_in b ns ≡ true → eqb (index_of a ns) (index_of b ns) ≡ spelled_alike a b
unfolding is_in
numbers_compare a b ns k = by (spelled_alike a b) refl
  where
    by : (t : Bool) → spelled_alike a b ≡ t → eqb (index_of a ns) (index_of b ns) ≡ t
    by true e = eq-eqb (index_of a ns) (index_of b ns) (ap (λ (x : List ℕ). index_of x ns) (same_true a b e))
    by false e =
        ne_eqb (index_of a ns) (index_of b ns)
        (λ i. true≢false (sym (same_self b) ∙ (ap (λ (x : List ℕ). spelled_alike x b) (sym (number_one a b ns (ltb-true (index_of b ns) (length ns) k) i)) ∙ e)))

index_inside : (s : List ℕ) (ns : List (List ℕ)) → index_of s ns ≤ length ns
unfolding index_of
index_inside s [] = omega arith
index_inside s (n ∷ ns) = by (index_inside s ns) (spelled_alike n s)
  where
    by : index_of s ns ≤ length ns → (t : Bool) → cond t 0 (suc (index_of s ns)) ≤ suc (length ns)
    by l true = omega arith
    by l false = omega arith

-- THEOREM: the number that `names::find` answers, or how many names there are where it answers none, is how many names stand before the first that is written alike
pub number_of_index : (s : List ℕ) (ns : List (List ℕ)) → unwrap_or (number_of s ns) (length ns) ≡ index_of s ns
unfolding is_in
number_of_index s ns = by (ltb (index_of s ns) (length ns)) refl
  where
    by : (t : Bool) → ltb (index_of s ns) (length ns) ≡ t → unwrap_or (cond t (Some (index_of s ns)) None) (length ns) ≡ index_of s ns
    by true e = refl
    by false e = let l = ltb-false (index_of s ns) (length ns) e in let m = index_inside s ns in omega arith
