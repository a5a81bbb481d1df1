-- Two names byte by byte. Assumes nothing.
use Prim.Native.Nat.{ℕ, suc, ◌+◌}
use mathlib.Core.Bool.{Bool, true, false, true≢false, not, cond, ◌&&◌}
use mathlib.Core.List.{List, [], ◌∷◌}
use mathlib.Core.Path.{◌≡◌, refl, sym, ◌∙◌, ap}
use native.Mathlib.Numerals.{add-one}
use native.Mathlib.Omega.{arith}
use lib.Dec.{eqb}
use Rattle.std.specs.List.{prefix_len, zip}
use borrow.Author.Tests.{eqb-true}
use lib.ListN.{take, get_or}
use lib.Seq.{drop-cons}
use Rattle.scribble.specs.Tokens.{in_name, name_length, spelled_alike}
use Rattle.scribble.specs.mirror.Starts.{name_from, shared}
use Rattle.scribble.proofs.Scanning.{name_inside}

-- one byte and the rest of the name
pub name_cons : (bs : List ℕ) (i : ℕ) → in_name (get_or bs i 0) ≡ true → name_from bs i ≡ get_or bs i 0 ∷ name_from bs (i + 1)
unfolding name_from name_length
name_cons bs i e = rw (add-one i, drop-cons bs i 0 (name_inside bs i e), e)

-- two names are written alike exactly where the byte behind the bytes that both have at the front is none of a name, in both
pub spelled_alike_front : (xs ys : List ℕ)
    → spelled_alike (take (name_length xs) xs) (take (name_length ys) ys)
    ≡ not (in_name (get_or xs (prefix_len shared (zip xs ys)) 0)) && not (in_name (get_or ys (prefix_len shared (zip xs ys)) 0))
unfolding spelled_alike name_length in_name
spelled_alike_front [] [] = refl
spelled_alike_front [] (y ∷ ys) = by (in_name y)
  where
    by : (t : Bool) → spelled_alike [] (take (cond t (suc (name_length ys)) 0) (y ∷ ys)) ≡ not t
    by true = refl
    by false = refl
spelled_alike_front (x ∷ xs) [] = by (in_name x)
  where
    by : (t : Bool) → spelled_alike (take (cond t (suc (name_length xs)) 0) (x ∷ xs)) [] ≡ not t && true
    by true = refl
    by false = refl
spelled_alike_front (x ∷ xs) (y ∷ ys) =
    by (prefix_len shared (zip xs ys)) (1 + prefix_len shared (zip xs ys)) (omega arith) (spelled_alike_front xs ys) (eqb x y) refl (in_name x) refl (in_name y) refl
  where
    by : (n m : ℕ) → m ≡ suc n → spelled_alike (take (name_length xs) xs) (take (name_length ys) ys) ≡ not (in_name (get_or xs n 0)) && not (in_name (get_or ys n 0))
        → (s : Bool) → eqb x y ≡ s → (t : Bool) → in_name x ≡ t → (u : Bool) → in_name y ≡ u
        → spelled_alike (take (cond t (suc (name_length xs)) 0) (x ∷ xs)) (take (cond u (suc (name_length ys)) 0) (y ∷ ys))
        ≡ not (in_name (get_or (x ∷ xs) (cond (s && t) m 0) 0)) && not (in_name (get_or (y ∷ ys) (cond (s && t) m 0) 0))
    by n m q h true e true f true g = rw (e, q) h
    by n m q h true e true f false g = absurd (true≢false (sym f ∙ (ap (λ b. in_name b) (eqb-true x y e) ∙ g)))
    by n m q h true e false f true g = rw (f, g)
    by n m q h true e false f false g = rw (f, g)
    by n m q h false e true f true g = rw (e, f)
    by n m q h false e true f false g = rw f
    by n m q h false e false f true g = rw (f, g)
    by n m q h false e false f false g = rw (f, g)
