-- The list of a function's values at the numbers below a bound. Assumes nothing.
use Prim.Native.Nat.{ℕ, zero, suc, ◌+◌, ◌-◌, ◌≤◌, ◌<◌}
use mathlib.Core.List.{List, [], ◌∷◌, ◌++◌}
use mathlib.Core.Logic.{⊎_elim}
use mathlib.Core.Path.{◌≡◌, refl, sym, subst, ◌∙◌}
use native.Mathlib.Nat.{eq-or-lt_of_le, le_of_suc-le-suc}
use native.Mathlib.Omega.{arith}
use lib.ListN.{length, get_or, take, drop, length-append, get_or-append, get_or-eq_default}
use lib.Seq.{get_or_at, get_or-drop, take-suc}
use Rattle.std.proofs.lemmas.List.{length-drop}
use Rattle.hours.specs.Report.{each}

pub length_each : (f : ℕ → ℕ) (n : ℕ) → length (each f n) ≡ n
unfolding each
length_each f zero = refl
length_each f (suc n) = length-append (each f n) (f n ∷ []) ∙ omega (arith, length_each f n)

-- f's value at k stands at place k
pub each_at : (f : ℕ → ℕ) (n k : ℕ) → k < n → get_or (each f n) k 0 ≡ f k
unfolding each
each_at f zero k l = absurd (omega arith)
each_at f (suc n) k l =
    ⊎_elim
    (λ q. subst (λ (j : ℕ). get_or (each f n ++ (f n ∷ [])) j 0 ≡ f j) (sym q) (get_or_at (each f n) (f n) [] 0 n (length_each f n)))
    (λ q. get_or-append (each f n) (f n ∷ []) 0 k (let e = length_each f n in omega arith) ∙ each_at f n k q)
    (eq-or-lt_of_le (le_of_suc-le-suc l))

-- past the end there is none
pub each_past : (f : ℕ → ℕ) (n k : ℕ) → n ≤ k → get_or (each f n) k 0 ≡ 0
each_past f n k l = get_or-eq_default (each f n) 0 (let e = length_each f n in omega arith)

pub each_ext : (f g : ℕ → ℕ) (n : ℕ) → ((k : ℕ) → k < n → f k ≡ g k) → each f n ≡ each g n
unfolding each
each_ext f g zero h = refl
each_ext f g (suc n) h = rw (each_ext f g n (λ k l. h k (omega arith)), h n (omega arith))

-- the values of a list from place a on
pub each_range : (xs : List ℕ) (a n : ℕ) → a + n ≤ length xs → each (λ k. get_or xs (a + k) 0) n ≡ take n (drop a xs)
unfolding each
each_range xs a zero l = refl
each_range xs a (suc n) l =
    let long : length (drop a xs) ≡ length xs - a = length-drop a xs in
    rw (each_range xs a n (omega arith), take-suc (drop a xs) n 0 (omega arith), get_or-drop a xs n 0) refl
