-- Laws of the walk along one chain of arms: where it stops, and what it then answers. Assumes nothing.
use Prim.Native.Nat.{ℕ, ◌+◌, ◌≤◌, ◌<◌}
use mathlib.Core.Bool.{Bool, true, false, or-true}
use mathlib.Core.List.{List}
use mathlib.Core.Logic.{◌≢◌, ◌⊎◌, inl, inr}
use mathlib.Core.Path.{◌≡◌, refl}
use lib.Dec.{eqb}
use native.Mathlib.Numerals.{add-one}
use native.Mathlib.Decide.{dec_lt}
use native.Mathlib.Omega.{arith}
use borrow.Author.Tests.{lt-ltb, le-ltb, eq-eqb, ne_eqb}
use Rattle.std.specs.Prelude.{Some, None}
use Rattle.words.specs.Rows.{rows_of, word}
use Rattle.words.proofs.Below.{lowest_none, lowest_at, any_none, any_at}
use Rattle.rules.specs.mirror.Chain.{nth, stops, repeated_of}

-- the labels of the j-th and the i-th arm are the same
abbrev pub same : List ℕ → ℕ → ℕ → ℕ → Bool
same t first i j = eqb (word t (nth t first j) 1) (word t (nth t first i) 1)

-- the walk at its i-th row
module _ (t : List ℕ) (first i row : ℕ) (er : row ≡ nth t first i) where
  pub next_row : (w : ℕ) → w ≡ word t row 3 → w ≡ nth t first (i + 1)
  unfolding nth
  next_row w e = rw (add-one, ← er) e

  pub goes_on : row ≢ 0 → ((j : ℕ) → j < i → same t first i j ≡ false) → stops t first i ≡ false
  goes_on z h = rw (← er, ne_eqb row 0 z, er, any_none (same t first i) i h) refl

  module _ (before : (k : ℕ) → k < i → stops t first k ≡ false) where
    pub ended : i ≤ rows_of t → (row ≡ 0) ⊎ ((row ≢ 0) × (rows_of t ≤ i)) → None ≡ repeated_of t first
    unfolding repeated_of
    ended l e = go (dec_lt i (rows_of t)) e
      where
        go : Dec (i < rows_of t) → (row ≡ 0) ⊎ ((row ≢ 0) × (rows_of t ≤ i)) → None ≡ repeated_of t first
        go (yes h) (inl z) =
            let z' : eqb (nth t first i) 0 ≡ true = rw (← er) (eq-eqb row 0 z) in
            let s : stops t first i ≡ true = rw z' refl in
            rw (lowest_at (stops t first) (rows_of t) i h before s, lt-ltb i (rows_of t) h, z') refl
        go (yes h) (inr (z, m)) = absurd (omega arith)
        go (no h) b =
            rw (lowest_none (stops t first) (rows_of t) (λ k m. before k (omega arith)), le-ltb (rows_of t) (rows_of t) (omega arith)) refl

    pub found : (j : ℕ) → row ≢ 0 → i < rows_of t → j < i → same t first i j ≡ true → Some row ≡ repeated_of t first
    unfolding repeated_of
    found j z h l s =
        let z' : eqb (nth t first i) 0 ≡ false = rw (← er) (ne_eqb row 0 z) in
        let s' : stops t first i ≡ true = rw (any_at (same t first i) i j l s) (or-true (eqb (nth t first i) 0)) in
        rw (lowest_at (stops t first) (rows_of t) i h before s', lt-ltb i (rows_of t) h, z', er) refl

-- two labels read, at rows that are the chain's j-th and i-th
pub same_is : (t : List ℕ) (first i j row earlier x y : ℕ) → row ≡ nth t first i → earlier ≡ nth t first j → x ≡ word t earlier 1 → y ≡ word t row 1
    → same t first i j ≡ eqb x y
same_is t first i j row earlier x y er ee ex ey = rw (← er, ← ee, ← ex, ← ey) refl
