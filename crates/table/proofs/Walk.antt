-- Laws of the rows over a row, found by the rows that name them: the Loops around it, and those next to it. Assumes nothing.
use Prim.Native.Nat.{ℕ, zero, suc, ◌+◌, ◌-◌, ◌≤◌, ◌<◌}
use mathlib.Core.Bool.{Bool, true, false, cond, ◌&&◌}
use mathlib.Core.List.{List, [], ◌∷◌}
use mathlib.Core.Path.{◌≡◌, refl, sym, ◌∙◌, ap}
use lib.Dec.{leb-suc-suc, ltb}
use native.Mathlib.Omega.{arith}
use borrow.Author.Tests.{lt-ltb, le-ltb}
use Rattle.words.specs.Rows.{rows_of}
use Rattle.words.specs.Below.{one}
use Rattle.table.specs.Rows.{Row, row, is_loop}
use Rattle.table.specs.Above.{namer, over, above, loops, only_loops}
use Rattle.table.specs.mirror.Names.{near_loops, Rising}

pub over_zero : (n : ℕ) (t : List ℕ) → over n t 0 ≡ []
unfolding over
over_zero zero t = refl
over_zero (suc n) t = refl

pub over_more : (t : List ℕ) (left at : ℕ) → 0 < left → 0 < at → over left t at ≡ namer t at ∷ over (left - 1) t (namer t at)
unfolding over
over_more t zero at h l = absurd (omega arith)
over_more t (suc n) zero h l = absurd (omega arith)
over_more t (suc n) (suc i) h l = let e : suc n - 1 ≡ n = omega arith in rw e

-- where each row is named by a lower one
module _ (t : List ℕ) (up : Rising t) where
  -- more steps than rows add nothing
  over_enough : (n m i : ℕ) → i < rows_of t → i ≤ n → i ≤ m → over n t i ≡ over m t i
  unfolding over
  over_enough zero m zero l a b = sym (over_zero m t)
  over_enough zero m (suc i) l a b = absurd (omega arith)
  over_enough (suc n) m zero l a b = sym (over_zero m t)
  over_enough (suc n) m (suc i) l a b =
      let u = up (suc i) (omega arith) l in
      ap (λ ps. namer t (suc i) ∷ ps) (over_enough n (m - 1) (namer t (suc i)) (omega arith) (omega arith) (omega arith))
      ∙ sym (over_more t m (suc i) (omega arith) (omega arith))

  -- over a row: the row that names it, and the rows over that one
  pub above_more : (i : ℕ) → 0 < i → i < rows_of t → above t i ≡ namer t i ∷ above t (namer t i)
  above_more i h l =
      let u = up i h l in
      over_more t (rows_of t) i (omega arith) h
      ∙ ap (λ ps. namer t i ∷ ps) (over_enough (rows_of t - 1) (rows_of t) (namer t i) (omega arith) (omega arith) (omega arith))

-- ---- Loops around, and Loops next to

-- a row over another adds itself
pub loops_more : (t : List ℕ) (i j : ℕ) (r : Row) → row t i ≡ r → above t j ≡ i ∷ above t i → loops t (above t j) ≡ one (is_loop r) + loops t (above t i)
unfolding loops
loops_more t i j r e a = rw (a, e)

pub near_more : (t : List ℕ) (i j : ℕ) (r : Row) → row t i ≡ r → above t j ≡ i ∷ above t i
    → near_loops t (above t j) ≡ cond (is_loop r) (suc (near_loops t (above t i))) 0
unfolding near_loops
near_more t i j r e a = rw (a, e)

-- only Loops are met until the Loop of depth d exactly where more than d Loops come first
pub only_loops_lem : (t : List ℕ) (d : ℕ) (ps : List ℕ) → only_loops t d ps ≡ ltb d (near_loops t ps)
unfolding only_loops near_loops
only_loops_lem t d [] = sym (le-ltb d 0 (omega arith))
only_loops_lem t zero (p ∷ ps) = at_zero (is_loop (row t p))
  where
    at_zero : (b : Bool) → b ≡ ltb 0 (cond b (suc (near_loops t ps)) 0)
    at_zero true = sym (lt-ltb 0 (suc (near_loops t ps)) (omega arith))
    at_zero false = refl
only_loops_lem t (suc d) (p ∷ ps) = at_suc (is_loop (row t p)) (only_loops_lem t d ps)
  where
    at_suc : (b : Bool) → only_loops t d ps ≡ ltb d (near_loops t ps) → (b && only_loops t d ps) ≡ ltb (suc d) (cond b (suc (near_loops t ps)) 0)
    at_suc true e = e ∙ sym (leb-suc-suc (suc d) (near_loops t ps))
    at_suc false e = sym (le-ltb (suc d) 0 (omega arith))
