-- A row's number that is held at a bound past the end of the words reads the same four words. Assumes nothing.
use Prim.Native.Nat.{ℕ, ◌+◌, ◌*◌, ◌≤◌, min}
use mathlib.Core.Bool.{Bool, true, false}
use mathlib.Core.List.{List, [], ◌∷◌}
use mathlib.Core.Path.{◌≡◌, refl, sym, ◌∙◌}
use lib.Dec.{leb}
use lib.ListN.{length}
use native.Mathlib.Omega.{arith}
use borrow.Author.Tests.{leb-true, leb-false}
use Rattle.std.proofs.Math.Nat.{min-eq_left, min-eq_right}
use Rattle.std.proofs.lemmas.List.{get_or_past}
use Rattle.words.specs.Rows.{word, row_words}

module _ (ts : List ℕ) (most : ℕ) (short : length ts ≤ most) where
  no_words : (i : ℕ) → most ≤ i → row_words ts i ≡ 0 ∷ 0 ∷ 0 ∷ 0 ∷ []
  no_words i h = rw (past 0, past 1, past 2, past 3) refl
    where
      past : (k : ℕ) → word ts i k ≡ 0
      past k = get_or_past ts (i * 4 + k) 0 (omega (arith, short, h))

  pub row_held : (i : ℕ) → row_words ts (min i most) ≡ row_words ts i
  row_held i = decide (leb i most) refl
    where
      decide : (b : Bool) → leb i most ≡ b → row_words ts (min i most) ≡ row_words ts i
      decide true e = rw (min-eq_left (leb-true i most e)) refl
      decide false e =
          let h : most ≤ i = omega (arith, leb-false i most e) in
          rw (min-eq_right h) (no_words most (omega arith) ∙ sym (no_words i h))
