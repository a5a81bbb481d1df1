-- Laws of what a row's first word says of it. Assumes nothing.
use Prim.Native.Nat.{ℕ, zero, suc}
use mathlib.Core.Bool.{true, true≢false}
use mathlib.Core.List.{List}
use mathlib.Core.Path.{◌≡◌, refl, sym, ◌∙◌, ap}
use lib.Dec.{eqb}
use native.Mathlib.Omega.{arith}
use borrow.Author.Tests.{ne_eqb}
use Rattle.words.specs.Rows.{word}
use Rattle.table.specs.Rows.{Arm, row_of, row, is_arm, is_loop}
use Rattle.table.specs.mirror.Names.{far_link}

pub is_arm_lem : (k a b c : ℕ) → is_arm (row_of k a b c) ≡ eqb k 2
is_arm_lem zero a b c = refl
is_arm_lem (suc zero) a b c = refl
is_arm_lem (suc (suc zero)) a b c = refl
is_arm_lem (suc (suc (suc zero))) a b c = refl
is_arm_lem (suc (suc (suc (suc zero)))) a b c = refl
is_arm_lem (suc (suc (suc (suc (suc k))))) a b c = sym (ne_eqb (suc (suc (suc (suc (suc k))))) 2 (omega arith))

pub is_loop_lem : (k a b c : ℕ) → is_loop (row_of k a b c) ≡ eqb k 3
is_loop_lem zero a b c = refl
is_loop_lem (suc zero) a b c = refl
is_loop_lem (suc (suc zero)) a b c = refl
is_loop_lem (suc (suc (suc zero))) a b c = refl
is_loop_lem (suc (suc (suc (suc zero)))) a b c = refl
is_loop_lem (suc (suc (suc (suc (suc k))))) a b c = sym (ne_eqb (suc (suc (suc (suc (suc k))))) 3 (omega arith))

-- an Arm, by its words
arm_words : (k a b c : ℕ) → is_arm (row_of k a b c) ≡ true → row_of k a b c ≡ Arm a b c
arm_words zero a b c e = absurd (true≢false (sym e))
arm_words (suc zero) a b c e = absurd (true≢false (sym e))
arm_words (suc (suc zero)) a b c e = refl
arm_words (suc (suc (suc zero))) a b c e = absurd (true≢false (sym e))
arm_words (suc (suc (suc (suc zero)))) a b c e = absurd (true≢false (sym e))
arm_words (suc (suc (suc (suc (suc k))))) a b c e = absurd (true≢false (sym e))

-- its third word is its next arm
pub arm_third : (k a b c : ℕ) {l m n : ℕ} → row_of k a b c ≡ Arm l m n → c ≡ n
arm_third k a b c e = ap far_link (sym (arm_words k a b c (ap is_arm e))) ∙ ap far_link e

pub arm_row : (t : List ℕ) (x : ℕ) → is_arm (row t x) ≡ true → row t x ≡ Arm (word t x 1) (word t x 2) (word t x 3)
arm_row t x e = arm_words (word t x 0) (word t x 1) (word t x 2) (word t x 3) e
