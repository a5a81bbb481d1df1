-- Laws of a set of numbers kept as one number: its bound, union and intersection, the set of a single number. Assumes nothing.
use Prim.Native.Nat.{ℕ, zero, suc, ◌*◌, ◌^◌, ◌<◌, ◌≤◌, ◌%◌}
use mathlib.Core.Bool.{Bool, true, false, not, ◌&&◌, ◌||◌, and-true, and-false}
use mathlib.Core.Path.{◌≡◌, refl, ◌∙◌}
use mathlib.Core.Logic.{⊎_elim}
use native.Mathlib.Omega.{arith}
use native.Mathlib.Nat.{one-mul, zero-mul, zero-add, add-zero, add_comm, eq-or-lt_of_le, le_of_suc-le-suc}
use lib.Dec.{eqb}
use lib.Bits.{bit_and, bit_or, and_block, or_block}
use lib.Pow.{pow_pos, shl_exact}
use borrow.Author.Tests.{eq-eqb, ne_eqb}
use Rattle.words.specs.Below.{sum, one, set_of}
use Rattle.words.proofs.Sets.{set_lt}
use Rattle.words.proofs.Below.{sum_zero}

or_one : (a b : Bool) → bit_or (one a) (one b) ≡ one (a || b)
or_one true true = refl
or_one true false = refl
or_one false true = refl
or_one false false = refl

-- the union
pub set_or : (p q : ℕ → Bool) (n : ℕ) → bit_or (set_of p n) (set_of q n) ≡ set_of (λ k. p k || q k) n
unfolding sum
set_or p q zero = refl
set_or p q (suc n) =
    rw
    (add_comm (set_of p n) (one (p n) * 2 ^ n), add_comm (set_of q n) (one (q n) * 2 ^ n), or_block n (one (p n)) (one (q n)) (set_of p n) (set_of q n) (set_lt p n) (set_lt q n), or_one (p n) (q n), set_or p q n)
    (add_comm (one (p n || q n) * 2 ^ n) (set_of (λ k. p k || q k) n))

and_one : (a b : Bool) → bit_and (one a) (one b) ≡ one (a && b)
and_one true true = refl
and_one true false = refl
and_one false true = refl
and_one false false = refl

-- what two sets share
pub set_and : (p q : ℕ → Bool) (n : ℕ) → bit_and (set_of p n) (set_of q n) ≡ set_of (λ k. p k && q k) n
unfolding sum
set_and p q zero = refl
set_and p q (suc n) =
    rw
    (add_comm (set_of p n) (one (p n) * 2 ^ n), add_comm (set_of q n) (one (q n) * 2 ^ n), and_block n (one (p n)) (one (q n)) (set_of p n) (set_of q n) (set_lt p n) (set_lt q n), and_one (p n) (q n), set_and p q n)
    (add_comm (one (p n && q n) * 2 ^ n) (set_of (λ k. p k && q k) n))

-- no number below n
pub set_none : (n : ℕ) → set_of (λ k. false) n ≡ 0
set_none n = sum_zero (λ k. one false * 2 ^ k) n (λ k l. zero-mul (2 ^ k))

-- every number below 8
pub set_all : set_of (λ k. true) 8 ≡ 255
unfolding sum
set_all = refl

set_below : (p : ℕ → Bool) (r n : ℕ) → n ≤ r → set_of (λ k. p k && eqb k r) n ≡ 0
set_below p r n h = sum_zero (λ k. one (p k && eqb k r) * 2 ^ k) n (λ k l. rw (ne_eqb k r (λ e. omega arith), and-false) (zero-mul (2 ^ k)))

pub set_past : (r n : ℕ) → n ≤ r → set_of (λ k. eqb k r) n ≡ 0
set_past r n h = set_below (λ k. true) r n h

-- what p says of r, as a set: r alone, or nothing
pub set_at : (p : ℕ → Bool) (r n : ℕ) → r < n → set_of (λ k. p k && eqb k r) n ≡ one (p r) * 2 ^ r
unfolding sum
set_at p r zero h = absurd (omega arith)
set_at p r (suc n) h =
    ⊎_elim
    (λ e. rw (← e, set_below p r r (omega arith), eq-eqb r r refl, and-true) (zero-add (one (p r) * 2 ^ r)))
    (λ l. rw (set_at p r n l, ne_eqb n r (λ e. omega arith), and-false, zero-mul) (add-zero (one (p r) * 2 ^ r)))
    (eq-or-lt_of_le (le_of_suc-le-suc h))

pub set_single : (r n : ℕ) → r < n → set_of (λ k. eqb k r) n ≡ 2 ^ r
set_single r n h = set_at (λ k. true) r n h ∙ one-mul (2 ^ r)

-- r is in a set exactly when the set meets that of r alone
pub set_meets : (p : ℕ → Bool) (r n : ℕ) → r < n → not (eqb (bit_and (set_of p n) (set_of (λ k. eqb k r) n)) 0) ≡ p r
set_meets p r n h = rw (set_and p (λ k. eqb k r) n, set_at p r n h) (go (p r))
  where
    go : (b : Bool) → not (eqb (one b * 2 ^ r) 0) ≡ b
    go true = rw (ne_eqb (1 * 2 ^ r) 0 (λ e. omega (arith, pow_pos r)))
    go false = rw (zero-mul (2 ^ r))

-- one number below 8, as the code makes it in a word of 16 digits
pub set_shifted : (r : ℕ) → r < 8 → 1 * 2 ^ r % 2 ^ 16 ≡ set_of (λ k. eqb k r) 8
set_shifted r h = rw (shl_exact {a = 1} 1 r 16 (omega arith) (omega arith), set_single r 8 h) (one-mul (2 ^ r))
