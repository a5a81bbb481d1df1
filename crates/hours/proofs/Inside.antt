-- A record is stray exactly where a role that is not in the session is in its set. Assumes nothing.
use Prim.Native.Nat.{ℕ, zero, suc, ◌+◌, ◌/◌, ◌%◌, ◌^◌, ◌<◌}
use mathlib.Core.Bool.{Bool, true, false, not, true≢false}
use mathlib.Core.List.{List}
use mathlib.Core.Path.{◌≡◌, refl, sym, ap, ◌∙◌}
use native.Mathlib.Nat.{pow-suc, div-eq_of_lt, div-le_self}
use native.Mathlib.Omega.{arith}
use lib.Dec.{ltb, eqb}
use lib.Pow.{pow_mono, shr-shr}
use borrow.Author.Tests.{ltb-true, ltb-false, not-false}
use Rattle.words.specs.Below.{one}
use Rattle.hours.specs.declared.Record.{Record}
use Rattle.hours.specs.Records.{at, is_in}
use Rattle.hours.specs.Report.{stray}
use Rattle.hours.proofs.Sets.{in_half, lowest_digit, digit_above}

-- a number without digits is 0
no_digits : (n x : ℕ) → x < 2 ^ n → ((k : ℕ) → is_in x k ≡ false) → x ≡ 0
no_digits zero x l h = omega arith
no_digits (suc n) x l h =
    let a = no_digits n (x / 2) (omega (arith, pow-suc 2 n)) (λ k. sym (in_half x k) ∙ h (suc k)) in
    omega (arith, a, lowest_digit x, ap one (h 0))

module _ (rs : List Record) (roles i : ℕ) where
  abbrev s : ℕ
  s = (at rs i).set

  pub inside : stray roles rs i ≡ false → (k : ℕ) → is_in s k ≡ true → k < roles
  inside e k f = by_test (ltb k roles) refl
    where
      by_test : (b : Bool) → ltb k roles ≡ b → k < roles
      by_test true g = ltb-true k roles g
      by_test false g =
          let a = ltb-true s (2 ^ roles) (not-false (ltb s (2 ^ roles)) e) in
          let z = div-eq_of_lt {n = s} {m = 2 ^ k} (omega (arith, a, pow_mono (ltb-false k roles g))) in
          absurd (true≢false (sym f ∙ ap (λ (x : ℕ). eqb (x % 2) 1) z))

  -- whatever width a set has
  pub outside : (width : ℕ) → s < 2 ^ width → ((k : ℕ) → is_in s k ≡ true → k < roles) → stray roles rs i ≡ false
  outside width l h = by_test (ltb s (2 ^ roles)) refl
    where
      off : (k : ℕ) (b : Bool) → is_in (s / 2 ^ roles) k ≡ b → b ≡ false
      off k true e = let a = h (roles + k) (ap (λ (x : ℕ). eqb (x % 2) 1) (sym (shr-shr s roles k)) ∙ e) in absurd (omega arith)
      off k false e = refl

      by_test : (b : Bool) → ltb s (2 ^ roles) ≡ b → not b ≡ false
      by_test true e = refl
      by_test false e =
          let z = no_digits width (s / 2 ^ roles) (let a = div-le_self s (2 ^ roles) in omega arith) (λ k. off k (is_in (s / 2 ^ roles) k) refl) in
          let p = ltb-true 0 (s / 2 ^ roles) (digit_above s roles ∙ ap not e) in
          absurd (omega arith)
