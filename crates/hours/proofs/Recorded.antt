-- The records that three arrays make, and the tally of them. Assumes nothing.
use Prim.Native.Nat.{ℕ, zero, suc, ◌<◌}
use mathlib.Core.Bool.{Bool, true, false, ◌&&◌}
use mathlib.Core.List.{List, [], ◌∷◌}
use mathlib.Core.Path.{◌≡◌, refl, ap}
use native.Mathlib.Omega.{arith}
use lib.Dec.{eqb}
use lib.ListN.{length, get_or}
use borrow.Author.Tests.{eqb-true}
use Rattle.words.proofs.Below.{and_both}
use Rattle.table.specs.Limits.{Limits}
use Rattle.table.specs.Rules.{roles_broken}
use Rattle.hours.specs.Records.{at}
use Rattle.hours.specs.Report.{report_of}
use Rattle.hours.specs.Said.{figures_of}
use Rattle.hours.specs.mirror.Tally.{refused, roles_refused}
use Rattle.hours.specs.declared.refusal.Refusal.{Refusal}
use Rattle.hours.specs.declared.refusal.Refusal.TheVariants.{Roles, Records}
use Rattle.std.proofs.Common.{Ok, Err}
use Rattle.hours.specs.Arrays.{record_of, records_of, one_length, report_of_arrays}

pub even_by : (ms ws ss : List ℕ) → length ws ≡ length ms → length ss ≡ length ms → one_length ms ws ss ≡ true
even_by ms ws ss a b = rw (a, b) (by_eqb (length ms))
  where
    by_eqb : (n : ℕ) → (eqb n n && eqb n n) ≡ true
    by_eqb n = grind arith

pub uneven_by : (ms ws ss : List ℕ) → (length ws ≡ length ms → length ss ≡ length ms → ⊥) → one_length ms ws ss ≡ false
uneven_by ms ws ss apart = by_test (one_length ms ws ss) refl
  where
    by_test : (b : Bool) → one_length ms ws ss ≡ b → b ≡ false
    by_test true e =
        let (a, b) = and_both (eqb (length ws) (length ms)) (eqb (length ss) (length ms)) e in
        absurd (apart (eqb-true (length ws) (length ms) a) (eqb-true (length ss) (length ms) b))
    by_test false e = refl

pub records_length : (ms ws ss : List ℕ) → length ws ≡ length ms → length ss ≡ length ms → length (records_of ms ws ss) ≡ length ms
unfolding records_of
records_length [] ws ss a b = refl
records_length (m ∷ ms) [] ss a b = absurd (omega arith)
records_length (m ∷ ms) (w ∷ ws) [] a b = absurd (omega arith)
records_length (m ∷ ms) (w ∷ ws) (s ∷ ss) a b = ap suc (records_length ms ws ss (omega arith) (omega arith))

pub records_at : (ms ws ss : List ℕ) → length ws ≡ length ms → length ss ≡ length ms → (i : ℕ) → i < length ms
    → at (records_of ms ws ss) i ≡ record_of (get_or ms i 0) (get_or ws i 0) (get_or ss i 0)
unfolding records_of
records_at [] ws ss a b i l = absurd (omega arith)
records_at (m ∷ ms) [] ss a b i l = absurd (omega arith)
records_at (m ∷ ms) (w ∷ ws) [] a b i l = absurd (omega arith)
records_at (m ∷ ms) (w ∷ ws) (s ∷ ss) a b zero l = refl
records_at (m ∷ ms) (w ∷ ws) (s ∷ ss) a b (suc i) l = records_at ms ws ss (omega arith) (omega arith) i (omega arith)

module _ (lim : Limits) (ms ws ss : List ℕ) (roles : ℕ) where
  -- arrays of several lengths: the count of the roles is refused first
  pub uneven_roles : one_length ms ws ss ≡ false → (r : Refusal) → roles_refused lim roles ≡ Err r → figures_of lim (Err r) ≡ report_of_arrays lim ms ws ss roles
  unfolding report_of_arrays
  uneven_roles e r = by_test (roles_broken lim roles) refl
    where
      by_test : (b : Bool) → roles_broken lim roles ≡ b → refused b Roles (Ok tt) ≡ Err r → figures_of lim (Err r) ≡ report_of_arrays lim ms ws ss roles
      by_test true f g = let q : r ≡ Roles = grind (arith, g) in rw (q, e, f)
      by_test false f g = absurd (grind (arith, g))

  pub uneven_records : one_length ms ws ss ≡ false → roles_refused lim roles ≡ Ok tt → figures_of lim (Err Records) ≡ report_of_arrays lim ms ws ss roles
  unfolding report_of_arrays
  uneven_records e = by_test (roles_broken lim roles) refl
    where
      by_test : (b : Bool) → roles_broken lim roles ≡ b → refused b Roles (Ok tt) ≡ Ok tt → figures_of lim (Err Records) ≡ report_of_arrays lim ms ws ss roles
      by_test true f g = absurd (grind (arith, g))
      by_test false f g = rw (e, f)

  pub even_is : one_length ms ws ss ≡ true → report_of lim (records_of ms ws ss) roles ≡ report_of_arrays lim ms ws ss roles
  unfolding report_of_arrays
  even_is e = rw e
