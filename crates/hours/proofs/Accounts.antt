-- What the report of any log keeps: the figures add up, are 0 where it is refused, and fit where the minutes do. Assumes nothing.
use Prim.Native.Nat.{ℕ, zero, suc, ◌+◌, ◌-◌, ◌^◌, ◌≤◌, ◌<◌}
use mathlib.Core.Bool.{Bool, true, false, cond}
use mathlib.Core.List.{List, [], ◌∷◌}
use mathlib.Core.Logic.{◌≢◌}
use mathlib.Core.Path.{◌≡◌, refl, sym, subst}
use native.Mathlib.Omega.{arith}
use lib.Dec.{ltb}
use lib.ListN.{length, get_or, replicate}
use lib.Pow.{pow_pos}
use borrow.Author.Tests.{ltb-true, ltb-false}
use Rattle.words.specs.Below.{lowest}
use Rattle.words.proofs.Below.{Lowest, found, nowhere, lowest_is, sum_ext, sum_zero, sum_at}
use Rattle.words.proofs.Zeros.{zeros}
use Rattle.table.specs.Limits.{Limits}
use Rattle.table.specs.Rules.{roles_broken}
use Rattle.hours.specs.declared.Record.{Record}
use Rattle.hours.specs.Figures.{Figures}
use Rattle.hours.specs.Records.{at, spans, total, alone}
use Rattle.hours.specs.Report.{MOST, earlier, stray, each, refusal, figures, report_of}
use Rattle.hours.specs.Promises.{Reports}
use Rattle.hours.specs.Accounts.{parts, Minutes, Fits, Accounts}
use Rattle.hours.proofs.Each.{each_at, each_past}
use Rattle.hours.proofs.Minutes.{Rising, awake_asleep, awake_parts}

-- refused, with all figures 0; or the figures of a log in which no record is earlier than the one before
data Answered (lim : Limits) (rs : List Record) : Figures → Type 0 where
  refused : (n i : ℕ) → 0 < n → Answered lim rs (refusal lim n i)
  accepted : Rising rs → Answered lim rs (figures lim rs)

past : (p : ℕ → Bool) (n i : ℕ) → Lowest p n i → n ≤ i → (k : ℕ) → k < n → p k ≡ false
past p n i (found {i = j} l e h) m k q = absurd (omega arith)
past p n i (nowhere h) m k q = h k q

answered : (lim : Limits) (rs : List Record) (roles : ℕ) → Answered lim rs (report_of lim rs roles)
unfolding report_of
answered lim rs roles = by_tests (roles_broken lim roles) (ltb MOST n) (ltb (lowest (earlier rs) n) n) (ltb (lowest (stray roles rs) n) n) refl
  where
    n : ℕ
    n = length rs

    by_tests : (a b c d : Bool) → ltb (lowest (earlier rs) n) n ≡ c
        → Answered lim rs (cond a (refusal lim 2 0) (cond b (refusal lim 27 0)
        (cond c (refusal lim 28 (lowest (earlier rs) n)) (cond d (refusal lim 29 (lowest (stray roles rs) n)) (figures lim rs)))))
    by_tests true b c d e = refused 2 0 (omega arith)
    by_tests false true c d e = refused 27 0 (omega arith)
    by_tests false false true d e = refused 28 (lowest (earlier rs) n) (omega arith)
    by_tests false false false true e = refused 29 (lowest (stray roles rs) n) (omega arith)
    by_tests false false false false e =
        let h = past (earlier rs) n (lowest (earlier rs) n) (lowest_is (earlier rs) n) (ltb-false (lowest (earlier rs) n) n e) in
        accepted (λ k l. ltb-false (at rs (suc k)).minute (at rs k).minute (h (suc k) l))

module _ (lim : Limits) (rs : List Record) where
  adds_up : (f : Figures) → Answered lim rs f → f.awake + f.asleep ≡ f.total
  adds_up f (refused n i l) = refl
  adds_up f (accepted h) = awake_asleep rs h

  parts_of : (f : Figures) → Answered lim rs f → parts lim f ≡ f.awake
  parts_of f (refused n i l) =
      let a = sum_zero (λ k. get_or (replicate lim.roles 0) k 0) lim.roles (λ k m. zeros lim.roles k) in
      omega arith
  parts_of f (accepted h) =
      let each_one : ℕ → ℕ = λ k. alone lim k rs in
      let a = sum_ext (λ k. get_or (each each_one lim.roles) k 0) each_one lim.roles (λ k m. each_at each_one lim.roles k m) in
      omega (arith, a, awake_parts lim rs)

  zeros_of : (f : Figures) → Answered lim rs f → f.number ≢ 0 → f ≡ refusal lim f.number f.place
  zeros_of f (refused n i l) d = refl
  zeros_of f (accepted h) d = absurd (d refl)

  total_of : (f : Figures) → Answered lim rs f → f.number ≡ 0 → f.total ≡ total rs
  total_of f (refused n i l) e = absurd (omega arith)
  total_of f (accepted h) e = refl

  -- ---- no sum can wrap

  total_fits : (b : ℕ) → Minutes b rs → total rs < 2 ^ b
  total_fits b m = by_length (length rs) refl
    where
      by_length : (n : ℕ) → length rs ≡ n → total rs < 2 ^ b
      by_length zero e = let q : spans rs ≡ 0 = omega (arith, e) in rw q (omega (arith, pow_pos b))
      by_length (suc n) e = let l = m (spans rs) (omega (arith, e)) in omega (arith, l)

  total_below : (b : ℕ) → Minutes b rs → (f : Figures) → Answered lim rs f → f.total < 2 ^ b
  total_below b m f (refused n i l) = pow_pos b
  total_below b m f (accepted h) = total_fits b m

  none_past : (f : Figures) → Answered lim rs f → (k : ℕ) → lim.roles ≤ k → get_or f.alone k 0 ≡ 0
  none_past f (refused n i l) k m = zeros lim.roles k
  none_past f (accepted h) k m = each_past (λ j. alone lim j rs) lim.roles k m

  fits_of : (f : Figures) → Answered lim rs f → (b : ℕ) → Minutes b rs → Fits b f
  fits_of f d b m =
      let a = adds_up f d in
      let p = parts_of f d in
      let t = total_below b m f d in
      record {
        total = t;
        awake = omega (arith, a, t);
        asleep = omega (arith, a, t);
        alone = λ k. by_test k (ltb k lim.roles) refl;
        several = omega (arith, a, p, t);
        nobody = omega (arith, a, p, t);
      }
    where
      by_test : (k : ℕ) (c : Bool) → ltb k lim.roles ≡ c → get_or f.alone k 0 < 2 ^ b
      by_test k true e =
          let s = sum_at (λ j. get_or f.alone j 0) lim.roles k (ltb-true k lim.roles e) in
          omega (arith, s, parts_of f d, adds_up f d, total_below b m f d)
      by_test k false e = rw (none_past f d k (ltb-false k lim.roles e)) (pow_pos b)

  pub accounts : (roles : ℕ) (f : Figures) → Reports lim rs roles f → Accounts lim rs f
  accounts roles f e =
      let d = subst (Answered lim rs) (sym e) (answered lim rs roles) in
      record { first_to_last = total_of f d; awake_asleep = adds_up f d; awake_parts = parts_of f d; refused = zeros_of f d; fits = fits_of f d }

-- ---- last less first, in other words

pub total_none : total [] ≡ 0
total_none = refl

pub final : Record → List Record → Record
final r [] = r
final r (s ∷ ss) = final s ss

at_final : (r : Record) (rs : List Record) → at (r ∷ rs) (length rs) ≡ final r rs
unfolding final
at_final r [] = refl
at_final r (s ∷ ss) = at_final s ss

pub total_some : (r : Record) (rs : List Record) → total (r ∷ rs) ≡ (final r rs).minute - r.minute
total_some r rs = let p : suc (length rs) - 1 ≡ length rs = omega arith in rw (p, at_final r rs)
