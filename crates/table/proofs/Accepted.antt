-- What is known of a table that the check accepts: it keeps rules 1 and 2, and no row of it breaks one of rules 4 to 10. Assumes nothing.
use Prim.Native.Nat.{ℕ, ◌<◌}
use mathlib.Core.Bool.{Bool, true, false, cond}
use mathlib.Core.List.{List, ◌∷◌}
use mathlib.Core.Path.{◌≡◌, refl, ap}
use lib.Dec.{ltb}
use native.Mathlib.Omega.{arith}
use borrow.Author.Tests.{lt-ltb, le-ltb}
use Rattle.words.specs.Rows.{rows_of}
use Rattle.words.specs.Below.{lowest}
use Rattle.words.proofs.Below.{Lowest, found, nowhere, lowest_is}
use Rattle.table.specs.Limits.{Limits}
use Rattle.table.specs.Numbers.{WORDS, ROLES}
use Rattle.table.specs.Rows.{row}
use Rattle.table.specs.Rules.{Rule, kind, field, link, named, twice, unbound, unguarded, rules, number, breaks, words_broken, roles_broken, kind_broken, field_broken, link_broken, named_broken, twice_broken, unbound_broken, unguarded_broken}
use Rattle.table.specs.Check.{says, accepted, refused, tested, check_of}
use Rattle.table.specs.Check.{Verdict}
use Rattle.table.proofs.Sizes.{Sized, sizes_pass}

-- a table that keeps every rule of the check
pub record Obeys (lim : Limits) (t : List ℕ) (roles : ℕ) : Type 0 where
  pub sizes : Sized lim t roles
  pub kinds : (i : ℕ) → i < rows_of t → kind_broken (row t i) ≡ false
  pub fields : (i : ℕ) → i < rows_of t → field_broken lim roles (row t i) ≡ false
  pub links : (i : ℕ) → i < rows_of t → link_broken t i (row t i) ≡ false
  pub once : (i : ℕ) → i < rows_of t → named_broken t i ≡ false
  pub labels : (i : ℕ) → i < rows_of t → twice_broken t i (row t i) ≡ false
  pub bound : (i : ℕ) → i < rows_of t → unbound_broken t i (row t i) ≡ false
  pub guarded : (i : ℕ) → i < rows_of t → unguarded_broken t i (row t i) ≡ false

abbrev Keeps : Limits → List ℕ → ℕ → Rule → Type 0
Keeps lim t roles k = (i : ℕ) → i < rows_of t → breaks lim t roles k i ≡ false

refusal : (k : Rule) → 0 < number k
refusal kind = omega arith
refusal field = omega arith
refusal link = omega arith
refusal named = omega arith
refusal twice = omega arith
refusal unbound = omega arith
refusal unguarded = omega arith

passed : (k : Rule) (p : ℕ → Bool) (n i : ℕ) (rest : Verdict) → Lowest p n i → cond (ltb i n) (says (number k) i) rest ≡ accepted
    → ((j : ℕ) → j < n → p j ≡ false) × (rest ≡ accepted)
passed k p n i rest (found {i = j} l e h) q =
    let z : number k ≡ 0 = ap (λ v. v.number) (rw (lt-ltb j n l) at q) in
    let r = refusal k in
    absurd (omega arith)
passed k p n i rest (nowhere h) q = (h, rw (le-ltb n n (omega arith)) at q)

tested_first : (lim : Limits) (t : List ℕ) (roles : ℕ) (k : Rule) (ks : List Rule) → tested lim t roles (k ∷ ks) accepted ≡ accepted
    → Keeps lim t roles k × (tested lim t roles ks accepted ≡ accepted)
unfolding tested
tested_first lim t roles k ks e =
    passed k (breaks lim t roles k) (rows_of t) (lowest (breaks lim t roles k) (rows_of t)) (tested lim t roles ks accepted)
    (lowest_is (breaks lim t roles k) (rows_of t)) e

sized_first : (a b : Bool) (rest : Verdict) → refused WORDS a (refused ROLES b rest) ≡ accepted → (a ≡ false) × (b ≡ false) × (rest ≡ accepted)
sized_first true b rest e = let z : ◌≡◌ {A = ℕ} 1 0 = ap (λ v. v.number) e in absurd (omega arith)
sized_first false true rest e = let z : ◌≡◌ {A = ℕ} 2 0 = ap (λ v. v.number) e in absurd (omega arith)
sized_first false false rest e = (refl, refl, e)

pub obeys : (lim : Limits) (t : List ℕ) (roles : ℕ) → check_of lim t roles ≡ accepted → Obeys lim t roles
unfolding check_of breaks
obeys lim t roles e =
    let (a, b, e4) = sized_first (words_broken lim t) (roles_broken lim roles) (tested lim t roles rules accepted) e in
    let (k4, e5) = tested_first lim t roles kind _ e4 in
    let (k5, e6) = tested_first lim t roles field _ e5 in
    let (k6, e7) = tested_first lim t roles link _ e6 in
    let (k7, e8) = tested_first lim t roles named _ e7 in
    let (k8, e9) = tested_first lim t roles twice _ e8 in
    let (k9, e10) = tested_first lim t roles unbound _ e9 in
    let (k10, _) = tested_first lim t roles unguarded _ e10 in
    record {
      sizes = record { words = a; count = b };
      kinds = k4;
      fields = k5;
      links = k6;
      once = k7;
      labels = k8;
      bound = k9;
      guarded = k10;
    }

-- past rules 1 and 2 the check is rules 4 to 10
pub check_past_sizes : (lim : Limits) (t : List ℕ) (roles : ℕ) → Sized lim t roles → check_of lim t roles ≡ tested lim t roles rules accepted
unfolding check_of
check_past_sizes lim t roles s = sizes_pass lim t roles (tested lim t roles rules accepted) s
