-- What an accepted opening says: the table's rules hold, and every role has a part. Assumes nothing.
use Prim.Native.Nat.{ℕ, ◌*◌, ◌≤◌, ◌<◌}
use mathlib.Core.Bool.{Bool, true, false, cond, not, true≢false}
use mathlib.Core.List.{List, [], ◌∷◌}
use mathlib.Core.Logic.{◌≢◌}
use mathlib.Core.Option.{Option, none, some}
use mathlib.Core.Path.{◌≡◌, refl, sym, ◌∙◌, ap}
use native.Mathlib.Omega.{arith}
use lib.Dec.{ltb}
use lib.ListN.{length}
use borrow.Author.Tests.{lt-ltb}
use Rattle.words.specs.Below.{lowest}
use Rattle.words.specs.Rows.{rows_of}
use Rattle.words.proofs.Below.{Lowest, found, nowhere, lowest_is}
use Rattle.table.specs.Limits.{Limits}
use Rattle.table.specs.Numbers.{WORDS, ROLES, ROOM, NOPART}
use Rattle.table.specs.Rules.{Rule, kind, field, link, named, twice, unbound, unguarded, rules, number, breaks, words_broken, roles_broken}
use Rattle.table.specs.Check.{says, accepted, refused, refused_at, tested, check_of}
use Rattle.table.specs.Check.{Verdict}
use Rattle.table.proofs.Sizes.{measured}
use Rattle.parts.specs.Part.{Part}
use Rattle.parts.specs.Projection.{part_of, present}
use Rattle.opening.specs.Opening.{open_of}

-- a test that refuses was not met
passed : (n at : ℕ) (b : Bool) (rest : Verdict) → n ≢ 0 → cond b (says n at) rest ≡ accepted → (b ≡ false) × (rest ≡ accepted)
passed n at true rest h e = absurd (h (ap (λ v. v.number) e))
passed n at false rest h e = (refl, e)

pub number_some : (k : Rule) → number k ≢ 0
number_some kind e = omega arith
number_some field e = omega arith
number_some link e = omega arith
number_some named e = omega arith
number_some twice e = omega arith
number_some unbound e = omega arith
number_some unguarded e = omega arith

tests_passed : (lim : Limits) (t : List ℕ) (roles : ℕ) (ks : List Rule) (rest : Verdict) → tested lim t roles ks rest ≡ accepted
    → (tested lim t roles ks accepted ≡ accepted) × (rest ≡ accepted)
unfolding tested
tests_passed lim t roles [] rest e = (refl, e)
tests_passed lim t roles (k ∷ ks) rest e =
    let at = lowest (breaks lim t roles k) (rows_of t) in
    let (a, b) = passed (number k) at (ltb at (rows_of t)) (tested lim t roles ks rest) (number_some k) e in
    let (c, d) = tests_passed lim t roles ks rest b in
    (rw a c, d)

none_found : {p : ℕ → Bool} {n i : ℕ} → Lowest p n i → ltb i n ≡ false → (k : ℕ) → k < n → p k ≡ false
none_found {n = n} (found {i = i} less e h) f k h' = absurd (true≢false (sym (lt-ltb i n less) ∙ f))
none_found (nowhere h) f k h' = h k h'

the_part : (o : Option Part) → not (present o) ≡ false → (P : Part) × (o ≡ some P)
the_part none e = absurd (true≢false e)
the_part (some P) e = (P, refl)

pub record Opened (lim : Limits) (t : List ℕ) (roles : ℕ) : Type 0 where
  pub some_row : 0 < rows_of t
  pub whole : rows_of t * 4 ≡ length t
  pub few_rows : rows_of t ≤ lim.rows
  pub some_roles : 2 ≤ roles
  pub few_roles : roles ≤ lim.roles
  pub roles_kept : roles_broken lim roles ≡ false
  pub checked : check_of lim t roles ≡ accepted
  pub parts : (r : ℕ) → r < roles → (P : Part) × (part_of t r ≡ some P)

pub opened : (lim : Limits) (t : List ℕ) (roles room : ℕ) → open_of lim t roles room ≡ accepted → Opened lim t roles
unfolding open_of check_of
opened lim t roles room e =
    let rest₃ = refused_at NOPART (λ r. not (present (part_of t r))) roles accepted in
    let rest₂ = tested lim t roles rules rest₃ in
    let rest₁ = refused ROOM (ltb room (roles * length t)) rest₂ in
    let (words, e₁) = passed WORDS 0 (words_broken lim t) (refused ROLES (roles_broken lim roles) rest₁) (λ h. omega arith) e in
    let (roles_ok, e₂) = passed ROLES 0 (roles_broken lim roles) rest₁ (λ h. omega arith) e₁ in
    let (room_ok, e₃) = passed ROOM 0 (ltb room (roles * length t)) rest₂ (λ h. omega arith) e₂ in
    let (rules_ok, e₄) = tests_passed lim t roles rules rest₃ e₃ in
    let least = lowest (λ r. not (present (part_of t r))) roles in
    let (parts_ok, e₅) = passed NOPART least (ltb least roles) accepted (λ h. omega arith) e₄ in
    let m = measured lim t roles (record { words = words; count = roles_ok }) in
    record {
      some_row = m.some;
      whole = sym m.whole;
      few_rows = m.few;
      some_roles = m.least;
      few_roles = m.most;
      roles_kept = roles_ok;
      checked = rw (words, roles_ok) rules_ok;
      parts = λ r h. the_part (part_of t r) (none_found (lowest_is (λ r. not (present (part_of t r))) roles) parts_ok r h);
    }
