-- Rules 4 to 10 in order: what the answer of one of them says of all. Assumes nothing.
use Prim.Native.Nat.{ℕ, ◌<◌, ◌≤◌}
use mathlib.Core.Bool.{Bool, true, false, cond, true≢false}
use mathlib.Core.List.{List, [], ◌∷◌}
use mathlib.Core.Path.{◌≡◌, refl, sym, ◌∙◌, ap}
use lib.Dec.{ltb}
use native.Mathlib.Omega.{arith}
use borrow.Author.Tests.{lt-ltb}
use Rattle.std.specs.Prelude.{Some, None, Result, Err, ⊤}
use Rattle.std.specs.Result.{IsErrAnd}
use Rattle.std.proofs.lemmas.Result.{err_from_is_err_and}
use Rattle.words.specs.Rows.{rows_of}
use Rattle.words.specs.Below.{lowest}
use Rattle.words.proofs.Below.{Lowest, found, nowhere, lowest_is}
use Rattle.table.specs.Limits.{base}
use Rattle.table.specs.Numbers.{TWICE, UNBOUND}
use Rattle.table.specs.Rows.{row}
use Rattle.table.specs.Rules.{Rule, kind, field, link, named, twice, unbound, unguarded, number, breaks, twice_broken}
use Rattle.table.specs.Check.{Verdict, says, accepted, refused_at, tested}
use Rattle.table.specs.Refusals.{verdict_of}
use Rattle.table.proofs.Refusals.{some_number}
use Rattle.table.specs.declared.refusal.Refusal.{Refusal}
use Rattle.table.specs.mirror.Names.{Rising}
use Rattle.table.proofs.Links.{rising}
use Rattle.rules.specs.mirror.Chain.{chain_of}
use Rattle.rules.specs.mirror.Blame.{IsLeast}
use Rattle.rules.proofs.Least.{least_refused, least_accepted}
use Rattle.rules.proofs.Repeats.{twice_sound, twice_complete}

rule_number : (k : Rule) → 0 < number k
rule_number kind = omega arith
rule_number field = omega arith
rule_number link = omega arith
rule_number named = omega arith
rule_number twice = omega arith
rule_number unbound = omega arith
rule_number unguarded = omega arith

-- refused: what comes after does not matter
stopped : (v : Verdict) (n at : ℕ) (b : Bool) (rest : Verdict) → 0 < v.number → v ≡ cond b (says n at) accepted → v ≡ cond b (says n at) rest
stopped v n at true rest h e = e
stopped v n at false rest h e = let z : v.number ≡ 0 = ap (λ w. w.number) e in absurd (omega arith)

-- accepted: it is what comes after that is the answer
not_below : (n at : ℕ) (b : Bool) → 0 < n → accepted ≡ cond b (says n at) accepted → b ≡ false
not_below n at true h e = let z : 0 ≡ n = ap (λ (w : Verdict). w.number) e in absurd (omega arith)
not_below n at false h e = refl

none_below : {p : ℕ → Bool} {n i : ℕ} → Lowest p n i → ltb i n ≡ false → (k : ℕ) → k < n → p k ≡ false
none_below {n = n} (found {i = i} l e h) z = absurd (true≢false (sym (lt-ltb i n l) ∙ z))
none_below (nowhere h) z = h

module _ (t : List ℕ) (roles : ℕ) where
  -- the answer of one rule
  abbrev pub Says : Rule → Verdict → Type 0
  Says k v = v ≡ refused_at (number k) (breaks base t roles k) (rows_of t) accepted

  abbrev pub Keeps : Rule → Type 0
  Keeps k = (i : ℕ) → i < rows_of t → breaks base t roles k i ≡ false

  abbrev over : Rule → Bool
  over k = ltb (lowest (breaks base t roles k) (rows_of t)) (rows_of t)

  pub refused : (k : Rule) (ks : List Rule) (v : Verdict) → 0 < v.number → Says k v → v ≡ tested base t roles (k ∷ ks) accepted
  unfolding tested
  refused k ks v h e = stopped v (number k) (lowest (breaks base t roles k) (rows_of t)) (over k) (tested base t roles ks accepted) h e

  -- what a `?` answers for a rule that is broken
  pub exits : (k : Rule) (ks : List Rule) (r : Result ⊤ Refusal) (e : Refusal) → IsErrAnd r (λ y. y ≡ e) → Says k (verdict_of (Err e))
      → verdict_of r ≡ tested base t roles (k ∷ ks) accepted
  exits k ks r e h s = let p = err_from_is_err_and r h in rw (p.1, p.2) (refused k ks (verdict_of (Err e)) (some_number e.rule) s)

  -- the last rule
  pub last : (k : Rule) (v : Verdict) → Says k v → v ≡ tested base t roles (k ∷ []) accepted
  unfolding tested
  last k v e = e

  pub passed : (k : Rule) (ks : List Rule) → Says k accepted → tested base t roles (k ∷ ks) accepted ≡ tested base t roles ks accepted
  unfolding tested
  passed k ks e = rw (not_below (number k) (lowest (breaks base t roles k) (rows_of t)) (over k) (rule_number k) e) refl

  kept : (k : Rule) → Says k accepted → Keeps k
  kept k e = none_below (lowest_is (breaks base t roles k) (rows_of t)) (not_below (number k) (lowest (breaks base t roles k) (rows_of t)) (over k) (rule_number k) e)

  -- past rules 6 and 7 each row but 0 is named by a lower one
  pub rising_past : Says link accepted → Says named accepted → Rising t
  unfolding breaks
  rising_past l n = rising t (kept link l) (kept named n)

  -- the same where the rules below one behind these are kept
  pub turn_rising : (n : ℕ) → ((k : Rule) → number k < n → Keeps k) → UNBOUND ≤ n → Rising t
  unfolding breaks
  turn_rising n k h = rising t (k link (omega arith)) (k named (omega arith))

  module _ (l : Says link accepted) (n : Says named accepted) where
    pub twice_found : (k : ℕ) → IsLeast (λ i. chain_of t (row t i)) (rows_of t) (Some k) → Says twice (says TWICE k)
    unfolding breaks
    twice_found k h =
        least_refused TWICE (rows_of t) (λ i. twice_broken t i (row t i)) (λ i. chain_of t (row t i)) (twice_sound t (kept link l) (kept named n))
        (twice_complete t (kept link l) (kept named n)) k h

    pub twice_none : IsLeast (λ i. chain_of t (row t i)) (rows_of t) None → Says twice accepted
    unfolding breaks
    twice_none h =
        least_accepted TWICE (rows_of t) (λ i. twice_broken t i (row t i)) (λ i. chain_of t (row t i)) (twice_sound t (kept link l) (kept named n))
        (twice_complete t (kept link l) (kept named n)) h
