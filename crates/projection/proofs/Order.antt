-- Rules tested one after the other: what is known where none of them refused, and that what one refused stays refused. Assumes nothing.
use Prim.Native.Nat.{ℕ, ◌≤◌, ◌<◌}
use mathlib.Core.Bool.{Bool, true, false, cond, not}
use mathlib.Core.List.{List, [], ◌∷◌}
use mathlib.Core.Path.{◌≡◌, refl, sym, ◌∙◌, ap}
use native.Mathlib.Omega.{arith}
use lib.Dec.{ltb}
use borrow.Author.Tests.{ltb-false, not-false}
use Rattle.words.specs.Below.{lowest}
use Rattle.words.specs.Rows.{rows_of}
use Rattle.words.proofs.Below.{Lowest, found, nowhere, lowest_is}
use Rattle.table.specs.Limits.{Limits, base}
use Rattle.table.specs.Numbers.{WORDS, ROLES, NOPART}
use Rattle.table.specs.Rules.{Rule, kind, field, link, named, twice, unbound, unguarded, rules, number, breaks, words_broken, roles_broken}
use Rattle.table.specs.Check.{Verdict, says, accepted, refused, refused_at, sized, tested, check_of}
use Rattle.table.specs.Refusals.{verdict_of}
use Rattle.table.proofs.Refusals.{some_number}
use Rattle.table.specs.declared.refusal.Refusal.{Refusal}
use Rattle.std.specs.Prelude.{Result, Ok, Err, OnOk, ⊤}
use Rattle.parts.specs.mirror.Stands.{Stands}
use Rattle.parts.specs.Projection.{part_of, present}
use Rattle.projection.specs.mirror.Projects.{Parted, parts_words, parts_of, Complete}

-- what tests rules before a rest either hands on to it, or refuses by a rule before the eleventh and never looks at it
pub data Stage (test : Verdict → Verdict) : Type 0 where
  hands_on : ((rest : Verdict) → test rest ≡ rest) → Stage test
  refuses : (n at : ℕ) → 0 < n → n < NOPART → ((rest : Verdict) → test rest ≡ says n at) → Stage test

pub stage_cond : (n at : ℕ) (b : Bool) → 0 < n → n < NOPART → Stage (λ rest. cond b (says n at) rest)
stage_cond n at true p q = refuses n at p q (λ rest. refl)
stage_cond n at false p q = hands_on (λ rest. refl)

-- one test after another
pub stage_both : (f g : Verdict → Verdict) → Stage f → Stage g → Stage (λ rest. f (g rest))
stage_both f g (refuses n at p q h) G = refuses n at p q (λ rest. h (g rest))
stage_both f g (hands_on h) (hands_on k) = hands_on (λ rest. h (g rest) ∙ k rest)
stage_both f g (hands_on h) (refuses n at p q k) = refuses n at p q (λ rest. h (g rest) ∙ k rest)

pub goes_on : {test : Verdict → Verdict} → Stage test → (test accepted).number ≡ 0 → (rest : Verdict) → test rest ≡ rest
goes_on (hands_on h) e = h
goes_on (refuses n at p q h) e = absurd (omega (arith, ap (λ (v : Verdict). v.number) (h accepted)))

pub stays : {test : Verdict → Verdict} → Stage test → ((test accepted).number ≡ 0 → ⊥) → (rest : Verdict) → test rest ≡ test accepted
stays (hands_on h) e = absurd (e (ap (λ (v : Verdict). v.number) (h accepted)))
stays (refuses n at p q h) e = λ rest. h rest ∙ sym (h accepted)

rule_number : (k : Rule) → (0 < number k) × (number k < NOPART)
rule_number kind = (omega arith, omega arith)
rule_number field = (omega arith, omega arith)
rule_number link = (omega arith, omega arith)
rule_number named = (omega arith, omega arith)
rule_number twice = (omega arith, omega arith)
rule_number unbound = (omega arith, omega arith)
rule_number unguarded = (omega arith, omega arith)

pub tested_stage : (lim : Limits) (t : List ℕ) (roles : ℕ) (ks : List Rule) → Stage (tested lim t roles ks)
unfolding tested
tested_stage lim t roles [] = hands_on (λ rest. refl)
tested_stage lim t roles (k ∷ ks) =
    let at = lowest (breaks lim t roles k) (rows_of t) in
    let (p, q) = rule_number k in
    stage_both (refused_at (number k) (breaks lim t roles k) (rows_of t)) (tested lim t roles ks)
    (stage_cond (number k) at (ltb at (rows_of t)) p q) (tested_stage lim t roles ks)

-- rules 1 and 2, then those
pub sized_stage : (lim : Limits) (t : List ℕ) (roles : ℕ) (test : Verdict → Verdict) → Stage test → Stage (λ rest. sized lim t roles (test rest))
sized_stage lim t roles test s =
    stage_both (refused WORDS (words_broken lim t)) (λ rest. refused ROLES (roles_broken lim roles) (test rest))
    (stage_cond WORDS 0 (words_broken lim t) (omega arith) (omega arith))
    (stage_both (refused ROLES (roles_broken lim roles)) test (stage_cond ROLES 0 (roles_broken lim roles) (omega arith) (omega arith)) s)

-- role r lacks a part
abbrev lacks : List ℕ → ℕ → Bool
lacks t r = not (present (part_of t r))

-- rule 11, the last
abbrev parted : List ℕ → ℕ → Verdict
parted t roles = refused_at NOPART (lacks t) roles accepted

none_lacks : (p : ℕ → Bool) {n i : ℕ} → Lowest (λ r. not (p r)) n i → n ≤ i → (r : ℕ) → r < n → p r ≡ true
none_lacks p (found l e h) m r k = absurd (omega arith)
none_lacks p (nowhere h) m r l = not-false (p r) (h r l)

-- ---- the check, and rule 11 behind it

module _ (t : List ℕ) (roles : ℕ) where
  checking : Stage (λ rest. sized base t roles (tested base t roles rules rest))
  checking = sized_stage base t roles (tested base t roles rules) (tested_stage base t roles rules)

  -- what the check refused stays refused
  pub refused_early : (d : Refusal) → verdict_of (Err d) ≡ check_of base t roles → verdict_of (Err d) ≡ parts_of base t roles
  unfolding parts_of check_of
  refused_early d e =
      let some = some_number d.rule in
      e ∙ sym (stays checking (λ z. omega (arith, ap (λ (v : Verdict). v.number) e, z)) (parted t roles))

  module _ (e : check_of base t roles ≡ accepted) where
    by_parts : parts_of base t roles ≡ parted t roles
    unfolding parts_of check_of
    by_parts = goes_on checking (ap (λ (v : Verdict). v.number) e) (parted t roles)

    pub parted_verdict : {words : List ℕ} {r : Result ⊤ Refusal} → Parted t roles words r → verdict_of r ≡ parts_of base t roles
    parted_verdict p = p.lacks ∙ sym by_parts

    every_part : accepted ≡ parted t roles → (r : ℕ) → r < roles → present (part_of t r) ≡ true
    every_part h = go (ltb (lowest (lacks t) roles) roles) refl h
      where
        go : (b : Bool) → ltb (lowest (lacks t) roles) roles ≡ b → accepted ≡ cond b (says NOPART (lowest (lacks t) roles)) accepted
            → (r : ℕ) → r < roles → present (part_of t r) ≡ true
        go true f h = absurd (omega (arith, ap (λ (v : Verdict). v.number) h))
        go false f h = none_lacks (λ r. present (part_of t r)) (lowest_is (lacks t) roles) (ltb-false (lowest (lacks t) roles) roles f)

    pub parted_complete : {words : List ℕ} {r : Result ⊤ Refusal} → Parted t roles words r → OnOk r (Complete t roles words)
    parted_complete {words} {r} p = go r p.lacks p.stands
      where
        go : (r : Result ⊤ Refusal) → verdict_of r ≡ parted t roles → OnOk r (Stands words 0 (parts_words t roles)) → OnOk r (Complete t roles words)
        go (Ok u) h stands = record { checked = e; parts = every_part h; stand = stands }
        go (Err d) h stands = tt
