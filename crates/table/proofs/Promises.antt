-- Any two answers that meet the promise of `Table::sizes` are equal, and any two that meet that of `rules::check`. Assumes nothing.
use Prim.Native.Nat.{ℕ}
use mathlib.Core.List.{List}
use mathlib.Core.Path.{◌≡◌, refl, sym, ◌∙◌, ap}
use lib.Dec.{eqb}
use mathlib.Core.Bool.{cond}
use Rattle.std.specs.Prelude.{Result, Ok, Err, ⊤}
use Rattle.table.specs.Limits.{Limits}
use Rattle.table.specs.Check.{Verdict, Sizes, Checks}
use Rattle.table.specs.Refusals.{verdict_of}
use Rattle.table.specs.declared.refusal.Rule.{Rule}
use Rattle.table.specs.declared.refusal.Rule.TheVariants.{Words, Roles, Room, Kind, Field, Link, Named, Twice, Unbound, Unguarded, NoPart}
use Rattle.table.specs.declared.refusal.Refusal.{Refusal}

module _ (lim : Limits) (t : List ℕ) (roles : ℕ) (v w : Verdict) where
  pub one_sizes : Sizes lim t roles v → Sizes lim t roles w → v ≡ w
  one_sizes e f = e ∙ sym f

  pub one_check : Checks lim t roles v → Checks lim t roles w → v ≡ w
  one_check e f = e ∙ sym f

-- the rule that a number stands for
rule_of : ℕ → Rule
rule_of n =
    cond (eqb n 1) Words (cond (eqb n 2) Roles (cond (eqb n 3) Room (cond (eqb n 4) Kind (cond (eqb n 5) Field (cond (eqb n 6) Link (
    cond (eqb n 7) Named (cond (eqb n 8) Twice (cond (eqb n 9) Unbound (cond (eqb n 10) Unguarded NoPart)))))))))

-- the answer that a verdict stands for
answer_of : Verdict → Result ⊤ Refusal
answer_of v = cond (eqb v.number 0) (Ok _) (Err (record { rule = rule_of v.number; place = v.place }))

answer_again : (r : Result ⊤ Refusal) → answer_of (verdict_of r) ≡ r
unfolding answer_of rule_of
answer_again (Ok u) = refl
answer_again (Err e) = refused e.rule e.place
  where
    refused : (rule : Rule) (at : ℕ) → answer_of (verdict_of (Err (record { rule = rule; place = at }))) ≡ Err (record { rule = rule; place = at })
    refused Words at = refl
    refused Roles at = refl
    refused Room at = refl
    refused Kind at = refl
    refused Field at = refl
    refused Link at = refl
    refused Named at = refl
    refused Twice at = refl
    refused Unbound at = refl
    refused Unguarded at = refl
    refused NoPart at = refl

-- what an answer says determines it
pub one_answer : (r s : Result ⊤ Refusal) → verdict_of r ≡ verdict_of s → r ≡ s
one_answer r s e = sym (answer_again r) ∙ ap answer_of e ∙ answer_again s
