-- Any two answers that meet a report's promise are equal. Assumes nothing.
use Prim.Native.Nat.{ℕ}
use mathlib.Core.Bool.{cond}
use mathlib.Core.List.{List}
use mathlib.Core.Path.{◌≡◌, refl, sym, ap, ◌∙◌}
use lib.Dec.{eqb}
use Rattle.std.proofs.Common.{Result, Ok, Err}
use Rattle.table.specs.Numbers.{ACCEPTED, ROLES}
use Rattle.hours.specs.Report.{RECORDS, MINUTE}
use Rattle.hours.specs.Said.{figures_of}
use Rattle.hours.specs.declared.Figures.{Figures as Accepted}
use Rattle.hours.specs.declared.refusal.Refusal.{Refusal}
use Rattle.hours.specs.declared.refusal.Refusal.TheVariants.{Roles, Records, Minute, Set}
use Rattle.table.specs.Limits.{Limits}
use Rattle.hours.specs.Promises.{Reports, ReportsArrays}
use Rattle.hours.specs.declared.Record.{Record}
use Rattle.hours.specs.Figures.{Figures}

pub one_report : (lim : Limits) (rs : List Record) (roles : ℕ) (f g : Figures) → Reports lim rs roles f → Reports lim rs roles g → f ≡ g
one_report lim rs roles f g d e = d ∙ sym e

pub one_report_of_arrays : (lim : Limits) (ms ws ss : List ℕ) (roles : ℕ) (f g : Figures)
    → ReportsArrays lim ms ws ss roles f → ReportsArrays lim ms ws ss roles g → f ≡ g
one_report_of_arrays lim ms ws ss roles f g d e = d ∙ sym e

-- ---- what an answer says determines it

answer_by : Figures → Result Accepted Refusal
answer_by f =
    cond (eqb f.number ACCEPTED) (Ok (record { total = f.total; awake = f.awake; asleep = f.asleep; alone = f.alone; several = f.several; nobody = f.nobody })) (
    cond (eqb f.number ROLES) (Err Roles) (
    cond (eqb f.number RECORDS) (Err Records) (
    cond (eqb f.number MINUTE) (Err (Minute f.place)) (
    Err (Set f.place)))))

answer_is : (lim : Limits) (x : Result Accepted Refusal) → answer_by (figures_of lim x) ≡ x
unfolding answer_by
answer_is lim (Ok f) = refl
answer_is lim (Err Roles) = refl
answer_is lim (Err Records) = refl
answer_is lim (Err (Minute i)) = refl
answer_is lim (Err (Set i)) = refl

pub one_answer : (lim : Limits) (x y : Result Accepted Refusal) → figures_of lim x ≡ figures_of lim y → x ≡ y
one_answer lim x y e = sym (answer_is lim x) ∙ ap answer_by e ∙ answer_is lim y
