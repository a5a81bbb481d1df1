-- `orders::tables::open_table` meets its contract. Assumes nothing.
use mathlib.Core.Path.{refl, sym, ◌∙◌, ap}
use native.Mathlib.Omega.{arith}
use Rattle.table.specs.Check.{Verdict}
use Rattle.orders.proofs.Openings.{place_small, few}
use Rattle.orders.proofs.Settings.{open_accepted, open_refused, rule_number}
use Rattle.orders.proofs.tables.open_table.Goals as goal

pub overflow_mul-words : goal.overflow_mul-words
overflow_mul-words c = omega (arith, few c.args.table.now c.args.roles c.args.room (sym (ap (λ (v : Verdict). v.number) c.in-Ok.ensures.0)))

pub overflow_cast-refusal : goal.overflow_cast-refusal
overflow_cast-refusal c =
    let place = ap (λ (v : Verdict). v.place) c.in-Err.ensures.0 in
    omega (arith, place, place_small c.args.table.now c.args.roles c.args.room)

pub returns-in-Ok : goal.returns-in-Ok
returns-in-Ok c = open_accepted c.args.run _ _ c.args.tables.now _ _ _ _ refl c.tell.ensures refl c.in-Ok.ensures.0 c.in-Ok.ensures.1

pub returns-in-Err : goal.returns-in-Err
returns-in-Err c =
    open_refused c.args.run _ _ c.args.tables.now _ _ _ _ _ refl (c.tell-in-Err.ensures ∙ rw (c.from.ensures, c.from-number.ensures)) (rule_number c.in-Err.refusal.rule) c.in-Err.ensures.0
