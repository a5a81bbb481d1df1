-- `orders::tables::set` meets its contract. Assumes nothing.
use mathlib.Core.Path.{◌≡◌, refl, sym, ◌∙◌}
use native.Mathlib.Omega.{arith}
use lib.ListN.{drop}
use Rattle.orders.specs.Orders.{number}
use Rattle.orders.proofs.Settings.{set_short, set_wide, set_told}
use Rattle.orders.proofs.tables.set.Goals as goal

pub returns-in_err-roles : goal.returns-in_err-roles
returns-in_err-roles c = rw c.from_residual.ensures (set_short _ _ c.in_err-roles.ensures.cases, refl)

pub returns-then-not-narrow : goal.returns-then-not-narrow
returns-then-not-narrow c =
    let split = c.in_ok-roles.ensures.cases in
    let behind : c.in_ok-roles.words.now ≡ drop 1 c.args.numbers.now = rw split.0 in
    set_wide c.args.run c.args.numbers.now c.args.tables.now (omega (arith, split.1)) behind c.narrow.ensures.1 c.requires c.told-tables (sym c.narrow.ensures.0 ∙ c.if-not-narrow.true)

pub returns : goal.returns
returns c =
    let split = c.in_ok-roles.ensures.cases in
    let behind : c.in_ok-roles.words.now ≡ drop 1 c.args.numbers.now = rw split.0 in
    let roles : c.in_ok-roles.roles.now ≡ number c.args.numbers.now 0 = rw split.0 in
    set_told c.args.run c.args.numbers.now c.args.tables.now (omega (arith, split.1)) behind c.narrow.ensures.1 c.tell.result
    (sym c.narrow.ensures.0 ∙ c.if-not-narrow.false) c.cut.ensures.items roles (c.from.ensures ∙ (c.number.ensures ∙ rw (← c.fresh-fresh.ensures))) c.tell.ensures refl
