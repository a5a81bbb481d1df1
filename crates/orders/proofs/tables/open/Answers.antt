-- `orders::tables::open` meets its contract. Assumes nothing.
use mathlib.Core.Path.{refl, sym, ◌∙◌}
use Prim.Native.Nat.{ℕ}
use lib.ListN.{length-replicate}
use Rattle.orders.proofs.Lists.{all_behind}
use Rattle.orders.proofs.Settings.{open_short, open_wide, open_told}
use Rattle.orders.proofs.tables.open.Goals as goal

pub returns-in_default : goal.returns-in_default
returns-in_default c = (open_short _ _ c.in_default.len_below, refl)

pub returns-then-not-narrow : goal.returns-then-not-narrow
returns-then-not-narrow c =
    let table = all_behind 2 c.args.numbers.now in
    (open_wide _ _ c.in-len2-up.len_at_least _ _ table c.requires (length-replicate {A = ℕ} 65536 0) (sym c.narrow.ensures.0 ∙ c.if-not-narrow.true), refl)

pub returns : goal.returns
returns c =
    let table = all_behind 2 c.args.numbers.now in
    let words = c.narrow.ensures in
    open_told _ _ c.in-len2-up.len_at_least _ _ table (sym words.0 ∙ c.if-not-narrow.false) words.1 c.cut-table.ensures.items refl refl c.open_table.ensures
