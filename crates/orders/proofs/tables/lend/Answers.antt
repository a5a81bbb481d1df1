-- `orders::tables::lend` meets its contract. Assumes nothing.
use native.Mathlib.Omega.{arith}
use mathlib.Core.Path.{◌≡◌}
use Prim.Native.Nat.{min}
use lib.ListN.{length, take, length-take}
use Rattle.orders.proofs.Openings.{lent_verdict, lent_blocks, on_accepted}
use borrow.Author.Rules.{rules}
use Rattle.orders.proofs.tables.lend.Goals as goal

pub returns : goal.returns
returns c =
    let opens = c.open.ensures in
    let lent : length (take c.min-lent.result c.args.tables.now) ≡ min c.args.room 8192 = simp length-take (omega (arith)) in
    let same : length c.open.new.room ≡ length (take c.min-lent.result c.args.tables.now) = search rules in
    (lent_verdict _ _ _ _ _ _ opens.0 lent opens.1 same, on_accepted c.open.result (λ z. lent_blocks _ _ _ _ _ _ opens.0 lent opens.1 same z _))
