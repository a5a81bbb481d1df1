-- `logs::shown::show` meets its contract. Assumes nothing.
use Prim.Native.Nat.{◌+◌}
use mathlib.Core.Path.{◌≡◌}
use native.Mathlib.Omega.{arith}
use borrow.Author.Rules.{rules}
use lib.ListN.{length}
use Rattle.table.specs.Limits.{base}
use Rattle.logs.proofs.Telling.{text_put}
use Rattle.logs.proofs.shown.show.Goals as goal

pub returns : goal.returns
returns c =
    let e = c.told.ensures in
    let text = c.text.ensures in
    let long : length c.told.result ≡ 7 + base.roles = search rules in
    rw (← e) (text_put c.told.result c.args.text.now _ _ (omega (arith, long, c.requires.1)) text.1 text.2)
