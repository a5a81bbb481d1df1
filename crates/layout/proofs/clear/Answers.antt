-- `layout::clear` meets its contract. The loop's invariant: the rows passed hold zeros. Assumes nothing.
use Prim.Native.Nat.{◌+◌, ◌-◌}
use mathlib.Core.Path.{refl}
use native.Mathlib.Omega.{arith}
use borrow.Author.Rules.{rules}
use Rattle.layout.proofs.Lays.{clear_none, clear_more}
use Rattle.layout.proofs.clear.Goals as goal

pub loop-row-init : goal.loop-row-init
loop-row-init c = let a = c.args in (clear_none a.out.now (a.from + a.first) _ (omega arith), omega arith, omega arith, refl)

pub loop-row-preserved : goal.loop-row-preserved
loop-row-preserved c =
    let a = c.args in
    let row = c.loop-row.row in (
      clear_more a.out.now (a.from + a.first) (row - a.first) (row + 1 - a.first) (a.from + row) _ _
          c.loop-row.invariant.0 c.put_row.ensures (omega arith) (omega arith),
      omega arith,
      omega arith,
      search rules,
    )
