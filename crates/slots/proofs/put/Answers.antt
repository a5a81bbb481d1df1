-- `slots::put` meets its contract. Assumes nothing.
use Rattle.std.proofs.Common.{rules, sym, ◌≡◌, ◌*◌, ◌+◌, ◌-◌}
use native.Mathlib.Omega.{arith}
use Rattle.slots.proofs.Queue.{sets-four}
use Rattle.slots.proofs.put.Goals as goal

pub returns : goal.returns
returns g c =
    let four : c.args.pair * 4 + 4 - c.args.pair * 4 ≡ 4 = omega arith in
    rw (four, c.copy_from_slice.ensures.after) (sym (sets-four c.args.column.now (c.args.pair * 4) c.args.held (omega arith) (search rules)))
