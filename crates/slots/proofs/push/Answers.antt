-- `slots::push` meets its contract. Assumes nothing.
use Rattle.std.proofs.Common.{◌*◌}
use native.Mathlib.Omega.{arith}
use borrow.Author.Tests.{lt-ltb}
use Rattle.slots.proofs.Queue.{sets-slot}
use Rattle.slots.proofs.push.Goals as goal

pub returns : goal.returns
returns g c =
    rw (c.put.ensures, c.slots_of-held.ensures, lt-ltb c.args.pair 64 c.if-pair-ge-PAIRS.false, lt-ltb c.args.slot 4 c.if-slot-ge-DEPTH.false)
    (sets-slot c.args.column.now (c.args.pair * 4) c.args.slot c.args.word (omega arith) c.if-slot-ge-DEPTH.false)
