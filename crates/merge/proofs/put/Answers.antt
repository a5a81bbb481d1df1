-- `merge::put` meets its contract: the words that are left, put from the place reached on, are all of them put from `at` on. Assumes nothing.
use Prim.Native.Nat.{◌+◌, ◌<◌}
use mathlib.Core.Path.{◌≡◌, refl, ◌∙◌}
use native.Mathlib.Nat.{add_assoc, add-zero}
use native.Mathlib.Omega.{arith}
use lib.ListN.{take, length-set, length-take}
use Rattle.merge.proofs.Puts.{put_next, put_done}
use Rattle.merge.proofs.put.Goals as goal

pub loop-i-init : goal.loop-i-init
loop-i-init c = (refl, rw (add-zero c.args.at))

pub bounds-out-at : goal.bounds-out-at
bounds-out-at c = omega (arith, length-take c.min-count.result c.args.words.now)

pub overflow_add-out : goal.overflow_add-out
overflow_add-out c = omega (arith, length-take c.min-count.result c.args.words.now)

pub loop-i-preserved : goal.loop-i-preserved
loop-i-preserved c =
    let was = c.loop-i in
    let few = length-take c.min-count.result c.args.words.now in
    let more = put_next (take c.min-count.result c.args.words.now) was.out (c.args.at + was.i) was.i (omega (arith, few)) in
    (simp length-set was.invariant.0, rw (← (add_assoc c.args.at was.i 1)) (more ∙ was.invariant.1))

pub returns : goal.returns
returns c =
    let was = c.loop-i in
    let few = length-take c.min-count.result c.args.words.now in
    put_done _ _ was.out _ _ _ was.i c.saturating_sub.ensures c.min-count.ensures (omega (arith, few)) was.invariant.1
