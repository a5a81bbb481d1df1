-- `lines::fit::wide` meets its contract: the words that are left, stored from the place reached on, are all of them stored from `at` on. Assumes nothing.
use Prim.Native.Nat.{◌+◌, ◌<◌}
use mathlib.Core.Path.{◌≡◌, refl, ◌∙◌}
use native.Mathlib.Nat.{add_assoc, add-zero}
use native.Mathlib.Omega.{arith}
use lib.ListN.{get_or, length-set, length-take}
use Rattle.std.proofs.Common.{get_or-take}
use Rattle.lines.specs.Over.{behind}
use Rattle.lines.proofs.Stores.{stored, finished}
use Rattle.lines.proofs.fit.wide.Goals as goal

pub loop-i-init : goal.loop-i-init
loop-i-init c = (refl, rw (add-zero c.args.at))

pub bounds-out-at : goal.bounds-out-at
bounds-out-at c = omega (arith, length-take c.min-count.result c.args.words.now)

pub overflow_add-out : goal.overflow_add-out
overflow_add-out c = omega (arith, length-take c.min-count.result c.args.words.now)

pub loop-i-preserved : goal.loop-i-preserved
loop-i-preserved c =
    let was = c.loop-i in
    let start = c.args in
    let few = length-take c.min-count.result start.words.now in
    let here : was.i < c.min-count.result = omega (arith, few) in
    let word : c.from.result ≡ get_or start.words.now was.i 0 = c.from.ensures ∙ get_or-take c.min-count.result start.words.now was.i 0 here in
    let more = stored start.words.now was.out (start.at + was.i) was.i (omega (arith, few)) in
    (simp length-set was.invariant.0, rw (word, ← (add_assoc start.at was.i 1)) (more ∙ was.invariant.1))

pub returns : goal.returns
unfolding behind
returns c =
    let was = c.loop-i in
    let start = c.args in
    let few = length-take c.min-count.result start.words.now in
    (omega arith, finished start.words.now was.out _ (start.at + was.i) was.i start.at was.invariant.1 (λ l. omega (arith, few)))
