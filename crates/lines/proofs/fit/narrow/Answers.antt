-- `lines::fit::narrow` meets its contract: the numbers that are left, stored from the place reached on, are all of them stored from the
-- start. Assumes nothing.
use Prim.Native.Nat.{◌+◌}
use mathlib.Core.Bool.{true}
use mathlib.Core.Path.{◌≡◌, ◌∙◌}
use native.Mathlib.Omega.{arith}
use lib.ListN.{length-set}
use Rattle.std.proofs.Math.Nat.{mod-eq_of_lt}
use Rattle.lines.specs.Over.{all_below}
use Rattle.lines.proofs.Below.{all_of, each_below, no_room, too_wide, all_fit}
use Rattle.lines.proofs.Stores.{stored, finished}
use Rattle.lines.proofs.fit.narrow.Goals as goal
use Rattle.lines.proofs.fit.narrow.Goals.{then-out-numbers-via-then-out-numbers, then-out-numbers-via-else-out-numbers+then-not-all_at_most}

pub returns-then-out-numbers : goal.returns-then-out-numbers
returns-then-out-numbers g c =
    let old = g.T.Width.numbers c.args.out.now in
    let long = g.met.T.Width.length_of_numbers c.args.out.now in
    elim c.then-out-numbers.branch [
      | then-out-numbers-via-then-out-numbers w ↦ no_room _ c.args.numbers.now old (omega (arith, long))
      | then-out-numbers-via-else-out-numbers+then-not-all_at_most w ↦
          too_wide _ c.args.numbers.now old (omega (arith, long)) (all_of _ _ _ _ w.MAX.ensures w.all_at_most.ensures w.if-not-all_at_most.true)
    ]

pub loop-i-preserved : goal.loop-i-preserved
loop-i-preserved g c =
    let was = c.loop-i in
    let t = g.met.T.Width in
    let more = stored c.args.numbers.now (g.T.Width.numbers was.out) was.i was.i c.loop-i-test.true in
    let all : all_below (g.T.Width.MAX + 1) c.args.numbers.now ≡ true = all_of _ _ _ _ c.MAX.ensures c.all_at_most.ensures c.if-not-all_at_most.false in
    let low = each_below (g.T.Width.MAX + 1) c.args.numbers.now c.loop-i.i all c.loop-i-test.true in
    (simp length-set was.invariant.0, rw (t.numbers_of_set was.out was.i c.wrapped.result, c.wrapped.ensures, mod-eq_of_lt low) (more ∙ was.invariant.1))

pub returns : goal.returns
returns g c =
    let was = c.loop-i in
    let t = g.met.T.Width in
    let all : all_below (g.T.Width.MAX + 1) c.args.numbers.now ≡ true = all_of _ _ _ _ c.MAX.ensures c.all_at_most.ensures c.if-not-all_at_most.false in
    let long = t.length_of_numbers c.args.out.now in
    let now = t.length_of_numbers was.out in
    let done = finished c.args.numbers.now (g.T.Width.numbers was.out) (g.T.Width.numbers c.args.out.now) was.i was.i 0 was.invariant.1 (λ l. omega arith) in
    all_fit _ _ _ _ (omega (arith, long)) all done
