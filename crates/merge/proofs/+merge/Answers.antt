-- `merge::merge` meets its contract, by one law a rule. The measure is the number of rows left. Assumes nothing.
use mathlib.Core.Path.{sym, ◌∙◌}
use native.Mathlib.Omega.{arith}
use Rattle.merge.proofs.Steps.{step_left, no_step, leaf, inner, first, second, both}
use Rattle.merge.proofs.+merge.Goals as goal
use Rattle.merge.proofs.+merge.Goals.{in-First, in-Second, in-Both}

pub returns-in_default : goal.returns-in_default
returns-in_default t c =
    let e = c.in_default.ensures in
    rw e.2 (no_step _ _ _ _ _ _ _ _ (e.0, e.1))

pub returns-in-Leaf : goal.returns-in-Leaf
returns-in-Leaf t c = let e = c.in-Some.ensures in leaf _ _ _ _ _ _ _ _ _ _ (e.0, e.1) c.in-Leaf.is

pub merge-requires : goal.merge-requires
merge-requires t c = (omega (arith, step_left _ _ _ _ _ _ _ c.in-Some.ensures.0), tt)

pub returns-in-Inside : goal.returns-in-Inside
returns-in-Inside t c = let e = c.in-Some.ensures in inner _ _ _ _ _ _ _ _ _ _ (e.0, e.1) c.in-Inside.is c.merge.ensures

pub merge-whole-requires : goal.merge-whole-requires
merge-whole-requires t c = (omega (arith, step_left _ _ _ _ _ _ _ c.in-Some.ensures.0), tt)

pub merge-rest-requires : goal.merge-rest-requires
merge-rest-requires t c = (omega (arith, step_left _ _ _ _ _ _ _ c.in-Some.ensures.0), tt)

pub returns-then-whole : goal.returns-then-whole
returns-then-whole t c =
    let e = c.in-Some.ensures in
    elim c.match-rule.branch [
      | in-First w ↦ first _ _ _ _ _ _ _ _ _ _ (e.0, e.1) w.in-First.is w.copy-whole.ensures (rw (w.rows-is, w.out-is) at c.merge-rest.ensures) (rw (sym w.whole-is ∙ c.if-whole.true))
      | in-Second w ↦ second _ _ _ _ _ _ _ _ _ _ (e.0, e.1) w.in-Second.is w.copy-whole-in-Second.ensures (rw (w.rows-is, w.out-is) at c.merge-rest.ensures) (rw (sym w.whole-is ∙ c.if-whole.true))
      | in-Both w ↦ both _ _ _ _ _ _ _ _ _ _ (e.0, e.1) w.in-Both.is w.merge-whole.ensures (rw (w.rows-is, w.out-is) at c.merge-rest.ensures) (rw (sym w.whole-is ∙ c.if-whole.true))
    ]

pub returns-else-whole : goal.returns-else-whole
returns-else-whole t c =
    let e = c.in-Some.ensures in
    elim c.match-rule.branch [
      | in-First w ↦ first _ _ _ _ _ _ _ _ _ _ (e.0, e.1) w.in-First.is w.copy-whole.ensures (rw (w.rows-is, w.out-is) at c.merge-rest.ensures) (rw (c.if-whole.false, sym w.whole-is ∙ c.if-whole.false))
      | in-Second w ↦ second _ _ _ _ _ _ _ _ _ _ (e.0, e.1) w.in-Second.is w.copy-whole-in-Second.ensures (rw (w.rows-is, w.out-is) at c.merge-rest.ensures) (rw (c.if-whole.false, sym w.whole-is ∙ c.if-whole.false))
      | in-Both w ↦ both _ _ _ _ _ _ _ _ _ _ (e.0, e.1) w.in-Both.is w.merge-whole.ensures (rw (w.rows-is, w.out-is) at c.merge-rest.ensures) (rw (c.if-whole.false, sym w.whole-is ∙ c.if-whole.false))
    ]
