-- `merge::part_len` meets its contract. Assumes nothing.
use mathlib.Core.Path.{sym, ◌∙◌}
use native.Mathlib.Omega.{arith}
use Rattle.merge.proofs.Ends.{ends_turn, ends_done, ends_out}
use Rattle.merge.proofs.part_len.Goals as goal

pub returns-then-owed-eq0-clause-value : goal.returns-then-owed-eq0-clause-value
returns-then-owed-eq0-clause-value c =
    let i = c.loop-i.invariant in
    let t = ends_turn _ _ _ _ c.loop-i-test.true i.0 c.kids.ensures.0 in
    sym (i.2 ∙ rw c.if-owed-eq0.true at t ∙ ends_done _ _)

pub loop-i-preserved : goal.loop-i-preserved
loop-i-preserved c =
    let i = c.loop-i.invariant in
    (omega arith, omega arith, i.2 ∙ ends_turn _ _ _ _ c.loop-i-test.true i.0 c.kids.ensures.0)

pub returns-clause-value : goal.returns-clause-value
returns-clause-value c =
    let i = c.loop-i.invariant in
    sym (i.2 ∙ ends_out _ _ _ c.loop-i-test.false i.0)
