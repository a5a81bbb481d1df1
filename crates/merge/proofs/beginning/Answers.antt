-- `merge::beginning` meets its contract. Assumes nothing.
use mathlib.Core.Bool.{true, false}
use mathlib.Core.Path.{sym, refl, ◌∙◌}
use Rattle.merge.proofs.Steps.{begin_none, begin_by}
use Rattle.merge.proofs.beginning.Goals as goal
use Rattle.merge.proofs.beginning.Goals.{else-closes-via-then-closes+else-closes-2, else-closes-via-else-closes}

pub returns-then-marks-eq0 : goal.returns-then-marks-eq0
returns-then-marks-eq0 c = begin_none _ _ _ _ c.in_common-common.ensures c.if-marks-eq0.true

pub returns-then-closes-2 : goal.returns-then-closes-2
returns-then-closes-2 c =
    begin_by _ _ _ _ true true c.in_common-common.ensures (sym c.if-closes.true ∙ c.closes.ensures ∙ rw c.behind.ensures.0)
    (sym c.if-closes-2.true ∙ c.closes-then-closes.ensures ∙ rw c.behind-then-closes.ensures.0)

pub returns : goal.returns
returns c =
    elim c.else-closes.branch [
      | else-closes-via-then-closes+else-closes-2 w ↦ begin_by _ _ _ _ true false c.in_common-common.ensures (sym w.if-closes.true ∙ c.closes.ensures ∙ rw c.behind.ensures.0) (sym w.if-closes-2.false ∙ w.closes-then-closes.ensures ∙ rw w.behind-then-closes.ensures.0)
      | else-closes-via-else-closes w ↦ begin_by _ _ _ _ false _ c.in_common-common.ensures (sym w.if-closes.false ∙ c.closes.ensures ∙ rw c.behind.ensures.0) refl
    ]
