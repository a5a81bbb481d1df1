-- `rows::head` meets its contract. Assumes nothing.
use Rattle.std.proofs.Common.{◌≡◌, ◌-◌, ◌+◌, sym, ◌∙◌, suc, arith}
use Rattle.blocks.proofs.Walk.{onward_stays, step_at, on_at, Onward}
use Rattle.blocks.proofs.rows.head.Goals.{in-Loop, in-Loop-2}
use Rattle.blocks.proofs.rows.head.Goals as goal

pub returns-in_default : goal.returns-in_default
returns-in_default c =
    let e : c.args.rows - c.loop-step._step ≡ suc (c.args.rows - (c.loop-step._step + 1)) = omega arith in
    sym (c.loop-step.invariant ∙ step_at _ _ _ _ e c.row_in.ensures.0 ∙ onward_stays _ _ _ c.in_default.not-Loop c.in_default.not-Back)

pub loop-step-preserved : goal.loop-step-preserved
loop-step-preserved c =
    let e : c.args.rows - c.loop-step._step ≡ suc (c.args.rows - (c.loop-step._step + 1)) = omega arith in
    let o : Onward c.row_in.result c.match-row_in.at = elim c.match-row_in.branch [ in-Loop w ↦ rw w.at-is w.in-Loop.is | in-Loop-2 w ↦ rw w.at-is w.in-Loop.is ] in
    c.loop-step.invariant ∙ on_at _ _ _ _ _ e c.row_in.ensures.0 o
