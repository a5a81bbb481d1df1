-- `project`, `choose`, `own` and `fold` meet their contracts: each way that a call returns is a step of proofs/Steps.antt or of
-- proofs/Walks.antt. Assumes nothing.
use mathlib.Core.Path.{refl, ◌∙◌}
use mathlib.Core.List.{[]}
use Rattle.std.specs.Prelude.{None}
use native.Mathlib.Omega.{arith}
use Rattle.projection.proofs.Join.{joins_is}
use Rattle.projection.proofs.Steps.{stops, goes, leaf_step, body_step, action_step, others_step, own_end, own_step, fold_end, fold_step, fold_nowhere}
use Rattle.projection.proofs.Walks.{unmarked, marked, project_step}
use Rattle.projection.proofs.Projection.+project.Goals as goal

pub choose-returns-in-Leaf : goal.choose-returns-in-Leaf
choose-returns-in-Leaf t c = rw c.in-Leaf.is (leaf_step _ c.push.ensures)

pub choose-returns-in-Body : goal.choose-returns-in-Body
choose-returns-in-Body t c = rw c.in-Body.is (body_step c.push-body.ensures c.push-body.auto.work c.project.ensures)

pub choose-returns-in-Action : goal.choose-returns-in-Action
choose-returns-in-Action t c = rw c.in-Action.is (action_step c.push-arms.ensures c.push-arms.auto.work c.own.ensures)

pub choose-returns-in_err-end-in-Others : goal.choose-returns-in_err-end-in-Others
choose-returns-in_err-end-in-Others t c =
    rw c.in-Others.is
    (others_step _ c.arm_at.ensures c.in_ok-arm-in-Others.was c.project-in-Others.auto.work c.project-in-Others.auto.spare c.project-in-Others.ensures
    (stops c.in_err-end-in-Others.was c.from_residual-in_err-end-in-Others.ensures))

pub choose-returns-in_ok-end-in-Others : goal.choose-returns-in_ok-end-in-Others
choose-returns-in_ok-end-in-Others t c =
    rw c.in-Others.is
    (others_step _ c.arm_at.ensures c.in_ok-arm-in-Others.was c.project-in-Others.auto.work c.project-in-Others.auto.spare c.project-in-Others.ensures
    (goes _ c.in_ok-end-in-Others.was c.fold.ensures))

pub fold-returns-then-row-eq0 : goal.fold-returns-then-row-eq0
fold-returns-then-row-eq0 t c = fold_end _ c.then-row-eq0.either

pub fold-returns-in_err-arm : goal.fold-returns-in_err-arm
fold-returns-in_err-arm t c = fold_nowhere _ c.if-row-eq0.false c.arm_at.ensures c.in_err-arm.was

pub fold-returns-in_err-project : goal.fold-returns-in_err-project
fold-returns-in_err-project t c =
    fold_step {work₂ = []} {spare₂ = []} _ None c.if-row-eq0.false (omega (arith, c.if-left-eq0.false)) c.arm_at.ensures c.in_ok-arm.was c.project.ensures
    (stops c.in_err-project.was c.from_residual-in_err-project.ensures) c.project.auto.work c.project.auto.spare

pub fold-returns-in_err-top : goal.fold-returns-in_err-top
fold-returns-in_err-top t c =
    fold_step _ c.ok.result c.if-row-eq0.false (omega (arith, c.if-left-eq0.false)) c.arm_at.ensures c.in_ok-arm.was c.project.ensures
    (goes _ c.in_ok-project.was
    (joins_is c.join.result c.join.ensures c.ok.ensures.value, stops c.in_err-top.was c.from_residual-in_err-top.ensures, c.join.auto.work, c.join.auto.spare))
    c.project.auto.work c.project.auto.spare

pub fold-returns : goal.fold-returns
fold-returns t c =
    fold_step _ c.ok.result c.if-row-eq0.false (omega (arith, c.if-left-eq0.false)) c.arm_at.ensures c.in_ok-arm.was c.project.ensures
    (goes _ c.in_ok-project.was
    (joins_is c.join.result c.join.ensures c.ok.ensures.value, goes _ c.in_ok-top.was c.fold.ensures, c.join.auto.work, c.join.auto.spare))
    c.project.auto.work c.project.auto.spare

pub own-returns-then-row-eq0 : goal.own-returns-then-row-eq0
own-returns-then-row-eq0 t c = own_end _ c.then-row-eq0.either (c.word.ensures (omega arith)) c.push.ensures

pub own-returns-in_err-end : goal.own-returns-in_err-end
own-returns-in_err-end t c =
    own_step _ c.if-row-eq0.false (omega (arith, c.if-left-eq0.false)) c.arm_at.ensures c.in_ok-arm.was refl c.push-cont.ensures c.project.ensures
    (stops c.in_err-end.was c.from_residual-in_err-end.ensures) c.push-cont.auto.work (c.project.auto.work ∙ c.push-cont.auto.work) c.project.auto.spare

pub own-returns : goal.own-returns
own-returns t c =
    own_step _ c.if-row-eq0.false (omega (arith, c.if-left-eq0.false)) c.arm_at.ensures c.in_ok-arm.was c.after.ensures c.push-cont.ensures c.project.ensures
    (goes _ c.in_ok-end.was c.own.ensures) c.push-cont.auto.work (c.project.auto.work ∙ c.push-cont.auto.work) c.project.auto.spare

pub project-returns-in_err-end : goal.project-returns-in_err-end
project-returns-in_err-end t c =
    project_step _ c.walk.ensures c.in_ok-way.was c.choose.ensures (unmarked c.in_err-end.was c.from_residual-in_err-end.ensures)
    c.walk.auto.work c.choose.auto.work

pub project-returns : goal.project-returns
project-returns t c =
    project_step _ c.walk.ensures c.in_ok-way.was c.choose.ensures (marked _ _ c.in_ok-end.was refl c.close.ensures)
    c.walk.auto.work c.choose.auto.work
