-- `lines::input::take_all` meets its contract: the bytes that are left end the same lines as all of them. Assumes nothing.
use mathlib.Core.Path.{◌∙◌}
use Rattle.std.proofs.Common.{rules}
use Rattle.lines.proofs.Cutting.{uncut, behind_newline, cut_run, cut_rest, cut_lines}
use Rattle.lines.proofs.input.take_all.Goals as goal

pub loop-end-init : goal.loop-end-init
loop-end-init g c = uncut _ _ _ _ _ _

pub returns-in_err-answer-clause-front : goal.returns-in_err-answer-clause-front
returns-in_err-answer-clause-front g c = c.extend.ensures.front ∙ c.loop-end.invariant.same

pub loop-end-smaller : goal.loop-end-smaller
loop-end-smaller g c = search rules

pub loop-end-preserved : goal.loop-end-preserved
loop-end-preserved g c =
    let was = c.loop-end in
    cut_run _ _ _ _ _ _ was.rest.now _ _ _ _ _ _ _ _ _ _ c.in-Some.ensures.0 c.in-Some.ensures.1 (behind_newline c.in-Some.end was.rest.now _ (search rules)) (search rules)
    c.extend.ensures.line (rw c.as_slice.ensures at c.in_ok-answer.ensures)
    (c.clear.ensures.front ∙ c.extend.ensures.front) (c.clear.ensures.line ∙ c.extend.ensures.front) was.invariant

pub returns-clause-front : goal.returns-clause-front
returns-clause-front g c = c.extend-2.ensures.front ∙ c.loop-end.invariant.same

pub returns-clause-rest : goal.returns-clause-rest
returns-clause-rest g c = cut_rest _ _ _ _ _ _ _ _ _ _ _ c.in_default.ensures c.extend-2.ensures.line c.loop-end.invariant

pub returns-clause-answered : goal.returns-clause-answered
returns-clause-answered g c = cut_lines _ _ _ _ _ _ _ _ _ _ c.in_default.ensures c.loop-end.invariant
