-- `rules::Nests::of` meets its contract. Assumes nothing.
use mathlib.Core.Path.{◌∙◌}
use lib.ListN.{get_or-map}
use native.Mathlib.Omega.{arith}
use Rattle.rules.proofs.Columns.{nests_start, nests_step, nests_left}
use Rattle.rules.proofs.Naming.{named_none, named_some, named_inside}
use Rattle.rules.proofs.Nests.of.Goals as goal
use Rattle.rules.proofs.Nests.of.Goals.{in-Some, in_default}

pub loop-row-init : goal.loop-row-init
loop-row-init c = nests_start c.args.names.now.words.now

pub bounds-rows-over : goal.bounds-rows-over
bounds-rows-over c =
    let names = c.args.names.now in
    let at = c.loop-row in
    let low = named_inside names.words.now names.rows at.row (omega arith) (omega (arith, at.auto)) (omega arith) names.by names.inside c.in-Some.over c.in-Some.is in
    omega arith

pub under-requires : goal.under-requires
under-requires c =
    let few = c.loop-row.invariant in
    let p = c.from-over.result in (
      rw (← get_or-map (λ n. n.around) c.loop-row.rows p (record { around = 0; near = 0 })) (omega (arith, few.0.few p)),
      rw (← get_or-map (λ n. n.near) c.loop-row.rows p (record { around = 0; near = 0 })) (omega (arith, few.1.few p)),
    )

pub loop-row-preserved : goal.loop-row-preserved
loop-row-preserved c =
    let names = c.args.names.now in
    let t = names.words.now in
    let at = c.loop-row in
    elim c.match-names-row.branch [
      | in-Some w ↦
          rw w.rows-is
          (nests_step t at.rows at.row w.from-over.result w.is_loop.result w.under.result (omega arith) (omega (arith, names.few)) (omega (arith, at.auto))
          (w.from-over.ensures ∙ named_some t names.rows at.row (omega arith) (omega (arith, at.auto)) (omega arith) names.by w.in-Some.over w.in-Some.is)
          w.is_loop.ensures w.under.ensures at.invariant)
      | in_default w ↦
          rw w.rows-is
          (nests_left t _ _ at.row (omega arith) (omega (arith, at.auto))
          (named_none t names.rows at.row (omega arith) (omega (arith, at.auto)) (omega arith) names.by w.in_default.is) at.invariant)
    ]
