-- `rules::Names::of` meets its contract. Assumes nothing.
use mathlib.Core.Path.{◌≡◌, sym, ◌∙◌, ap}
use Rattle.std.proofs.lemmas.List.{length-map}
use Prim.Native.Nat.{◌-◌}
use native.Mathlib.Omega.{arith}
use Rattle.words.specs.Rows.{rows_of}
use Rattle.table.specs.mirror.Names.{near_link, far_link}
use Rattle.rules.proofs.Naming.{names_start, filling_turn, filling_end, inside_step}
use Rattle.rules.proofs.Names.of.Goals as goal

pub loop-row-init : goal.loop-row-init
loop-row-init c = names_start c.args.words.now (omega arith)

pub loop-row-preserved : goal.loop-row-preserved
loop-row-preserved c =
    let t = c.args.words.now in
    let one = c.add_name.ensures in
    let two = c.add_name-in-loop-row.ensures in
    let long = sym (length-map c.loop-row.rows (λ n. n.times)) ∙ c.loop-row.invariant.0.count_length in
    let inside = inside_step t _ c.loop-row.rows c.near_link.result (c.loop-row.row - 1) (omega arith) long (one.by 0) c.loop-row.invariant.1 in (
      filling_turn t _ _ _ _ _ _ c.loop-row.row _ _ (omega arith) (omega arith) (c.near_link.ensures ∙ ap near_link c.read-this.ensures.0)
          (c.far_link.ensures ∙ ap far_link c.read-this.ensures.0) (one.by (rows_of t), one.times) (two.by (rows_of t), two.times) c.loop-row.invariant.0,
      inside_step t _ c.add_name.new.names c.far_link.result (c.loop-row.row - 1) (omega arith) c.add_name.array_long (two.by 0) inside,
    )

-- what the places then say
pub invariant_of-result-clause-by : goal.invariant_of-result-clause-by
invariant_of-result-clause-by c = let e : c.loop-row.row ≡ 0 = omega arith in (filling_end c.args.words.now _ _ (rw e at c.loop-row.invariant.0)).0

pub invariant_of-result-clause-times : goal.invariant_of-result-clause-times
invariant_of-result-clause-times c = let e : c.loop-row.row ≡ 0 = omega arith in (filling_end c.args.words.now _ _ (rw e at c.loop-row.invariant.0)).1
