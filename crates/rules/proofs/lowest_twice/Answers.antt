-- `rules::lowest_twice` meets its contract. Assumes nothing.
use Rattle.std.proofs.Common.{rules, ℕ, Option, ◌∙◌, sym}
use Rattle.table.specs.Rows.{row as row_at}
use Rattle.rules.specs.mirror.Chain.{chain_of}
use Rattle.rules.proofs.Least.{least_next, least_with}
use Rattle.rules.proofs.lowest_twice.Goals as goal
use Rattle.rules.proofs.lowest_twice.Goals.{in-Some, in_default}

pub loop-row-preserved : goal.loop-row-preserved
loop-row-preserved c =
    let g : ℕ → Option ℕ = λ i. chain_of c.args.words.now (row_at c.args.words.now i) in
    elim c.match-twice.branch [
      | in-Some w ↦
          rw w.least-is
          (least_with g c.loop-row.row w.in-Some.arm w.map_or.result c.loop-row.least _ (sym c.twice.ensures ∙ w.in-Some.is) c.loop-row.invariant
          w.map_or.ensures (λ k e. search rules))
      | in_default w ↦ rw w.least-is (least_next g c.loop-row.row c.loop-row.least (sym c.twice.ensures ∙ w.in_default.is) c.loop-row.invariant)
    ]
