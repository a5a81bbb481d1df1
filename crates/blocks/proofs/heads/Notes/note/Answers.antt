-- `heads::Notes::note` meets its contract. Assumes nothing.
use Rattle.std.proofs.Common.{◌≡◌, ◌-◌, ◌+◌, arith}
use Rattle.blocks.proofs.Far.{far_on, leads_on_lem}
use Rattle.blocks.proofs.Walk.{Onward}
use Rattle.blocks.proofs.heads.Notes.note.Goals.{in-Loop, in-Loop-2}
use Rattle.blocks.proofs.heads.Notes.note.Goals as goal

pub loop-taken-preserved : goal.loop-taken-preserved
loop-taken-preserved c =
    let (same, far) = c.loop-taken.invariant in
    let e : c.args.far - c.loop-taken.taken - 1 ≡ c.args.far - (c.loop-taken.taken + 1) = omega arith in
    let o : Onward c.row.result c.match-row.at = elim c.match-row.branch [ in-Loop w ↦ rw w.at-is w.in-Loop.is | in-Loop-2 w ↦ rw w.at-is w.in-Loop.is ] in
    (same, rw (← e) (far_on _ _ _ _ _ _ (omega arith) (leads_on_lem _ _ _ _ c.row.ensures.0 _ o) far))
