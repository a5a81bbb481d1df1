-- `heads::Notes::steps` meets its contract. Assumes nothing.
use Rattle.std.proofs.Common.{◌≡◌, ◌-◌, ◌*◌, get_or, inl, arith}
use Rattle.blocks.specs.Block.{block_rows}
use Rattle.blocks.proofs.Far.{came_on, came_stands, came_known, leads_on_lem, stays, leads_out}
use Rattle.blocks.proofs.Walk.{Onward}
use Rattle.blocks.proofs.heads.Notes.steps.Goals.{in-Loop, in-Loop-2}
use Rattle.blocks.proofs.heads.Notes.steps.Goals as goal

pub returns-in_default : goal.returns-in_default
returns-in_default c =
    rw (c.then_some.ensures, c.stands.ensures)
    (came_stands _ _ _ _ _ _ _ c.args.self.now.block.rows_are c.loop-taken.invariant.1 _ c.loop-taken-test.true
    (stays _ _ _ _ c.row-part.ensures.0 c.in_default.not-Loop c.in_default.not-Back))

pub returns-then-left-gt0 : goal.returns-then-left-gt0
returns-then-left-gt0 c =
    let b = c.args.self.now.block in
    let (inside, came) = c.loop-taken.invariant in
    let left : c.saturating_sub-left.result ≡ get_or c.args.self.now.noted c.loop-taken.at 0 - b.role * block_rows b.tables.now b.roles =
    rw (c.saturating_sub-left.ensures, c.peek.ensures, c.from.ensures, b.starts, b.rows_are) in
    let far = (c.args.self.now.right.1 c.loop-taken.at (rw b.rows_are at inside)).1 (omega (arith, left, c.if-left-gt0.true)) in
    rw c.then_some-then-left-gt0.ensures
    (came_known _ _ _ _ _ _ _ b.rows_are came _ c.loop-taken-test.true (rw left far))

pub returns-then-rows-on : goal.returns-then-rows-on
returns-then-rows-on c =
    let o : Onward c.row-part.result c.match-part.on = elim c.match-part.branch [ in-Loop w ↦ rw w.on-is w.in-Loop.is | in-Loop-2 w ↦ rw w.on-is w.in-Loop.is ] in
    inl (leads_out _ _ _ _ _ c.args.self.now.block.rows_are c.loop-taken.invariant.0 _ c.row-part.ensures.0 o c.if-rows-on.true)

pub loop-taken-preserved : goal.loop-taken-preserved
loop-taken-preserved c =
    let o : Onward c.row-part.result c.match-part.on = elim c.match-part.branch [ in-Loop w ↦ rw w.on-is w.in-Loop.is | in-Loop-2 w ↦ rw w.on-is w.in-Loop.is ] in
    (omega arith, came_on _ _ _ _ _ _ _ c.loop-taken.invariant.1 (leads_on_lem _ _ _ _ c.row-part.ensures.0 _ o))
