-- `layout::turn` meets its contract: each kind of code is one law of the mirror. Assumes nothing.
use mathlib.Core.Logic.{⊎_elim}
use mathlib.Core.Path.{◌∙◌}
use Rattle.layout.proofs.Lays.{turn_end, turn_mark, turn_back, turn_arm, turn_loop, turn_send, turn_receive, turn_other}
use Rattle.layout.proofs.turn.Goals as goal

pub returns-in-End : goal.returns-in-End
returns-in-End c = turn_end c.args.src.now c.args.from c.args.at c.args.out.now c.args.loops.now c.requires _ c.peek.ensures _ c.from-code.ensures c.in-End.is _ c.split-kind.ensures.kind c.put_row.ensures c.end_part.ensures

pub returns-in-Mark : goal.returns-in-Mark
returns-in-Mark c = turn_mark c.args.src.now c.args.from c.args.at c.args.out.now c.args.loops.now c.requires _ c.peek.ensures _ c.from-code.ensures c.in-Mark.is c.end_part-in-Mark.ensures

pub returns-in-Back : goal.returns-in-Back
returns-in-Back c =
    turn_back c.args.src.now c.args.from c.args.at c.args.out.now c.args.loops.now c.requires _ c.peek.ensures _ c.from-code.ensures c.in-Back.is _ _ c.split-kind.ensures.kind (c.unwrap_or-home.ensures ∙ rw c.loop_row.ensures) c.put_row-in-Back.ensures c.end_part-in-Back.ensures

pub returns-in-Arm : goal.returns-in-Arm
returns-in-Arm c = turn_arm c.args.src.now c.args.from c.args.at c.args.out.now c.args.loops.now c.requires _ c.peek.ensures _ c.from-code.ensures c.in-Arm.is _ _ c.split-kind.ensures.kind c.waits.ensures c.put_row-in-Arm.ensures

pub returns-in-Loop : goal.returns-in-Loop
returns-in-Loop c = turn_loop c.args.src.now c.args.from c.args.at c.args.out.now c.args.loops.now c.requires _ c.peek.ensures _ c.from-code.ensures c.in-Loop.is _ c.split-kind.ensures.kind c.put_row-in-Loop.ensures c.poke.ensures

pub returns-in-Send : goal.returns-in-Send
returns-in-Send c =
    ⊎_elim
    (λ h. turn_send c.args.src.now c.args.from c.args.at c.args.out.now c.args.loops.now c.requires _ c.peek.ensures _ c.from-code.ensures h.1 _ _ c.split-kind.ensures.kind c.split-kind.ensures.argument c.put_row-in-Send.ensures)
    (λ h. turn_receive c.args.src.now c.args.from c.args.at c.args.out.now c.args.loops.now c.requires _ c.peek.ensures _ c.from-code.ensures h.1 _ _ c.split-kind.ensures.kind c.split-kind.ensures.argument c.put_row-in-Send.ensures)
    c.in-Send.is

pub returns-in-Other : goal.returns-in-Other
returns-in-Other c = turn_other c.args.src.now c.args.from c.args.at c.args.out.now c.args.loops.now c.requires _ c.peek.ensures _ c.from-code.ensures c.in-Other.is
