-- `heads::Notes::row_good` meets its contract. Assumes nothing.
use Rattle.std.proofs.Common.{true≢false, sym, ◌∙◌, refl}
use Rattle.blocks.proofs.Walk.{onward_kind}
use Rattle.blocks.proofs.Far.{leads_on_lem, bad_row, head_led, head_lost}
use Rattle.blocks.proofs.Good.{good_not, good_headed, good_alone}
use Rattle.blocks.proofs.Sound.{onward_inside}
use Rattle.blocks.proofs.heads.Notes.row_good.Goals as goal

pub returns-then-not-row_holds : goal.returns-then-not-row_holds
returns-then-not-row_holds c =
    let bad = good_not _ _ _ _ _ c.row-part.ensures.0 (sym c.row_holds.ensures ∙ c.if-not-row_holds.true) in
    (λ e. absurd (true≢false (sym e)), λ e. bad_row _ _ _ _ _ c.args.self.now.block.rows_are c.requires bad, refl)

pub has_head-requires : goal.has_head-requires
has_head-requires c =
    let b = c.args.self.now.block in
    rw b.rows_are (onward_inside _ _ _ _ _ _ _ (rw b.rows_are at c.requires) c.in-Loop.is (sym c.row_holds.ensures ∙ c.if-not-row_holds.false))

pub returns-in-Loop : goal.returns-in-Loop
returns-in-Loop c =
    let b = c.args.self.now.block in
    let holds = sym c.row_holds.ensures ∙ c.if-not-row_holds.false in
    let leads = leads_on_lem _ _ _ _ c.row-part.ensures.0 _ c.in-Loop.is in
    let (found, lost, same) = c.has_head.ensures in (
      λ e. good_headed _ _ _ _ _ c.row-part.ensures.0 holds (head_led _ _ _ _ _ _ b.rows_are c.requires leads (found e)),
      λ e. head_lost _ _ _ _ _ _ b.rows_are c.requires leads (rw (← c.row-part.ensures.0) (onward_kind _ _ c.in-Loop.is).0) (lost e),
      same,
    )

pub returns-in_default : goal.returns-in_default
returns-in_default c =
    let good = good_alone _ _ _ _ _ c.row-part.ensures.0 (sym c.row_holds.ensures ∙ c.if-not-row_holds.false) c.in_default.not-Loop c.in_default.not-Back in
    (λ e. good, λ e. absurd (true≢false e), refl)
