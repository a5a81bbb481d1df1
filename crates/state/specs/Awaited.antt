-- When a role is awaited. Assumes nothing.
use Rattle.std.specs.Prelude.{ℕ, Bool, true, false, ◌&&◌, List, ltb}
use Rattle.std.proofs.Math.Option.{Option, none, some}
use Rattle.table.specs.Limits.{Limits}
use Rattle.blocks.specs.Block.{PartRow, End, Arm, Loop, Back, Send, Receive, Other, part_row}
use Rattle.blocks.specs.Head.{arms_of, find}
use Rattle.state.specs.State.{State, head_of, held, label_at}

abbrev pub is_found : Option ℕ → Bool
is_found none = false
is_found (some c) = true

-- role r, whose head this is, has a call that would be accepted: a send, exactly when the pair's queue has room; a receive, exactly
-- when a message is held and its label is among the arms
unfoldable pub can_act : Limits → List ℕ → ℕ → State → ℕ → PartRow → Bool
can_act lim ts roles s r (End a b c) = false
can_act lim ts roles s r (Arm k c n) = false
can_act lim ts roles s r (Loop b x y) = false
can_act lim ts roles s r (Back j x y) = false
can_act lim ts roles s r (Send q f x) = ltb (held lim s r q) lim.depth
can_act lim ts roles s r (Receive p f x) =
    ltb 0 (held lim s p r) && is_found (find (label_at lim s p r 0) (arms_of ts roles r f))
can_act lim ts roles s r Other = false

abbrev pub is_awaited : Limits → List ℕ → ℕ → State → ℕ → Bool
is_awaited lim ts roles s r = can_act lim ts roles s r (part_row ts roles r (head_of s r))
