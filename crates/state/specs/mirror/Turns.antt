-- The tests of a call past rule 14. Assumes nothing.
use Rattle.std.specs.Prelude.{ℕ, ◌<◌, cond, not, List, leb, eqb, Result, Ok, Err, ⊤}
use Rattle.std.proofs.Math.Option.{Option, none, some}
use Rattle.table.specs.Limits.{Limits}
use Rattle.blocks.specs.Block.{PartRow, End, Arm, Loop, Back, Send, Receive, Other, part_row}
use Rattle.blocks.specs.Head.{head, arms_of, find, lowest_label}
use Rattle.state.specs.State.{State, head_of, held, label_at}
use Rattle.state.specs.declared.Refusal.{Refusal}
use Rattle.state.specs.declared.Refusal.TheVariants.{Turn, Label, Full, Empty, Stray}

-- k is the lowest label that the head offers, and then comes the continuation of the arm that was found
unfoldable pub send_found : Limits → List ℕ → ℕ → ℕ → ℕ → ℕ → Option ℕ → Result ℕ Refusal
send_found lim ts roles p count k none = Err (Label k)
send_found lim ts roles p count k (some c) = cond (leb lim.depth count) (Err Full) (Ok (head ts roles p c))

-- p sends l from its head's first arm f
abbrev pub send_arm : Limits → List ℕ → ℕ → ℕ → ℕ → ℕ → ℕ → Result ℕ Refusal
send_arm lim ts roles p f l count =
    let arms = arms_of ts roles p f in send_found lim ts roles p count (lowest_label lim.labels arms) (find l arms)

unfoldable pub send_turn : Limits → List ℕ → ℕ → ℕ → ℕ → ℕ → ℕ → PartRow → Result ℕ Refusal
send_turn lim ts roles p q l count (End a b c) = Err Turn
send_turn lim ts roles p q l count (Arm k c n) = Err Turn
send_turn lim ts roles p q l count (Loop b x y) = Err Turn
send_turn lim ts roles p q l count (Back j x y) = Err Turn
send_turn lim ts roles p q l count (Send peer f x) = cond (not (eqb peer q)) (Err Turn) (send_arm lim ts roles p f l count)
send_turn lim ts roles p q l count (Receive peer f x) = Err Turn
send_turn lim ts roles p q l count Other = Err Turn

abbrev pub send_from : Limits → List ℕ → ℕ → ℕ → ℕ → ℕ → State → Result ℕ Refusal
send_from lim ts roles p q l s = send_turn lim ts roles p q l (held lim s p q) (part_row ts roles p (head_of s p))

unfoldable pub receive_found : List ℕ → ℕ → ℕ → ℕ → Option ℕ → Result ℕ Refusal
receive_found ts roles q k none = Err (Stray k)
receive_found ts roles q k (some c) = Ok (head ts roles q c)

-- q receives l, the first of so many, from its head's first arm f
abbrev pub receive_arm : Limits → List ℕ → ℕ → ℕ → ℕ → ℕ → ℕ → Result ℕ Refusal
receive_arm lim ts roles q f count l =
    let arms = arms_of ts roles q f in
    cond (eqb count 0) (Err Empty) (receive_found ts roles q (lowest_label lim.labels arms) (find l arms))

unfoldable pub receive_turn : Limits → List ℕ → ℕ → ℕ → ℕ → ℕ → ℕ → PartRow → Result ℕ Refusal
receive_turn lim ts roles p q count l (End a b c) = Err Turn
receive_turn lim ts roles p q count l (Arm k c n) = Err Turn
receive_turn lim ts roles p q count l (Loop b x y) = Err Turn
receive_turn lim ts roles p q count l (Back j x y) = Err Turn
receive_turn lim ts roles p q count l (Send peer f x) = Err Turn
receive_turn lim ts roles p q count l (Receive peer f x) = cond (not (eqb peer p)) (Err Turn) (receive_arm lim ts roles q f count l)
receive_turn lim ts roles p q count l Other = Err Turn

abbrev pub receive_from : Limits → List ℕ → ℕ → ℕ → ℕ → State → Result ℕ Refusal
receive_from lim ts roles q p s = receive_turn lim ts roles p q (held lim s p q) (label_at lim s p q 0) (part_row ts roles q (head_of s q))

-- the peer of an action is a role
abbrev pub LowPeer : Limits → PartRow → Type 0
LowPeer lim (End a b c) = ⊤
LowPeer lim (Arm k c n) = ⊤
LowPeer lim (Loop b x y) = ⊤
LowPeer lim (Back j x y) = ⊤
LowPeer lim (Send q f x) = q < lim.roles
LowPeer lim (Receive p f x) = p < lim.roles
LowPeer lim Other = ⊤
