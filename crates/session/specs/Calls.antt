-- Fresh, send and receive and what comes back, for every input. Assumes nothing.
use Rattle.std.specs.Prelude.{ℕ, zero, suc, Bool, cond, not, List, [], ◌∷◌, ◌++◌, ltb, leb, eqb}
use Rattle.std.proofs.Math.Option.{Option, none, some}
use Rattle.table.specs.Limits.{Limits}
use Rattle.table.specs.Numbers.{ACCEPTED}
use Rattle.blocks.specs.Block.{PartRow, End, Arm, Loop, Back, Send, Receive, Other, part_row}
use Rattle.blocks.specs.Head.{head, arms_of, find, lowest_label}
use Rattle.blocks.specs.Tables.{tables_good}
use Rattle.state.specs.Numbers.{TABLES, STATE, PARTY, TURN, LABEL, FULL, EMPTY, STRAY}
use Rattle.state.specs.State as lists
use Rattle.state.specs.State.{are_pair}
use Rattle.session.specs.State.{head_of, held, label_at, payload_at, nothing, state_good, moved, pushed, taken}
use Rattle.session.specs.declared.Session.{Session}
use Rattle.session.specs.Answers.{Answer}

-- a number, the lowest label that the head offers, and a state; no message. A refused call hands back the state that it was given
abbrev pub offering : ℕ → ℕ → Session → Answer
offering n k s = record { number = n; label = 0; payload = 0; offered = k; state = s }

-- a number and a state; nothing is offered, for which the limit's labels stand
abbrev pub answers : Limits → ℕ → Session → Answer
answers lim n s = offering n lim.labels s

-- an accepted receive by q from p: the oldest message, and q moves to row h
abbrev pub received : Limits → Session → ℕ → ℕ → ℕ → Answer
received lim s p q h = record {
  number = ACCEPTED;
  label = label_at lim s p q 0;
  payload = payload_at lim s p q 0;
  offered = lim.labels;
  state = moved (taken lim s p q) q h;
}

-- refused with that number where the test holds; else the rest
abbrev pub refused_if : Limits → ℕ → Bool → Session → Answer → Answer
refused_if lim n broken s rest = cond broken (answers lim n s) rest

-- rules 12, 13 and 14, then the rest
abbrev pub judged : Limits → List ℕ → ℕ → ℕ → ℕ → Session → Answer → Answer
judged lim ts roles p q s rest =
    refused_if lim TABLES (not (tables_good lim ts roles)) s (
    refused_if lim STATE (not (state_good lim ts roles s)) s (
    refused_if lim PARTY (not (are_pair roles p q)) s rest))

-- each role at the head of row 0, absent roles at 0
unfoldable pub first_heads : List ℕ → ℕ → ℕ → List ℕ
unfolding head
first_heads ts roles zero = []
first_heads ts roles (suc n) = first_heads ts roles n ++ (cond (ltb n roles) (head ts roles n 0) 0 ∷ [])

-- a fresh session: refused with 12 it is all zeros
unfoldable pub fresh_of : Limits → List ℕ → ℕ → Answer
unfolding tables_good first_heads
fresh_of lim ts roles =
    refused_if lim TABLES (not (tables_good lim ts roles)) (nothing lim) (
    answers lim ACCEPTED (record {
      heads = first_heads ts roles lim.roles;
      counts = (nothing lim).counts;
      labels = (nothing lim).labels;
      payloads = (nothing lim).payloads;
    }))

-- rules 16 and 17: p sends l to q with the payload v; k is the lowest label that the head offers, and then comes the continuation of its arm with
-- the label l
unfoldable pub send_arm : Limits → List ℕ → ℕ → ℕ → ℕ → ℕ → ℕ → Session → ℕ → Option ℕ → Answer
send_arm lim ts roles p q l v s k none = offering LABEL k s
send_arm lim ts roles p q l v s k (some c) =
    refused_if lim FULL (leb lim.depth (held lim s p q)) s (
    answers lim ACCEPTED (moved (pushed lim s p q l v) p (head ts roles p c)))

-- rule 15: the head of p is a send to q
unfoldable pub send_at : Limits → List ℕ → ℕ → ℕ → ℕ → ℕ → ℕ → Session → PartRow → Answer
unfolding send_arm
send_at lim ts roles p q l v s (End a b c) = answers lim TURN s
send_at lim ts roles p q l v s (Arm k c n) = answers lim TURN s
send_at lim ts roles p q l v s (Loop b x y) = answers lim TURN s
send_at lim ts roles p q l v s (Back j x y) = answers lim TURN s
send_at lim ts roles p q l v s (Send peer f x) =
    let arms = arms_of ts roles p f in
    refused_if lim TURN (not (eqb peer q)) s (send_arm lim ts roles p q l v s (lowest_label lim.labels arms) (find l arms))
send_at lim ts roles p q l v s (Receive peer f x) = answers lim TURN s
send_at lim ts roles p q l v s Other = answers lim TURN s

-- p sends the label l with the payload v to q
unfoldable pub send_of : Limits → List ℕ → ℕ → ℕ → ℕ → ℕ → ℕ → Session → Answer
unfolding send_at tables_good lists.state_good
send_of lim ts roles p q l v s =
    judged lim ts roles p q s (send_at lim ts roles p q l v s (part_row ts roles p (head_of s p)))

-- rule 19: q receives from p; k is the lowest label that the head offers, and then comes the continuation of its arm with the first held label
unfoldable pub receive_arm : Limits → List ℕ → ℕ → ℕ → ℕ → Session → ℕ → Option ℕ → Answer
receive_arm lim ts roles p q s k none = offering STRAY k s
receive_arm lim ts roles p q s k (some c) = received lim s p q (head ts roles q c)

-- rule 15: the head of q is a receive from p; and rule 18
unfoldable pub receive_at : Limits → List ℕ → ℕ → ℕ → ℕ → Session → PartRow → Answer
unfolding receive_arm
receive_at lim ts roles p q s (End a b c) = answers lim TURN s
receive_at lim ts roles p q s (Arm k c n) = answers lim TURN s
receive_at lim ts roles p q s (Loop b x y) = answers lim TURN s
receive_at lim ts roles p q s (Back j x y) = answers lim TURN s
receive_at lim ts roles p q s (Send peer f x) = answers lim TURN s
receive_at lim ts roles p q s (Receive peer f x) =
    let arms = arms_of ts roles q f in
    refused_if lim TURN (not (eqb peer p)) s (
    refused_if lim EMPTY (eqb (held lim s p q) 0) s (
    receive_arm lim ts roles p q s (lowest_label lim.labels arms) (find (label_at lim s p q 0) arms)))
receive_at lim ts roles p q s Other = answers lim TURN s

-- q receives from p
unfoldable pub receive_of : Limits → List ℕ → ℕ → ℕ → ℕ → Session → Answer
unfolding receive_at tables_good lists.state_good
receive_of lim ts roles p q s =
    judged lim ts roles p q s (receive_at lim ts roles p q s (part_row ts roles q (head_of s q)))
