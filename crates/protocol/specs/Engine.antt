-- What demand 3 is asked of: anything that answers sends and receives. And the engine that the calls of this library make. Assumes nothing.
use Rattle.std.specs.Prelude.{ℕ, List, ◌≡◌}
use Rattle.table.specs.Limits.{Limits}
use Rattle.blocks.specs.Block.{End, part_row}
use Rattle.session.specs.State.{head_of, held}
use Rattle.session.specs.Calls.{fresh_of, send_of, receive_of}
use Rattle.session.specs.Awaited.{awaited_of}
use Rattle.session.specs.Answers.{Answer, Awaiting}
use Rattle.session.specs.declared.Session.{Session}

pub data Call : Type 0 where
  -- sender, receiver, label, payload
  sends : ℕ → ℕ → ℕ → ℕ → Call
  -- sender, receiver
  receives : ℕ → ℕ → Call

-- the role that makes the call
abbrev pub caller : Call → ℕ
caller (sends p q l v) = p
caller (receives p q) = q

-- an answer: the number, the label and the payload that a receive returns, the label that a refusal offers, the next state
pub record Reply (S : Type 0) : Type 0 where
  pub number : ℕ
  pub label : ℕ
  pub payload : ℕ
  pub offered : ℕ
  pub state : S

-- the awaited roles: the number, the roles as one number (set_of), how many they are, the lowest
pub record RoleSet : Type 0 where
  pub number : ℕ
  pub set : ℕ
  pub count : ℕ
  pub lowest : ℕ

-- S is the type of its states
pub record Engine (S : Type 0) : Type 1 where
  -- the first state
  pub fresh : Reply S
  pub answer : Call → S → Reply S
  pub awaited : S → RoleSet
  -- how many messages the queue from p to q holds: it may not say this as it likes (Demand3.held_exactly)
  pub held : S → ℕ → ℕ → ℕ
  -- role r has ended: nor this (Demand3.ended_exactly)
  pub ended : S → ℕ → Type 0

-- ---- engines over this library's sessions, with the tables ts of so many roles

abbrev pub reply : Answer → Reply Session
reply a = record { number = a.number; label = a.label; payload = a.payload; offered = a.offered; state = a.state }

abbrev pub role_set : Awaiting → RoleSet
role_set a = record { number = a.number; set = a.set; count = a.count; lowest = a.lowest }

-- the one that gives these answers: to a fresh session, to calls, and for the awaited roles
abbrev pub over : Limits → List ℕ → ℕ → Answer → (Call → Session → Answer) → (Session → Awaiting) → Engine Session
over lim ts roles fresh answer awaited = record {
  fresh = reply fresh;
  answer = λ c s. reply (answer c s);
  awaited = λ s. role_set (awaited s);
  held = λ s p q. held lim s p q;
  ended = λ s r. part_row ts roles r (head_of s r) ≡ End 0 0 0;
}

unfoldable pub answer_to : Limits → List ℕ → ℕ → Call → Session → Answer
unfolding send_of receive_of
answer_to lim ts roles (sends p q l v) s = send_of lim ts roles p q l v s
answer_to lim ts roles (receives p q) s = receive_of lim ts roles p q s

-- the one that gives the customer's answers
abbrev pub ours : Limits → List ℕ → ℕ → Engine Session
ours lim ts roles = over lim ts roles (fresh_of lim ts roles) (answer_to lim ts roles) (awaited_of lim ts roles)
