-- What an answer offers, and that it would be taken. For every input: refused with 16 or 19, the tables
-- and the state were good. Assumes nothing.
use Rattle.std.specs.Prelude.{ℕ, ◌<◌, ◌≤◌, true, List, ◌⊎◌, ◌≢◌, ◌≡◌}
use Rattle.table.specs.Limits.{Limits}
use Rattle.table.specs.Numbers.{ACCEPTED}
use Rattle.blocks.specs.Block.{Send, Receive, part_row}
use Rattle.blocks.specs.Head.{ArmAt, arms_of, find}
use Rattle.state.specs.Numbers.{LABEL, FULL, STRAY}
use Rattle.state.specs.Awaited.{is_found}
use Rattle.session.specs.State.{head_of}
use Rattle.session.specs.Calls.{fresh_of, send_of, receive_of}
use Rattle.session.specs.declared.Session.{Session}

-- k is the least label of these arms
pub record Least (lim : Limits) (arms : List ArmAt) (k : ℕ) : Type 0 where
  pub low : k < lim.labels
  pub among : is_found (find k arms) ≡ true
  pub none_lower : (m : ℕ) → is_found (find m arms) ≡ true → k ≤ m

-- k would be taken of p: it is the least label that p's head sends to q; sent to q in the same state it is accepted, or four messages are held; and a
-- lower label is none of the head's
pub record WouldBeSent (lim : Limits) (ts : List ℕ) (roles p q : ℕ) (s : Session) (k : ℕ) : Type 0 where
  pub first : ℕ
  pub is : part_row ts roles p (head_of s p) ≡ Send q first 0
  pub least : Least lim (arms_of ts roles p first) k
  pub taken : (v : ℕ) → let n = (send_of lim ts roles p q k v s).number in n ≡ ACCEPTED ⊎ n ≡ FULL
  pub lower : (m v : ℕ) → m < k → (send_of lim ts roles p q m v s).number ≡ LABEL

-- k is the least label that q's head receives from p
pub record WouldBeReceived (lim : Limits) (ts : List ℕ) (roles p q : ℕ) (s : Session) (k : ℕ) : Type 0 where
  pub first : ℕ
  pub is : part_row ts roles q (head_of s q) ≡ Receive p first 0
  pub least : Least lim (arms_of ts roles q first) k

pub record SaysWhatIsTaken (lim : Limits) : Type 0 where
  pub send : (state : Session) (tables : List ℕ) (roles sender receiver label payload : ℕ)
      → let a = send_of lim tables roles sender receiver label payload state in
      a.number ≡ LABEL → WouldBeSent lim tables roles sender receiver state a.offered
  pub receive : (state : Session) (tables : List ℕ) (roles sender receiver : ℕ)
      → let a = receive_of lim tables roles sender receiver state in
      a.number ≡ STRAY → WouldBeReceived lim tables roles sender receiver state a.offered
  -- every other answer gives the limit's labels there, an acceptance too
  pub fresh_else : (tables : List ℕ) (roles : ℕ) → (fresh_of lim tables roles).offered ≡ lim.labels
  pub send_else : (state : Session) (tables : List ℕ) (roles sender receiver label payload : ℕ)
      → let a = send_of lim tables roles sender receiver label payload state in a.number ≢ LABEL → a.offered ≡ lim.labels
  pub receive_else : (state : Session) (tables : List ℕ) (roles sender receiver : ℕ)
      → let a = receive_of lim tables roles sender receiver state in a.number ≢ STRAY → a.offered ≡ lim.labels
