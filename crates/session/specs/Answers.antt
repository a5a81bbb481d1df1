-- The answers of the calls, as the customer has them. Assumes nothing.
use Rattle.std.specs.Prelude.{ℕ}
use Rattle.session.specs.declared.Session.{Session}

-- what fresh, send and receive hand back: the number, the label and payload of an accepted receive (else 0), the lowest label that the head
-- offers where the call was refused for its label (else the limit's labels), the state
pub record Answer : Type 0 where
  pub number : ℕ
  pub label : ℕ
  pub payload : ℕ
  pub offered : ℕ
  pub state : Session

-- the awaited roles: the set (role r is the digit of weight 2 to the r), how many they are, the lowest (the limit's roles for none)
pub record Awaiting : Type 0 where
  pub number : ℕ
  pub set : ℕ
  pub count : ℕ
  pub lowest : ℕ
  pub state : Session
