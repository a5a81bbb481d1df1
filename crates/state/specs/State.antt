-- The state's queues, and when a state is well formed. Assumes nothing.
use Rattle.std.specs.Prelude.{ℕ, ◌+◌, ◌*◌, Bool, cond, ◌&&◌, ◌||◌, not, List, ltb, leb, eqb, get_or}
use Rattle.words.specs.Below.{every}
use Rattle.table.specs.Limits.{Limits}
use Rattle.blocks.specs.Block.{part_row, block_rows, is_head}

-- what a state holds: each role's head row, and the queues
pub record State : Type 0 where
  pub heads : List ℕ
  pub counts : List ℕ
  pub labels : List ℕ
  pub payloads : List ℕ

-- the number of the queue from p to q, and of its slot k
abbrev pub pair : Limits → ℕ → ℕ → ℕ
pair lim p q = p * lim.roles + q

abbrev pub slot : Limits → ℕ → ℕ → ℕ → ℕ
slot lim p q k = pair lim p q * lim.depth + k

abbrev pub head_of : State → ℕ → ℕ
head_of s r = get_or s.heads r 0

-- how many messages the queue from p to q holds
abbrev pub held : Limits → State → ℕ → ℕ → ℕ
held lim s p q = get_or s.counts (pair lim p q) 0

abbrev pub label_at : Limits → State → ℕ → ℕ → ℕ → ℕ
label_at lim s p q k = get_or s.labels (slot lim p q k) 0

abbrev pub payload_at : Limits → State → ℕ → ℕ → ℕ → ℕ
payload_at lim s p q k = get_or s.payloads (slot lim p q k) 0

-- role r of so many stands on a Send, Receive or End of its block; the place of an absent role is 0
abbrev pub head_good : List ℕ → ℕ → State → ℕ → Bool
head_good ts roles s r =
    cond (ltb r roles) (ltb (head_of s r) (block_rows ts roles) && is_head (part_row ts roles r (head_of s r))) (eqb (head_of s r) 0)

-- a slot in use holds a label; an unused slot is 0
abbrev pub slot_good : Limits → State → ℕ → ℕ → ℕ → Bool
slot_good lim s p q k =
    cond (ltb k (held lim s p q)) (ltb (label_at lim s p q k) lim.labels) (eqb (label_at lim s p q k) 0 && eqb (payload_at lim s p q k) 0)

-- two roles that have a queue: both present, and not the same
abbrev pub are_pair : ℕ → ℕ → ℕ → Bool
are_pair roles p q = ltb p roles && ltb q roles && not (eqb p q)

-- the queue from p to q: at most so many messages, none where there is no such pair
abbrev pub queue_good : Limits → ℕ → State → ℕ → ℕ → Bool
queue_good lim roles s p q =
    leb (held lim s p q) lim.depth && (are_pair roles p q || eqb (held lim s p q) 0) && every (slot_good lim s p q) lim.depth

-- 13 STATE is given exactly when this does not hold
unfoldable pub state_good : Limits → List ℕ → ℕ → State → Bool
state_good lim ts roles s =
    every (head_good ts roles s) lim.roles && every (λ p. every (queue_good lim roles s p) lim.roles) lim.roles
