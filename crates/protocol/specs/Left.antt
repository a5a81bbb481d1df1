-- What is left: of the calls that were made, the messages that lie unread; of a running tree, what a role has still to do. Assumes nothing.
use Rattle.std.specs.Prelude.{ℕ, ◌+◌, Bool, cond, ◌&&◌, List, [], ◌∷◌, ◌++◌, ◌≢◌, eqb, drop}
use Rattle.table.specs.Numbers.{ACCEPTED}
use Rattle.table.specs.Tree.{Global, end, exchange, flight, loop, back, Arms, nil, arm}
use Rattle.protocol.specs.Engine.{Call, sends, receives, Engine}

-- ---- which messages lie unread, by the accepted calls alone

-- the pair of a call is p and q
abbrev pub is_pair : ℕ → ℕ → ℕ → ℕ → Bool
is_pair p q p' q' = eqb p p' && eqb q q'

-- the messages from p to q that lie unread, the oldest first, when w lay before and this call is accepted: a send puts its label and
-- payload last, a receive takes the first
abbrev pub now_unread : ℕ → ℕ → Call → List (ℕ × ℕ) → List (ℕ × ℕ)
now_unread p q (sends p' q' l v) w = cond (is_pair p q p' q') (w ++ ((l, v) ∷ [])) w
now_unread p q (receives p' q') w = cond (is_pair p q p' q') (drop 1 w) w

-- those after the calls cs, one after the other from s, when w lay before: a refused call changes nothing
unfoldable pub unread : {S : Type 0} → Engine S → ℕ → ℕ → List Call → S → List (ℕ × ℕ) → List (ℕ × ℕ)
unread e p q [] s w = w
unread e p q (c ∷ cs) s w = unread e p q cs (e.answer c s).state (cond (eqb (e.answer c s).number ACCEPTED) (now_unread p q c w) w)

-- the same counted: a send from p to q, a receive by q from p, and how many such calls of cs were accepted
abbrev pub is_send : ℕ → ℕ → Call → ℕ
is_send p q (sends p' q' l v) = cond (is_pair p q p' q') 1 0
is_send p q (receives p' q') = 0

abbrev pub is_receive : ℕ → ℕ → Call → ℕ
is_receive p q (sends p' q' l v) = 0
is_receive p q (receives p' q') = cond (is_pair p q p' q') 1 0

unfoldable pub accepted_of : {S : Type 0} → Engine S → (Call → ℕ) → List Call → S → ℕ
accepted_of e kind [] s = 0
accepted_of e kind (c ∷ cs) s = cond (eqb (e.answer c s).number ACCEPTED) (kind c) 0 + accepted_of e kind cs (e.answer c s).state

-- ---- what a role has still to do

mutual
  -- nothing: r is in no unsent exchange of the tree, and receives none that is in flight
  pub data NothingLeft {A : Type 0} (r : ℕ) : Global A → Type 0 where
    left_end : NothingLeft r end
    left_exchange : {p q : ℕ} {cs : Arms A} → r ≢ p → r ≢ q → NothingLeftArms r cs → NothingLeft r (exchange p q cs)
    left_flight : {p q l : ℕ} {v : A} {G : Global A} → r ≢ q → NothingLeft r G → NothingLeft r (flight p q l v G)
    left_loop : {B : Global A} → NothingLeft r B → NothingLeft r (loop B)
    left_back : {k : ℕ} → NothingLeft r (back k)

  pub data NothingLeftArms {A : Type 0} (r : ℕ) : Arms A → Type 0 where
    left_nil : NothingLeftArms r nil
    left_arm : {l : ℕ} {G : Global A} {cs : Arms A} → NothingLeft r G → NothingLeftArms r cs → NothingLeftArms r (arm l G cs)
