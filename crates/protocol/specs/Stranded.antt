-- Nothing let in is stranded: from every state reached from a fresh session, for each held message a finite continuation of
-- accepted calls that ends with that message being received, and for each role that has not ended one in which that role acts. Assumes nothing.
use Rattle.std.specs.Prelude.{ℕ, zero, suc, ◌+◌, ◌*◌, ◌<◌, List, [], ◌∷◌, ◌++◌, ◌≡◌, length, take}
use Rattle.table.specs.Check.{accepted}
use Rattle.table.specs.Limits.{Limits}
use Rattle.table.specs.Numbers.{ACCEPTED}
use Rattle.table.specs.Tree.{Global, exchange, flight, loop, Arms, tree_of}
use Rattle.opening.specs.Opening.{open_of, room_of}
use Rattle.protocol.specs.Each.{Each}
use Rattle.protocol.specs.Engine.{Call, sends, receives, Engine, ours}
use Rattle.protocol.specs.Left.{unread, is_receive}
use Rattle.protocol.specs.Steps.{Action, send, receive, ArmOf, SomeArm}
use Rattle.protocol.specs.Unrolled.{unrolled}
use Rattle.protocol.specs.Demand3.{Every, after, ComesTo, HasCall}

-- ---- continuations

-- m is the message of number k, 0 for the oldest
pub data Place {M : Type 0} : List M → ℕ → M → Type 0 where
  oldest : {m : M} {w : List M} → Place (m ∷ w) zero m
  behind : {k : ℕ} {m n : M} {w : List M} → Place w k m → Place (n ∷ w) (suc k) m

-- every one of these calls is accepted, one after the other from s
pub data AllAccepted {S : Type 0} (e : Engine S) : S → List Call → Type 0 where
  all_made : {s : S} → AllAccepted e s []
  then : {s : S} {c : Call} {cs : List Call}
      → (e.answer c s).number ≡ ACCEPTED → AllAccepted e (e.answer c s).state cs → AllAccepted e s (c ∷ cs)

-- how many of these calls are a receive by q from p
unfoldable pub receives_of : ℕ → ℕ → List Call → ℕ
receives_of p q [] = 0
receives_of p q (c ∷ cs) = is_receive p q c + receives_of p q cs

-- from s, accepted calls with k receives of the pair among them, and then one more receive of it, which is accepted and returns m: since a
-- queue is first in first out, that is the receive of the message of number k. All of them are calls that may be made
pub record IsReceived {S : Type 0} (may : Call → Type 0) (e : Engine S) (s : S) (p q k : ℕ) (m : ℕ × ℕ) : Type 0 where
  pub before : List Call
  pub may_be_made : Each may before
  pub all_accepted : AllAccepted e s before
  pub receives_before : receives_of p q before ≡ k
  pub may_be_last : may (receives p q)
  pub last_accepted : (e.answer (receives p q) (after e before s)).number ≡ ACCEPTED
  pub label : (e.answer (receives p q) (after e before s)).label ≡ m.0
  pub payload : (e.answer (receives p q) (after e before s)).payload ≡ m.1

-- from s, accepted calls, and then one by r
pub record Acts {S : Type 0} (may : Call → Type 0) (e : Engine S) (s : S) (r : ℕ) : Type 0 where
  pub before : List Call
  pub may_be_made : Each may before
  pub all_accepted : AllAccepted e s before
  pub call : HasCall may e (after e before s) r

-- ---- nothing is stranded

-- of an engine for so many roles in the state s, when w p q are the unread messages from p to q. The continuations are calls of this engine:
-- where it is one session among several, they are that session's calls alone
pub record StrandsNothing {S : Type 0} (may : Call → Type 0) (e : Engine S) (roles : ℕ) (s : S) (w : ℕ → ℕ → List (ℕ × ℕ)) : Type 0 where
  pub received : (p q k : ℕ) (m : ℕ × ℕ) → Place (w p q) k m → IsReceived may e s p q k m
  pub acts : (r : ℕ) → r < roles → ¬ e.ended s r → Acts may e s r

-- after any calls from its fresh state, refused ones among them. `held_exactly` ties what is unread to what is held
abbrev pub NothingStranded : {S : Type 0} → (Call → Type 0) → Engine S → ℕ → Type 0
NothingStranded may e roles = (cs : List Call) → Each may cs
    → StrandsNothing may e roles (after e cs e.fresh.state) (λ p q. unread e p q cs e.fresh.state [])

-- for every table that opens in some room, over the first words of the room afterwards
abbrev pub K13 : Limits → Type 0
K13 lim = (t : List ℕ) (roles : ℕ) (room : List ℕ) → open_of lim t roles (length room) ≡ accepted
    → NothingStranded Every (ours lim (take (roles * length t) (room_of lim t roles room)) roles) roles

-- ---- by any arm

-- Advances pick v G a G': the topmost exchange of G, loops opened, takes the step a. Unsent, its sender sends the label that is picked of its
-- arms, with the payload v; in flight, its receiver receives it
pub data Advances {A : Type 0} (pick : Arms A → ℕ) (v : A) : Global A → Action A → Global A → Type 0 where
  sends_picked : {p q : ℕ} {cs : Arms A} {H : Global A}
      → ArmOf (pick cs) H cs → Advances pick v (exchange p q cs) (send p q (pick cs) v) (flight p q (pick cs) v H)
  receives_it : {p q l : ℕ} {u : A} {G : Global A} → Advances pick v (flight p q l u G) (receive p q l u) G
  opens_loop : {a : Action A} {B G : Global A} → Advances pick v (unrolled B) a G → Advances pick v (loop B) a G

-- the call that an action is
abbrev pub call_of : Action ℕ → Call
call_of (send p q l v) = sends p q l v
call_of (receive p q l v) = receives p q

-- these calls advance the topmost exchange, one after the other
pub data Advanced (pick : Arms ℕ → ℕ) (v : ℕ) : Global ℕ → List Call → Type 0 where
  come_far : {G : Global ℕ} → Advanced pick v G []
  go_on : {G G' : Global ℕ} {a : Action ℕ} {cs : List Call} → Advances pick v G a G' → Advanced pick v G' cs → Advanced pick v G (call_of a ∷ cs)

-- whoever picks the arms: advancing the topmost exchange of the tree come to, sends with the payload 0, gets there
pub record ByAnyArm {S : Type 0} (may : Call → Type 0) (e : Engine S) (t : List ℕ) (roles : ℕ) (pick : Arms ℕ → ℕ) : Type 0 where
  pub received : (cs : List Call) (G : Global ℕ) → Each may cs → ComesTo e e.fresh.state (tree_of t) cs G
      → (p q k : ℕ) (m : ℕ × ℕ) → Place (unread e p q cs e.fresh.state []) k m
      → (c : IsReceived may e (after e cs e.fresh.state) p q k m) × Advanced pick 0 G (c.before ++ (receives p q ∷ []))
  pub acts : (cs : List Call) (G : Global ℕ) → Each may cs → ComesTo e e.fresh.state (tree_of t) cs G
      → (r : ℕ) → r < roles → ¬ e.ended (after e cs e.fresh.state) r
      → (c : Acts may e (after e cs e.fresh.state) r) × Advanced pick 0 G (c.before ++ (c.call.0 ∷ []))

-- of every exchange that has an arm one is picked
abbrev pub Picks : (Arms ℕ → ℕ) → Type 0
Picks pick = (cs : Arms ℕ) → SomeArm cs → (H : Global ℕ) × ArmOf (pick cs) H cs

abbrev pub K13ByAnyArm : Limits → Type 0
K13ByAnyArm lim = (t : List ℕ) (roles : ℕ) (room : List ℕ) → open_of lim t roles (length room) ≡ accepted → (pick : Arms ℕ → ℕ) → Picks pick
    → ByAnyArm Every (ours lim (take (roles * length t) (room_of lim t roles room)) roles) t roles pick
