-- The engine accepts exactly what the step rules allow: for every table that opens, and every sequence of sends and receives from a fresh
-- session, refused ones among them. An engine
-- says what its queues hold and who has ended; both are tied, to the accepted calls and to the tree. Assumes nothing.
use Rattle.std.specs.Prelude.{ℕ, ◌*◌, ◌≤◌, ◌<◌, Bool, true, false, List, [], ◌∷◌, ◌≢◌, ◌↔◌, ◌≡◌, length, take}
use Rattle.words.specs.Below.{how_many, set_of}
use Rattle.table.specs.Check.{accepted}
use Rattle.table.specs.Limits.{Limits}
use Rattle.table.specs.Numbers.{ACCEPTED}
use Rattle.table.specs.Tree.{Global, tree_of}
use Rattle.opening.specs.Opening.{open_of, room_of}
use Rattle.state.specs.Numbers.{TABLES, STATE, LABEL, STRAY}
use Rattle.protocol.specs.Each.{Each}
use Rattle.protocol.specs.Engine.{Call, sends, receives, caller, Reply, Engine, ours}
use Rattle.protocol.specs.Left.{unread, NothingLeft}
use Rattle.protocol.specs.Steps.{Action, send, receive, Step}

-- which calls may be made: every one, or those whose values the types of the code hold (Promised.antt)
pub data Every : Call → Type 0 where
  every : {c : Call} → Every c

-- ---- what the protocol has come to

-- the state after these calls, one after the other
unfoldable pub after : {S : Type 0} → Engine S → List Call → S → S
after e [] s = s
after e (c ∷ cs) s = after e cs (e.answer c s).state

-- the step that a call is: a receive's label and payload are those that the answer returns
abbrev pub step_of : {S : Type 0} → Call → Reply S → Action ℕ
step_of (sends p q l v) a = send p q l v
step_of (receives p q) a = receive p q a.label a.payload

-- ComesTo e s G cs H: while the engine goes from s through the calls cs, the protocol goes from G to H. An accepted call is a step of the
-- protocol, a refused one is none
pub data ComesTo {S : Type 0} (e : Engine S) : S → Global ℕ → List Call → Global ℕ → Type 0 where
  no_call : {s : S} {G : Global ℕ} → ComesTo e s G [] G
  accepted_call : {s : S} {G G' H : Global ℕ} {c : Call} {cs : List Call}
      → (e.answer c s).number ≡ ACCEPTED
      → Step (step_of c (e.answer c s)) G G'
      → ComesTo e (e.answer c s).state G' cs H
      → ComesTo e s G (c ∷ cs) H
  refused_call : {s : S} {G H : Global ℕ} {c : Call} {cs : List Call}
      → (e.answer c s).number ≢ ACCEPTED
      → ComesTo e (e.answer c s).state G cs H
      → ComesTo e s G (c ∷ cs) H

-- ---- what holds then

-- the step rules allow the action
abbrev pub Allows : Global ℕ → Action ℕ → Type 0
Allows G a = (G' : Global ℕ) × Step a G G'

-- role r has a call, one that may be made, that would be accepted
abbrev pub HasCall : {S : Type 0} → (Call → Type 0) → Engine S → S → ℕ → Type 0
HasCall may e s r = (c : Call) × may c × (caller c ≡ r) × ((e.answer c s).number ≡ ACCEPTED)

-- every role has ended and every queue is empty
pub record Finished {S : Type 0} (e : Engine S) (roles : ℕ) (s : S) : Type 0 where
  pub ended : (r : ℕ) → r < roles → e.ended s r
  pub empty : (p q : ℕ) → p < roles → q < roles → e.held s p q ≡ 0

-- of an engine in the state s, while the protocol of so many roles has come to G
pub record Follows {S : Type 0} (lim : Limits) (may : Call → Type 0) (e : Engine S) (roles : ℕ) (s : S) (G : Global ℕ) : Type 0 where
  -- a call is accepted exactly when the step rules allow it then and, for a send, the pair's queue has room
  pub send_exactly : (p q l v : ℕ) → may (sends p q l v)
      → ((e.answer (sends p q l v) s).number ≡ ACCEPTED) ↔ (Allows G (send p q l v) × (e.held s p q < lim.depth))
  pub receive_exactly : (p q : ℕ) → may (receives p q)
      → ((e.answer (receives p q) s).number ≡ ACCEPTED) ↔ ((l : ℕ) × (v : ℕ) × Allows G (receive p q l v))
  -- a receive returns the label and the payload of that step
  pub receive_returns : (p q l v : ℕ) → may (receives p q) → Allows G (receive p q l v)
      → ((e.answer (receives p q) s).label ≡ l) × ((e.answer (receives p q) s).payload ≡ v)
  -- no message that was let in is ever refused for its label, and no call for its tables or its state
  pub never_stray : (p q : ℕ) → may (receives p q) → (e.answer (receives p q) s).number ≢ STRAY
  pub never_tables : (c : Call) → may c → (e.answer c s).number ≢ TABLES
  pub never_state : (c : Call) → may c → (e.answer c s).number ≢ STATE
  -- a send that is refused for its label is offered the least that the step rules allow then; every other answer has the limit's labels there
  pub send_offers : (p q l v : ℕ) → may (sends p q l v) → (e.answer (sends p q l v) s).number ≡ LABEL
      → let k = (e.answer (sends p q l v) s).offered in Allows G (send p q k v) × ((m : ℕ) → Allows G (send p q m v) → k ≤ m)
  pub else_offers : (c : Call) → may c → (e.answer c s).number ≢ LABEL → (e.answer c s).offered ≡ lim.labels
  -- the awaited roles are exactly those with a call that would be accepted; how many they are; and the least, or the limit's roles for none
  pub awaited : ℕ → Bool
  pub awaited_exactly : (r : ℕ) → r < roles → (awaited r ≡ true) ↔ HasCall may e s r
  pub awaited_number : (e.awaited s).number ≡ ACCEPTED
  pub awaited_set : (e.awaited s).set ≡ set_of awaited roles
  pub awaited_count : (e.awaited s).count ≡ how_many awaited roles
  pub awaited_least : (r : ℕ) → r < roles → awaited r ≡ true
      → ((e.awaited s).lowest ≤ r) × (awaited (e.awaited s).lowest ≡ true)
  pub awaited_none : ((r : ℕ) → r < roles → awaited r ≡ false) → (e.awaited s).lowest ≡ lim.roles
  -- a role has ended exactly when the tree leaves it nothing to do
  pub ended_exactly : (r : ℕ) → r < roles → e.ended s r ↔ NothingLeft r G
  -- until every role has ended and every queue is empty somebody is awaited; then nobody is
  pub until_finished : ¬ Finished e roles s → (e.awaited s).set ≢ 0
  pub when_finished : Finished e roles s → (e.awaited s).set ≡ 0

-- of an engine, and a table t of so many roles, when such calls may be made
pub record Conforms {S : Type 0} (lim : Limits) (may : Call → Type 0) (e : Engine S) (t : List ℕ) (roles : ℕ) : Type 0 where
  pub fresh_accepted : e.fresh.number ≡ ACCEPTED
  -- after every list of calls the protocol has come to a tree, from the table's own: each accepted call was a step that it allowed then
  pub comes : (cs : List Call) → Each may cs → (G : Global ℕ) × ComesTo e e.fresh.state (tree_of t) cs G
  -- to one tree only
  pub comes_once : (cs : List Call) (G H : Global ℕ) → ComesTo e e.fresh.state (tree_of t) cs G
      → ComesTo e e.fresh.state (tree_of t) cs H → G ≡ H
  -- and then
  pub follows : (cs : List Call) (G : Global ℕ) → Each may cs → ComesTo e e.fresh.state (tree_of t) cs G
      → Follows lim may e roles (after e cs e.fresh.state) G
  -- and the queue of each pair holds as many messages as those calls sent and did not receive
  pub held_exactly : (cs : List Call) (p q : ℕ) → Each may cs → p < roles → q < roles
      → e.held (after e cs e.fresh.state) p q ≡ length (unread e p q cs e.fresh.state [])

-- for every table that opens in some room, over the first words of the room afterwards
abbrev pub Demand3 : Limits → Type 0
Demand3 lim = (t : List ℕ) (roles : ℕ) (room : List ℕ) → open_of lim t roles (length room) ≡ accepted
    → Conforms lim Every (ours lim (take (roles * length t) (room_of lim t roles room)) roles) t roles
