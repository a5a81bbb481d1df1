-- What demand 3 shuts out, of any engine, for the marked tables T1 and T5; and an invented count, other queues or other ends, for every table.
-- Assumes nothing.
use Prim.Native.Nat.{ℕ, ◌+◌, ◌*◌, ◌≤◌, ◌<◌}
use mathlib.Core.Bool.{Bool, true, false, true≢false}
use mathlib.Core.List.{List, [], ◌∷◌}
use mathlib.Core.Logic.{◌≢◌, ◌↔◌}
use mathlib.Core.Path.{◌≡◌, refl, sym, ◌∙◌, ap, subst}
use native.Mathlib.Decide.{ℕ_discrete}
use native.Mathlib.Omega.{arith}
use lib.ListN.{length, take, get_or, replicate}
use borrow.Author.Tests.{eq-eqb}
use Rattle.words.specs.Below as words
use Rattle.words.specs.Below.{lowest, sum, one, how_many}
use Rattle.words.proofs.Below.{sum_ext}
use Rattle.table.specs.Above.{times, over, chain_over, has_label, loops, only_loops}
use Rattle.table.specs.Check.{accepted}
use Rattle.table.specs.Limits.{Limits, base}
use Rattle.table.specs.Numbers.{ACCEPTED, FIELD}
use Rattle.table.specs.Rules.{breaks}
use Rattle.table.specs.Tree.{Global, end, exchange, flight, loop, back, nil, arm, tree_of}
use Rattle.table.specs.Check.{Verdict}
use Rattle.parts.specs.Merge.{merge}
use Rattle.opening.specs.Marked.{t1, t5, t11}
use Rattle.opening.specs.Opening.{open_of, room_of}
use Rattle.blocks.specs.Head.{chain, find}
use Rattle.state.specs.Numbers.{TURN, LABEL, FULL, EMPTY}
use Rattle.session.specs.Calls.{fresh_of, send_of}
use Rattle.session.specs.Answers.{Answer}
use Rattle.session.specs.declared.Session.{Session}
use Rattle.protocol.specs.Each.{Each, each_nil, each_cons}
use Rattle.protocol.specs.Engine.{Call, sends, receives, caller, Reply, Engine, answer_to, ours}
use Rattle.protocol.specs.Left.{unread, NothingLeft, left_exchange}
use Rattle.protocol.specs.Fits.{Size, Words, Fits, FitsSession}
use Rattle.protocol.specs.Promised.{Code, Promises, code_answer, engine_of}
use Rattle.protocol.specs.Steps.{Action, send, receive, here, Step, rule_1, rule_2, rule_3, rule_4, rule_5, each_arm}
use Rattle.protocol.specs.Unrolled.{unrolled}
use Rattle.protocol.specs.Demand3.{Every, every, after, ComesTo, no_call, accepted_call, HasCall, Follows, Conforms}
use Rattle.protocol.specs.Stranded.{Place, oldest, NothingStranded}
use Rattle.protocol.specs.ShutOut.{silent, refusing, single, still, once, keeping, ignoring, counting, overcounting, saying, boasting}
use Rattle.protocol.proofs.Alike.{same_after, same_unread, forth}
use Rattle.protocol.proofs.Demand3.{demand3_base}
use Rattle.protocol.proofs.Promised.{enough_fits, tables_fit, law_of_the_code, sessions_fit}
use Rattle.protocol.proofs.Sessions.Fitting.{bits}

-- ---- the steps of T1's tree

-- nothing is left to do
abbrev over_now : Global ℕ → Bool
over_now end = true
over_now (exchange p q cs) = false
over_now (flight p q l v G) = false
over_now (loop B) = false
over_now (back k) = false

steps_on : {a : Action ℕ} {G H : Global ℕ} → Step a G H → over_now G ≡ false
steps_on (rule_1 i) = refl
steps_on rule_2 = refl
steps_on (rule_3 t) = refl
steps_on (rule_4 n m some ts) = refl
steps_on (rule_5 n t) = refl

no_step : {a : Action ℕ} {H : Global ℕ} → Step a end H → ⊥
no_step t = true≢false (steps_on t)

no_receive : {p q l v i j k : ℕ} {H : Global ℕ} → Step (receive p q l v) (exchange i j (arm k end nil)) H → ⊥
no_receive (rule_4 n m some (each_arm t ts)) = no_step t

no_second : {p q l v i j k w : ℕ} {H : Global ℕ} → Step (send p q l v) (flight i j k w end) H → ⊥
no_second (rule_5 n t) = no_step t

-- ---- what every engine that conforms to T1 does: role 0 sends 5 to role 1

abbrev tree : Global ℕ
tree = exchange 0 1 (arm 5 end nil)

abbrev first : Call
first = sends 0 1 5 0

module _ {S : Type 0} {may : Call → Type 0} (m : may first) (n : may (receives 0 1)) (e : Engine S) (c : Conforms base may e t1 2) where
  at_first : Follows base may e 2 e.fresh.state tree
  unfolding tree_of after
  at_first = c.follows [] tree each_nil no_call

  none_held : e.held e.fresh.state 0 1 ≡ 0
  unfolding after unread
  none_held = c.held_exactly [] 0 1 each_nil (omega arith) (omega arith)

  first_accepted : (e.answer first e.fresh.state).number ≡ ACCEPTED
  first_accepted = (at_first.send_exactly 0 1 5 0 m).1 ((flight 0 1 5 0 end, rule_1 (here refl)), omega (arith, none_held))

  receive_refused : (e.answer (receives 0 1) e.fresh.state).number ≢ ACCEPTED
  receive_refused ok = let (l, v, allowed) = (at_first.receive_exactly 0 1 n).0 ok in no_receive allowed.1

  at_second : Follows base may e 2 (e.answer first e.fresh.state).state (flight 0 1 5 0 end)
  unfolding tree_of after
  at_second = c.follows (first ∷ []) (flight 0 1 5 0 end) (each_cons m each_nil) (accepted_call first_accepted (rule_1 (here refl)) no_call)

  second_refused : (e.answer first (e.answer first e.fresh.state).state).number ≢ ACCEPTED
  second_refused ok = no_second ((at_second.send_exactly 0 1 5 0 m).0 ok).0.1

  then_receives : (e.answer (receives 0 1) (e.answer first e.fresh.state).state).number ≡ ACCEPTED
  then_receives = (at_second.receive_exactly 0 1 n).1 (5, 0, (end, rule_2))

  -- ---- what is shut out

  -- an engine that refuses every first call
  pub refuses_all : ((d : Call) → may d → (e.answer d e.fresh.state).number ≢ ACCEPTED) → ⊥
  refuses_all f = f first m first_accepted

  -- one that answers every first call with the same number
  pub answers_once : (k : ℕ) → ((d : Call) → may d → (e.answer d e.fresh.state).number ≡ k) → ⊥
  answers_once k f = receive_refused (f (receives 0 1) n ∙ sym (f first m) ∙ first_accepted)

  -- one that leaves the first state as it is
  pub moves_nobody : ((d : Call) → may d → (e.answer d e.fresh.state).state ≡ e.fresh.state) → ⊥
  moves_nobody f = second_refused (rw (f first m) first_accepted)

  -- one whose later answers have the same number, whatever the call
  pub first_only : (k : ℕ) → ((d d' : Call) → may d → may d' → (e.answer d' (e.answer d e.fresh.state).state).number ≡ k) → ⊥
  first_only k f = second_refused (f first first m m ∙ sym (f first (receives 0 1) m n) ∙ then_receives)

-- the first four of specs/ShutOut.antt, made from any engine
pub refusing_fails : {S : Type 0} (e : Engine S) → ¬ Conforms base Every (refusing e) t1 2
refusing_fails e c = refuses_all every every (refusing e) c (λ d _ t. omega arith)

pub single_fails : {S : Type 0} (e : Engine S) (a : Reply S) → ¬ Conforms base Every (single e a) t1 2
single_fails e a c = answers_once every every (single e a) c a.number (λ d _. refl)

pub still_fails : {S : Type 0} (e : Engine S) → ¬ Conforms base Every (still e) t1 2
still_fails e c = moves_nobody every every (still e) c (λ d _. refl)

pub once_fails : {S : Type 0} (e : Engine S) → ¬ Conforms base Every (once e) t1 2
once_fails e c = first_only every every (once e) c ACCEPTED (λ d d' _ _. refl)

-- one that gives T1's role 0 the number 16, and offers nothing
pub silent_fails : {S : Type 0} (e : Engine S) (l : ℕ) → (e.answer (sends 0 1 l 0) e.fresh.state).number ≡ LABEL
    → ¬ Conforms base Every (silent e) t1 2
silent_fails e l refused c =
    let low = ((at_first every every (silent e) c).send_offers 0 1 l 0 every refused).1 5 (flight 0 1 5 0 end, rule_1 (here refl)) in
    let z : 64 ≤ 5 = low in
    omega arith

-- ---- what K13 shuts out

-- an engine that keeps a message for ever: any, once one is unread
pub keeping_strands : {S : Type 0} {may : Call → Type 0} {roles : ℕ} (e : Engine S) (cs : List Call) → Each may cs → (p q k : ℕ) (m : ℕ × ℕ)
    → Place (unread (keeping e) p q cs e.fresh.state []) k m → ¬ NothingStranded may (keeping e) roles
keeping_strands e cs ms p q k m i c = let z : ◌≡◌ {A = ℕ} EMPTY ACCEPTED = ((c cs ms).received p q k m i).last_accepted in omega arith

-- one that lets a role wait for ever: any, while that role has not ended
pub ignoring_strands : {S : Type 0} {may : Call → Type 0} {roles : ℕ} (e : Engine S) (r : ℕ) (cs : List Call) → Each may cs → r < roles
    → ¬ e.ended (after (ignoring e r) cs e.fresh.state) r → ¬ NothingStranded may (ignoring e r) roles
ignoring_strands e r cs ms h n c =
    let (d, m, by, ok) = ((c cs ms).acts r h n).call in
    let z : ◌≡◌ {A = ℕ} TURN ACCEPTED = rw (eq-eqb (caller d) r by) at ok in
    omega arith

-- such as these, made from any engine that conforms to T1: the message of its first send, and role 0 at once
pub keeping_strands_t1 : {S : Type 0} (e : Engine S) → Conforms base Every e t1 2 → ¬ NothingStranded Every (keeping e) 2
unfolding unread
keeping_strands_t1 e c =
    keeping_strands e (first ∷ []) (each_cons every each_nil) 0 1 0 (5, 0) (rw (eq-eqb _ _ (first_accepted every every e c)) oldest)

pub ignoring_strands_t1 : {S : Type 0} (e : Engine S) → Conforms base Every e t1 2 → ¬ NothingStranded Every (ignoring e 0) 2
unfolding after
ignoring_strands_t1 e c =
    ignoring_strands e 0 [] each_nil (omega arith) (λ y. sends_first (((at_first every every e c).ended_exactly 0 (omega arith)).0 y))
  where
    sends_first : NothingLeft 0 tree → ⊥
    sends_first (left_exchange n m l) = n refl

-- ---- what an engine says besides its answers, for a table of any number of roles: there is one that is right

same_test : (a b : Bool) → ((a ≡ true) ↔ (b ≡ true)) → one a ≡ one b
same_test true true h = refl
same_test true false h = absurd (true≢false (sym (h.0 refl)))
same_test false true h = absurd (true≢false (sym (h.1 refl)))
same_test false false h = refl

-- f gives the answers of e
module _ {S : Type 0} {may : Call → Type 0} {lim lim' : Limits} {t : List ℕ} {roles : ℕ} (e f : Engine S) (same : f.answer ≡ e.answer)
    (start : f.fresh ≡ e.fresh) (c : Conforms lim may e t roles) (d : Conforms lim' may f t roles) (cs : List Call) (ms : Each may cs) where
  -- any state will do
  abbrev Any : S → Type 0
  Any s = s ≡ s

  answers_same : (x : Call) (s : S) → may x → Any s → f.answer x s ≡ e.answer x s
  answers_same x s m g = ap (λ h. h x s) same

  begins_same : f.fresh.state ≡ e.fresh.state
  begins_same = ap (λ a. a.state) start

  comes_same : after f cs f.fresh.state ≡ after e cs e.fresh.state
  comes_same = ap (after f cs) begins_same ∙ same_after may Any e f answers_same (λ x s m g. refl) cs e.fresh.state ms refl

  run : (G : Global ℕ) × Follows lim may e roles (after e cs e.fresh.state) G × Follows lim' may f roles (after e cs e.fresh.state) G
  run =
      let (G, r) = c.comes cs ms in
      let r' = subst (λ s. ComesTo f s (tree_of t) cs G) (sym begins_same) (forth may Any e f answers_same (λ x s m g. refl) ms refl r) in
      (G, c.follows cs G ms r, subst (λ s. Follows lim' may f roles s G) comes_same (d.follows cs G ms r'))

  pub one_held : (p q : ℕ) → p < roles → q < roles → f.held (after e cs e.fresh.state) p q ≡ e.held (after e cs e.fresh.state) p q
  one_held p q h i =
      ap (λ s. f.held s p q) (sym comes_same)
      ∙ (d.held_exactly cs p q ms h i
      ∙ (ap length (ap (λ s. unread f p q cs s []) begins_same
      ∙ same_unread may Any e f answers_same (λ x s m g. refl) cs p q e.fresh.state [] ms refl)
      ∙ sym (c.held_exactly cs p q ms h i)))

  pub one_end : (r : ℕ) → r < roles → f.ended (after e cs e.fresh.state) r ↔ e.ended (after e cs e.fresh.state) r
  one_end r h =
      let (G, a, b) = run in (
        λ x. (a.ended_exactly r h).1 ((b.ended_exactly r h).0 x),
        λ x. (b.ended_exactly r h).1 ((a.ended_exactly r h).0 x),
      )

  has_call : (s : S) (r : ℕ) → HasCall may f s r → HasCall may e s r
  has_call s r x = (x.0, x.1, x.2, rw (answers_same x.0 s x.1 refl) at x.3)

  has_call' : (s : S) (r : ℕ) → HasCall may e s r → HasCall may f s r
  has_call' s r x = (x.0, x.1, x.2, rw (answers_same x.0 s x.1 refl) x.3)

  pub one_count : (f.awaited (after e cs e.fresh.state)).count ≡ (e.awaited (after e cs e.fresh.state)).count
  one_count =
      let (G, a, b) = run in
      let counts : how_many b.awaited roles ≡ how_many a.awaited roles =
      sum_ext (λ r. one (b.awaited r)) (λ r. one (a.awaited r)) roles (λ r h. same_test (b.awaited r) (a.awaited r) (
        λ x. (a.awaited_exactly r h).1 (has_call _ r ((b.awaited_exactly r h).0 x)),
        λ x. (b.awaited_exactly r h).1 (has_call' _ r ((a.awaited_exactly r h).0 x)),
      )) in
      b.awaited_count ∙ counts ∙ sym a.awaited_count

-- an invented count, after any calls
pub invented_count : {S : Type 0} {may : Call → Type 0} {lim : Limits} {t : List ℕ} {roles : ℕ} (e : Engine S) (f : S → ℕ) (cs : List Call)
    → Conforms lim may e t roles → Each may cs → f (after e cs e.fresh.state) ≢ (e.awaited (after e cs e.fresh.state)).count
    → ¬ Conforms lim may (counting e f) t roles
invented_count e f cs c ms wrong d = wrong (one_count e (counting e f) refl refl c d cs ms)

-- a queue that holds something, of which each message is said to be four: by any limits
pub boasting_fails : {S : Type 0} {may : Call → Type 0} {lim lim' : Limits} {t : List ℕ} {roles : ℕ} (e : Engine S) (cs : List Call) (p q : ℕ)
    → Conforms lim may e t roles → Each may cs → p < roles → q < roles → e.held (after e cs e.fresh.state) p q ≢ 0
    → ¬ Conforms lim' may (boasting e) t roles
boasting_fails e cs p q c ms h i some d =
    let n = e.held (after e cs e.fresh.state) p q in
    some (no_four n (one_held e (boasting e) refl refl c d cs ms p q h i))
  where
    no_four : (n : ℕ) → 4 * n ≡ n → n ≡ 0
    no_four n x = omega arith

-- of this library's engine, over any table that opens
pub overcounting_fails : (t : List ℕ) (roles : ℕ) (room : List ℕ) → open_of base t roles (length room) ≡ accepted
    → ¬ Conforms base Every (overcounting (ours base (take (roles * length t) (room_of base t roles room)) roles)) t roles
overcounting_fails t roles room opens =
    let e = ours base (take (roles * length t) (room_of base t roles room)) roles in
    invented_count e (λ s. (e.awaited s).count + 1) [] (demand3_base t roles room opens) each_nil (λ x. omega arith)

-- such as T1, in a room of two blocks
abbrev room : List ℕ
room = replicate 24 0

t1_opens : open_of base t1 2 (length room) ≡ accepted
unfolding open_of lowest sum times over chain_over has_label loops only_loops breaks merge ℕ_discrete
t1_opens = refl

-- to which this library's engine conforms
pub conforms_t1 : Conforms base Every (ours base (take (2 * length t1) (room_of base t1 2 room)) 2) t1 2
conforms_t1 = demand3_base t1 2 room t1_opens

pub overcounting_fails_t1 : ¬ Conforms base Every (overcounting (ours base (take (2 * length t1) (room_of base t1 2 room)) 2)) t1 2
overcounting_fails_t1 = overcounting_fails t1 2 room t1_opens

-- ---- code that does so breaks the promises of its calls

t1_words : Words t1
t1_words = record { sized = omega arith; small = bits 16 t1 refl }

room_words : Words room
room_words = record { sized = omega arith; small = bits 16 room refl }

first_fits : Fits first
first_fits = enough_fits.sends 0 1 5 (omega arith) (omega arith) (omega arith)

hears_fits : Fits (receives 0 1)
hears_fits = enough_fits.receives 0 1 (omega arith) (omega arith)

-- it answers like this wherever its types reach
abbrev pub Always : Code → (Session → Answer → Type 0) → Type 0
Always code P = (ts : List ℕ) (roles : ℕ) (c : Call) (s : Session) → Words ts → Size roles → Fits c → FitsSession s → P s (code_answer code ts roles c s)

module _ (code : Code) (keeps : Promises code) where
  -- over what it writes for T1
  abbrev t1_engine : Engine Session
  t1_engine = engine_of code (take (2 * length t1) (code.filled t1 2 room)) 2

  t1_accepted : (code.verdict t1 2 room).number ≡ ACCEPTED
  t1_accepted = ap (λ v. v.number) ((keeps.opening t1 2 room t1_words (omega arith) room_words).0 ∙ t1_opens)

  t1_conforms : Conforms base Fits t1_engine t1 2
  t1_conforms = law_of_the_code code keeps t1 2 room t1_words (omega arith) room_words t1_accepted

  at_once : (P : Session → Answer → Type 0) → Always code P → (c : Call) → Fits c
      → P t1_engine.fresh.state (code_answer code (take (2 * length t1) (code.filled t1 2 room)) 2 c t1_engine.fresh.state)
  unfolding after
  at_once P f c m =
      f _ 2 c _ (tables_fit code keeps t1 2 room t1_words (omega arith) room_words t1_accepted) (omega arith) m
      (sessions_fit code keeps t1 2 room t1_words (omega arith) room_words t1_accepted [] each_nil)

-- it answers every opening like this: the verdict, and the room before and afterwards
abbrev pub AlwaysOpens : Code → (Verdict → List ℕ → List ℕ → Type 0) → Type 0
AlwaysOpens code P = (t : List ℕ) (roles : ℕ) (room : List ℕ) → Words t → Size roles → Words room
    → P (code.verdict t roles room) room (code.filled t roles room)

-- it opens nothing
pub opening_refuses : (code : Code) → AlwaysOpens code (λ v r r'. v.number ≢ ACCEPTED) → ¬ Promises code
opening_refuses code f keeps = f t1 2 room t1_words (omega arith) room_words (t1_accepted code keeps)

-- it has a single verdict: T1 is opened, T11 is refused
pub opening_single : (code : Code) (n : ℕ) → AlwaysOpens code (λ v r r'. v.number ≡ n) → ¬ Promises code
unfolding open_of lowest sum times over chain_over has_label loops only_loops breaks merge ℕ_discrete
opening_single code n f keeps =
    let t11_words : Words t11 = record { sized = omega arith; small = bits 16 t11 refl } in
    let t11_refused : (code.verdict t11 2 room).number ≡ FIELD =
    ap (λ v. v.number) (keeps.opening t11 2 room t11_words (omega arith) room_words).0 in
    let same : ◌≡◌ {A = ℕ} ACCEPTED FIELD =
    sym (t1_accepted code keeps) ∙ f t1 2 room t1_words (omega arith) room_words
    ∙ sym (f t11 2 room t11_words (omega arith) room_words) ∙ t11_refused in
    omega arith

-- it writes nothing: T1's role 0 begins with a Send
pub opening_writes_nothing : (code : Code) → AlwaysOpens code (λ v r r'. r' ≡ r) → ¬ Promises code
unfolding room_of open_of lowest sum times over chain_over has_label loops only_loops breaks merge ℕ_discrete
opening_writes_nothing code f keeps =
    let written : room_of base t1 2 room ≡ room =
    sym (keeps.opening t1 2 room t1_words (omega arith) room_words).1 ∙ f t1 2 room t1_words (omega arith) room_words in
    let first_word : ◌≡◌ {A = ℕ} 5 0 = ap (λ ws. get_or ws 0 0) written in
    omega arith

-- it refuses every call
pub code_refuses : (code : Code) → Always code (λ s a. a.number ≢ ACCEPTED) → ¬ Promises code
code_refuses code f keeps =
    refuses_all first_fits hears_fits (t1_engine code keeps) (t1_conforms code keeps) (at_once code keeps (λ s a. a.number ≢ ACCEPTED) f)

-- it has a single answer to every call
pub code_single : (code : Code) (n : ℕ) → Always code (λ s a. a.number ≡ n) → ¬ Promises code
code_single code n f keeps =
    answers_once first_fits hears_fits (t1_engine code keeps) (t1_conforms code keeps) n (at_once code keeps (λ s a. a.number ≡ n) f)

-- it moves nobody
pub code_still : (code : Code) → Always code (λ s a. a.state ≡ s) → ¬ Promises code
code_still code f keeps =
    moves_nobody first_fits hears_fits (t1_engine code keeps) (t1_conforms code keeps) (at_once code keeps (λ s a. a.state ≡ s) f)

-- ---- T5: role 0 may send label 1 again before role 1 receives

abbrev again : Global ℕ
again = loop (exchange 0 1 (arm 1 (back 0) (arm 2 end nil)))

abbrev says : Call
says = sends 0 1 1 7

module _ {S : Type 0} {may : Call → Type 0} (m : may says) (e : Engine S) (c : Conforms base may e t5 3) where
  said : Step (send 0 1 1 7) again (flight 0 1 1 7 again)
  unfolding unrolled
  said = rule_3 (rule_1 (here refl))

  once_accepted : (e.answer says e.fresh.state).number ≡ ACCEPTED
  unfolding tree_of after unread
  once_accepted =
      let none = c.held_exactly [] 0 1 each_nil (omega arith) (omega arith) in
      ((c.follows [] again each_nil no_call).send_exactly 0 1 1 7 m).1 ((flight 0 1 1 7 again, said), omega (arith, none))

  pub twice_accepted : (e.answer says (e.answer says e.fresh.state).state).number ≡ ACCEPTED
  unfolding tree_of after unread
  twice_accepted =
      let ms : Each may (says ∷ []) = each_cons m each_nil in
      let held_one : e.held (e.answer says e.fresh.state).state 0 1 ≡ 1 =
      c.held_exactly (says ∷ []) 0 1 ms (omega arith) (omega arith) ∙ rw (eq-eqb _ _ once_accepted) refl in
      let other : ◌≢◌ {A = ℕ} 0 1 = omega arith in
      ((c.follows (says ∷ []) (flight 0 1 1 7 again) ms (accepted_call once_accepted said no_call)
      ).send_exactly 0 1 1 7 m).1 ((flight 0 1 1 7 (flight 0 1 1 7 again), rule_5 other said), omega (arith, held_one))

-- the customer's limits, but queues of one message
abbrev pub shallow : Limits
shallow = record { roles = base.roles; rows = base.rows; labels = base.labels; depth = 1 }

abbrev room5 : List ℕ
room5 = replicate 72 0

t5_opens : open_of shallow t5 3 (length room5) ≡ accepted
unfolding open_of lowest sum times over chain_over has_label loops only_loops breaks merge ℕ_discrete
t5_opens = refl

abbrev pub one_deep : Engine Session
one_deep = ours shallow (take (3 * length t5) (room_of shallow t5 3 room5)) 3

-- its second send is FULL
one_deep_full : (one_deep.answer says (one_deep.answer says one_deep.fresh.state).state).number ≡ FULL
unfolding answer_to send_of fresh_of room_of open_of lowest sum times over chain_over has_label loops only_loops breaks merge ℕ_discrete chain find words.every
one_deep_full = refl

-- and so it fails for queues of four, whatever it says of its queues and of who has ended
pub one_deep_fails : (f : Session → ℕ → ℕ → ℕ) (g : Session → ℕ → Type 0) → ¬ Conforms base Every (saying one_deep f g) t5 3
one_deep_fails f g c =
    let e : ◌≡◌ {A = ℕ} FULL ACCEPTED = sym one_deep_full ∙ twice_accepted every (saying one_deep f g) c in omega arith

pub boasting_fails_t5 : ¬ Conforms base Every (boasting one_deep) t5 3
boasting_fails_t5 = one_deep_fails (λ s p q. 4 * one_deep.held s p q) one_deep.ended
