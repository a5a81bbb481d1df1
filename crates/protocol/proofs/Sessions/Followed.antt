-- What demand 3 asks of a session holds of one that agrees with a running tree. Assumes nothing.
use Prim.Native.Nat.{ℕ, zero, suc, ◌*◌, ◌^◌, ◌≤◌, ◌<◌}
use mathlib.Core.Bool.{Bool, true, false, cond, ◌&&◌, true≢false}
use mathlib.Core.List.{List, [], ◌∷◌}
use mathlib.Core.Logic.{◌≢◌, ◌↔◌, inl, inr}
use mathlib.Core.Path.{◌≡◌, refl, sym, ◌∙◌, ap}
use native.Mathlib.Decide.{ℕ_discrete, dec_lt}
use native.Mathlib.Nat.{zero-mul, one-mul}
use native.Mathlib.Omega.{arith}
use lib.Dec.{ltb, eqb}
use lib.ListN.{length}
use lib.Pow.{pow_pos}
use borrow.Author.Tests.{lt-ltb, le-ltb, eqb-true, eq-eqb}
use Rattle.words.specs.Below.{lowest, sum, one, set_of}
use Rattle.words.proofs.Below.{Lowest, found, nowhere, lowest_is, lowest_none, sum_zero}
use Rattle.table.specs.Limits.{Limits}
use Rattle.table.specs.Numbers.{ACCEPTED}
use Rattle.table.specs.Tree.{Global}
use Rattle.table.proofs.Tests.{both}
use Rattle.blocks.specs.Block.{PartRow, End, Arm, Loop, Back, Send, Receive, Other, part_row, is_head}
use Rattle.blocks.specs.Head.{ArmAt, head, find, lowest_label}
use Rattle.blocks.specs.Tables.{row_holds, to_arm, is_peer}
use Rattle.state.specs.Numbers.{TABLES, STATE, LABEL, STRAY}
use Rattle.state.specs.State.{are_pair}
use Rattle.state.specs.Awaited.{can_act}
use Rattle.session.specs.State.{head_of, held, label_at, payload_at}
use Rattle.session.specs.Awaited.{is_awaited, awaited_of}
use Rattle.session.specs.Offered.{Least}
use Rattle.session.specs.Answers.{Answer}
use Rattle.session.specs.declared.Session.{Session}
use Rattle.session.proofs.Accepted.{is_found_lem}
use Rattle.session.proofs.Offered.{least_arm}
use Rattle.protocol.specs.Steps.{Action, send, receive}
use Rattle.protocol.specs.Engine.{Call, sends, receives, answer_to, ours}
use Rattle.protocol.specs.Left.{NothingLeft}
use Rattle.protocol.specs.Demand3.{Every, every, Allows, Finished, Follows}
use Rattle.protocol.proofs.Invariant.View.{View, v_end, v_send, v_receive, v_loop, v_back, Does, does_send, of_send, same_send, end≢send, end≢receive, end≢loop, end≢back}
use Rattle.protocol.proofs.Invariant.Agree.{sender, receiver, IsSend, is_send_lem, Config, Moves, m_send, m_receive}
use Rattle.protocol.proofs.Invariant.Holds.{Holds}
use Rattle.protocol.proofs.Invariant.Ended.{end_left, left_ends}
use Rattle.protocol.proofs.Invariant.Unread.{holds_once}
use Rattle.protocol.proofs.Invariant.Queues.{nil≢cons}
use Rattle.protocol.proofs.Invariant.Theorems.{one≢0, preservation, completeness, progress, Unfinished}
use Rattle.protocol.proofs.Blocks.Views.{look, view_of}
use Rattle.protocol.proofs.Sessions.Walks.{holds}
use Rattle.protocol.proofs.Sessions.States.{Pair, state_good_lem}
use Rattle.protocol.proofs.Sessions.Config.{listed, message_at, contents, config_of, queue_of, fresh_queue}
use Rattle.protocol.proofs.Sessions.Calls.{
  stands_at,
  stands_row,
  sending,
  plain,
  SendCase,
  send_refused,
  send_unknown,
  send_accepted,
  ReceiveCase,
  receive_refused,
  receive_accepted,
}
use Rattle.protocol.proofs.Sessions.Runs.{Ground, Inv, Outcome, refused, accepted, outcome, the_send, the_receive}
use Rattle.protocol.proofs.Sessions.Awaited.{Enough, send_is_accepted, receive_is_accepted, has_call_awaited, awaited_has_call}

-- ---- lists of messages

same_first : {B : Type 0} {x y : B} {xs ys : List B} → (x ∷ xs) ≡ (y ∷ ys) → x ≡ y
same_first e = cc

only_cons : {X : Type 0} (b : Bool) (xs : List X) {y : X} {ys : List X} → cond b xs [] ≡ (y ∷ ys) → xs ≡ (y ∷ ys)
only_cons true xs e = e
only_cons false xs e = nil≢cons e

listed_cons : {X : Type 0} (f : ℕ → X) (n : ℕ) {y : X} {ys : List X} → listed f n ≡ (y ∷ ys) → (0 < n) × (f 0 ≡ y)
unfolding listed
listed_cons f zero e = nil≢cons e
listed_cons f (suc n) e = (omega arith, same_first e)

listed_length : {X : Type 0} (f : ℕ → X) (n : ℕ) → length (listed f n) ≡ n
unfolding listed
listed_length f zero = refl
listed_length f (suc n) = ap suc (listed_length (λ k. f (suc k)) n)

listed_nil : {X : Type 0} (f : ℕ → X) (n : ℕ) → listed f n ≡ [] → n ≡ 0
unfolding listed
listed_nil f zero e = refl
listed_nil f (suc n) e = nil≢cons (sym e)

-- ---- what a number of roles says

sum_term : (f : ℕ → ℕ) (n k : ℕ) → sum f n ≡ 0 → k < n → f k ≡ 0
unfolding sum
sum_term f zero k e h = absurd (omega arith)
sum_term f (suc n) k e h = go (ℕ_discrete k n) (λ less. sum_term f n k (omega arith) less)
  where
    go : Dec (k ≡ n) → (k < n → f k ≡ 0) → f k ≡ 0
    go (yes t) g = rw t (omega arith)
    go (no t) g = g (omega arith)

no_weight : (b : Bool) (k : ℕ) → one b * 2 ^ k ≡ 0 → b ≡ false
no_weight true k e = absurd (omega (arith, one-mul (2 ^ k), pow_pos k))
no_weight false k e = refl

nobody : (p : ℕ → Bool) (n : ℕ) → set_of p n ≡ 0 → (k : ℕ) → k < n → p k ≡ false
nobody p n e k h = no_weight (p k) k (sum_term (λ j. one (p j) * 2 ^ j) n k e h)

pub empty_set : (p : ℕ → Bool) (n : ℕ) → ((k : ℕ) → k < n → p k ≡ false) → set_of p n ≡ 0
empty_set p n f = sum_zero (λ k. one (p k) * 2 ^ k) n (λ k h. rw (f k h) (zero-mul (2 ^ k)))

least : (p : ℕ → Bool) (n m r i : ℕ) → Lowest p n i → r < n → p r ≡ true → (cond (ltb i n) i m ≤ r) × (p (cond (ltb i n) i m) ≡ true)
least p n m r i (found {i = j} h e below) r< e' = rw (lt-ltb j n h) (go (dec_lt r j), e)
  where
    go : Dec (r < j) → j ≤ r
    go (yes less) = absurd (true≢false (sym e' ∙ below r less))
    go (no not_less) = omega arith
least p n m r i (nowhere f) r< e = absurd (true≢false (sym e ∙ f r r<))

-- ---- views

view_end : (w : View) → Dec (w ≡ v_end)
view_end v_end = yes refl
view_end (v_send q arms) = no (λ e. end≢send e refl)
view_end (v_receive q arms) = no (λ e. end≢receive e refl)
view_end (v_loop x) = no (λ e. end≢loop e refl)
view_end (v_back x) = no (λ e. end≢back e refl)

-- ---- moves

module _ (view : ℕ → ℕ → View) (head : ℕ → ℕ → ℕ) where
  moves_send : {c : Config ℕ} {p q l v : ℕ} {c' : Config ℕ} → Moves view head c (send p q l v) c' → (x : ℕ) × Does (send p q l v) (view p (c.rows p)) x
  moves_send (m_send {x = x} d) = (x, d)

  moves_receive : {c : Config ℕ} {p q l v : ℕ} {c' : Config ℕ} → Moves view head c (receive p q l v) c'
      → (x : ℕ) × (w : List (ℕ × ℕ)) × Does (receive p q l v) (view q (c.rows q)) x × (c.queue p q ≡ ((l, v) ∷ w))
  moves_receive (m_receive {x = x} {w = w} d e) = (x, w, d, e)

module _ (lim : Limits) (ts : List ℕ) (roles : ℕ) (ground : Ground lim ts roles) (deep : 0 < lim.depth) (s : Session) (G : Global ℕ)
    (inv : Inv lim ts roles s G) where
  queue_held : (p q : ℕ) {l v : ℕ} {w : List (ℕ × ℕ)} → (config_of lim roles s).queue p q ≡ ((l, v) ∷ w)
      → (0 < held lim s p q) × (label_at lim s p q 0 ≡ l) × (payload_at lim s p q 0 ≡ v)
  queue_held p q e =
      let (h, f) = listed_cons (message_at lim s p q) (held lim s p q) (only_cons (are_pair roles p q) (contents lim s p q) e) in
      (h, ap (λ m. m.0) f, ap (λ m. m.1) f)

  pub queue_empty : (p q : ℕ) → Pair roles p q → (config_of lim roles s).queue p q ≡ [] → held lim s p q ≡ 0
  queue_empty p q two e = listed_nil (message_at lim s p q) (held lim s p q) (sym (queue_of lim roles p q s two) ∙ e)

  no_self : (p q : ℕ) → p < roles → q < roles → p ≡ q → held lim s p q ≡ 0
  no_self p q h i e =
      inv.kept.no_pair p q (omega (arith, ground.few_roles)) (omega (arith, ground.few_roles)) (rw (e, lt-ltb q roles i, eq-eqb q q refl))

  stands_at_lem : (r : ℕ) (w : PartRow) → r < roles → part_row ts roles r (head_of s r) ≡ w → stands_at lim ts roles s r ≡ look ts roles r (head_of s r) w
  stands_at_lem r w h e = stands_row lim ts roles s ground.tables ground.good inv.kept r w h e

  -- ---- accepted exactly when allowed

  pub allowed_send : (p q l v : ℕ) → Allows G (send p q l v) → (c : ℕ) × Does (send p q l v) (stands_at lim ts roles s p) c
  allowed_send p q l v t =
      let (c', m, g) = preservation (view_of ts roles) (head ts roles) (config_of lim roles s) t.1 inv.agrees in
      moves_send (view_of ts roles) (head ts roles) m

  pub allowed_receive : (p q l v : ℕ) → Allows G (receive p q l v)
      → (c : ℕ) × (w : List (ℕ × ℕ)) × Does (receive p q l v) (stands_at lim ts roles s q) c × ((config_of lim roles s).queue p q ≡ ((l, v) ∷ w))
  allowed_receive p q l v t =
      let (c', m, g) = preservation (view_of ts roles) (head ts roles) (config_of lim roles s) t.1 inv.agrees in
      moves_receive (view_of ts roles) (head ts roles) m

  sent_allowed : (p q l v : ℕ) {a : Answer} → Outcome lim ts roles ground s G inv (sends p q l v) a → SendCase lim ts roles s p q l v a
      → a.number ≡ ACCEPTED → Allows G (send p q l v) × (held lim s p q < lim.depth)
  sent_allowed p q l v (refused n e) c ok = absurd (n ok)
  sent_allowed p q l v (accepted G' n step i) (send_refused r cannot) ok = absurd ((plain r).not_accepted ok)
  sent_allowed p q l v (accepted G' n step i) (send_unknown arms f u) ok = absurd (omega arith)
  sent_allowed p q l v (accepted G' n step i) (send_accepted c two d room) ok = ((G', step), room)

  received_allowed : (p q : ℕ) {a : Answer} → Outcome lim ts roles ground s G inv (receives p q) a → a.number ≡ ACCEPTED
      → (l : ℕ) × (v : ℕ) × Allows G (receive p q l v)
  received_allowed p q (refused n e) ok = absurd (n ok)
  received_allowed p q {a} (accepted G' n step i) ok = (a.label, a.payload, (G', step))

  returned : {p q l v : ℕ} {w : List (ℕ × ℕ)} {a : Answer} → ReceiveCase lim ts roles s p q a → (c : ℕ)
      → Does (receive p q l v) (stands_at lim ts roles s q) c → (config_of lim roles s).queue p q ≡ ((l, v) ∷ w) → (a.label ≡ l) × (a.payload ≡ v)
  returned {p} {q} {l} {v} (receive_refused n cannot) c d e = let (h, f, g) = queue_held p q e in absurd (cannot l v c d h)
  returned {p} {q} (receive_accepted c' two d' h') c d e = let (h, f, g) = queue_held p q e in (f, g)

  -- ---- never refused for its label, its tables, its state

  receive_not_stray : {p q : ℕ} {a : Answer} → ReceiveCase lim ts roles s p q a → a.number ≢ STRAY
  receive_not_stray (receive_refused n cannot) = (plain n).not_stray
  receive_not_stray (receive_accepted c two d h) = λ e. omega arith

  send_not : {p q l v : ℕ} {a : Answer} → SendCase lim ts roles s p q l v a → (a.number ≢ TABLES) × (a.number ≢ STATE)
  send_not (send_refused n cannot) = ((plain n).not_tables, (plain n).not_state)
  send_not (send_unknown arms f u) = (λ e. omega arith, λ e. omega arith)
  send_not (send_accepted c two d room) = (λ e. omega arith, λ e. omega arith)

  receive_not : {p q : ℕ} {a : Answer} → ReceiveCase lim ts roles s p q a → (a.number ≢ TABLES) × (a.number ≢ STATE)
  receive_not (receive_refused n cannot) = ((plain n).not_tables, (plain n).not_state)
  receive_not (receive_accepted c two d h) = (λ e. omega arith, λ e. omega arith)

  call_not : (c : Call) → ((answer_to lim ts roles c s).number ≢ TABLES) × ((answer_to lim ts roles c s).number ≢ STATE)
  unfolding answer_to
  call_not (sends p q l v) = send_not (the_send lim ts roles ground s G inv p q l v)
  call_not (receives p q) = receive_not (the_receive lim ts roles ground s G inv p q)

  -- ---- what is offered

  -- the arms of a send have a least label
  least_sent : (p q : ℕ) (arms : List ArmAt) → stands_at lim ts roles s p ≡ v_send q arms → Least lim arms (lowest_label lim.labels arms)
  unfolding row_holds
  least_sent p q arms e =
      let at = sending lim ts roles s ground.tables ground.good inv.kept p q arms e in
      let h = at.pair.sender_in in
      let row : row_holds lim ts roles p (head_of s p) (Send q at.first at.unused) ≡ true =
      rw at.row at (holds lim ts roles p (λ x i. ground.good p x h i) (head_of s p) (inv.kept.heads_in p h)) in
      let (link, spare) = both (is_peer roles p q && to_arm ts roles p (head_of s p) at.first) (eqb at.unused 0) row in
      rw (← at.same)
      (least_arm lim ts roles p (λ x i. holds lim ts roles p (λ y j. ground.good p y h j) x i) (head_of s p) at.first (inv.kept.heads_in p h)
      (both (is_peer roles p q) (to_arm ts roles p (head_of s p) at.first) link).1)

  sent_offers : {p q l v : ℕ} {a : Answer} → SendCase lim ts roles s p q l v a → a.number ≡ LABEL
      → Allows G (send p q a.offered v) × ((m : ℕ) → Allows G (send p q m v) → a.offered ≤ m)
  sent_offers (send_refused n cannot) e = absurd ((plain n).not_label e)
  sent_offers {p} {q} {l} {v} (send_unknown arms f u) e =
      let k = lowest_label lim.labels arms in
      let least = least_sent p q arms f in
      let (c, sent) = is_found_lem (find k arms) least.among in
      let does : Does (send p q k v) (stands_at lim ts roles s p) c = rw f (does_send {q = q} {arms = arms} sent) in
      let (G', step, g) = completeness (view_of ts roles) (head ts roles) {c = config_of lim roles s} inv.agrees (m_send does) in (
        (G', step),
        λ m t. let (c', d) = allowed_send p q m v t in
            let (arms', f', g') = of_send d in
            least.none_lower m (rw ((same_send f f').1, g')),
      )
  sent_offers (send_accepted c two d room) e = absurd (omega arith)

  send_else : {p q l v : ℕ} {a : Answer} → SendCase lim ts roles s p q l v a → a.number ≢ LABEL → a.offered ≡ lim.labels
  send_else (send_refused n cannot) e = refl
  send_else (send_unknown arms f u) e = absurd (e refl)
  send_else (send_accepted c two d room) e = refl

  receive_else : {p q : ℕ} {a : Answer} → ReceiveCase lim ts roles s p q a → a.offered ≡ lim.labels
  receive_else (receive_refused n cannot) = refl
  receive_else (receive_accepted c two d h) = refl

  call_else : (c : Call) → (answer_to lim ts roles c s).number ≢ LABEL → (answer_to lim ts roles c s).offered ≡ lim.labels
  unfolding answer_to
  call_else (sends p q l v) e = send_else (the_send lim ts roles ground s G inv p q l v) e
  call_else (receives p q) e = receive_else (the_receive lim ts roles ground s G inv p q)

  -- ---- who has ended

  end_row : (r : ℕ) → r < roles → (w : PartRow) → part_row ts roles r (head_of s r) ≡ w → is_head w ≡ true
      → row_holds lim ts roles r (head_of s r) w ≡ true → stands_at lim ts roles s r ≡ v_end → w ≡ End 0 0 0
  unfolding row_holds
  end_row r h (End a b c) e acts row at =
      let (e₁, f₁) = both (eqb a 0 && eqb b 0) (eqb c 0) row in
      let (e₂, f₂) = both (eqb a 0) (eqb b 0) e₁ in
      rw (eqb-true a 0 e₂, eqb-true b 0 f₂, eqb-true c 0 f₁)
  end_row r h (Arm l c n) e acts row at = absurd (true≢false (sym acts))
  end_row r h (Loop b x y) e acts row at = absurd (true≢false (sym acts))
  end_row r h (Back j x y) e acts row at = absurd (true≢false (sym acts))
  end_row r h (Send q f x) e acts row at = absurd (end≢send at (stands_at_lem r (Send q f x) h e))
  end_row r h (Receive q f x) e acts row at = absurd (end≢receive at (stands_at_lem r (Receive q f x) h e))
  end_row r h Other e acts row at = absurd (true≢false (sym acts))

  pub stands_end : (r : ℕ) → r < roles → stands_at lim ts roles s r ≡ v_end → part_row ts roles r (head_of s r) ≡ End 0 0 0
  stands_end r h at =
      end_row r h (part_row ts roles r (head_of s r)) refl (inv.kept.heads_act r h)
      (holds lim ts roles r (λ x i. ground.good r x h i) (head_of s r) (inv.kept.heads_in r h)) at

  ended_left : (r : ℕ) → r < roles → (part_row ts roles r (head_of s r) ≡ End 0 0 0) ↔ NothingLeft r G
  ended_left r h = (
    λ e. end_left (view_of ts roles r) (head ts roles r) (inv.agrees.covered r 1) one≢0 (stands_at_lem r (End 0 0 0) h e),
    λ f. stands_end r h (left_ends (view_of ts roles r) (head ts roles r) (inv.agrees.covered r 1) one≢0 f),
  )

  -- ---- what the queues hold

  pub count_held : {w : List (ℕ × ℕ)} (p q : ℕ) → p < roles → q < roles → Holds p q G w → Dec (p ≡ q) → held lim s p q ≡ length w
  count_held p q h i f (yes e) =
      let none = no_self p q h i e in none ∙ sym (ap length (holds_once f (inv.agrees.held p q) ∙ fresh_queue lim roles s p q none))
  count_held p q h i f (no n) =
      let two : Pair roles p q = record { sender_in = h; receiver_in = i; different = n } in
      sym (ap length (holds_once f (inv.agrees.held p q) ∙ queue_of lim roles p q s two) ∙ listed_length (message_at lim s p q) (held lim s p q))

  -- ---- somebody is awaited until all have ended

  moving : (a : Action ℕ) (c' : Config ℕ) → Moves (view_of ts roles) (head ts roles) (config_of lim roles s) a c'
      → (IsSend a → (config_of lim roles s).queue (sender a) (receiver a) ≡ []) → (r : ℕ) × (r < roles) × (is_awaited lim ts roles s r ≡ true)
  unfolding answer_to
  moving (send p q l v) c' m alone =
      let (c, d) = moves_send (view_of ts roles) (head ts roles) m in
      let (arms, e, f) = of_send d in
      let two = (sending lim ts roles s ground.tables ground.good inv.kept p q arms e).pair in
      let none_held : held lim s p q ≡ 0 = queue_empty p q two (alone is_send_lem) in
      let ok = send_is_accepted lim ts roles ground s G inv (the_send lim ts roles ground s G inv p q l v) c d (omega arith) in
      (p, two.sender_in, has_call_awaited lim ts roles ground s G inv {may = Every} p (sends p q l v, every, refl, ok))
  moving (receive p q l v) c' m alone =
      let (c, w, d, e) = moves_receive (view_of ts roles) (head ts roles) m in
      let (some_held, f, g) = queue_held p q e in
      let ok = receive_is_accepted lim ts roles ground s G inv (the_receive lim ts roles ground s G inv p q) l v c d some_held in
      (q, here (the_receive lim ts roles ground s G inv p q) ok, has_call_awaited lim ts roles ground s G inv {may = Every} q (receives p q, every, refl, ok))
    where
      here : {a : Answer} → ReceiveCase lim ts roles s p q a → a.number ≡ ACCEPTED → q < roles
      here (receive_refused n cannot) ok = absurd ((plain n).not_accepted ok)
      here (receive_accepted c two d h) ok = two.receiver_in

  somebody : Unfinished {A = ℕ} (view_of ts roles) (head ts roles) (config_of lim roles s) → (r : ℕ) × (r < roles) × (is_awaited lim ts roles s r ≡ true)
  somebody t =
      let (a, c', m, alone) = progress (view_of ts roles) (head ts roles) {c = config_of lim roles s} 0 inv.agrees t in moving a c' m alone

  module _ (none : (r : ℕ) → r < roles → is_awaited lim ts roles s r ≡ false) where
    all_done : Unfinished {A = ℕ} (view_of ts roles) (head ts roles) (config_of lim roles s) → ⊥
    all_done t = let (r, h, e) = somebody t in true≢false (sym e ∙ none r h)

    ended_now : (r : ℕ) → r < roles → Dec (stands_at lim ts roles s r ≡ v_end) → part_row ts roles r (head_of s r) ≡ End 0 0 0
    ended_now r h (yes at) = stands_end r h at
    ended_now r h (no n) = absurd (all_done (inl (r, n)))

    no_message : (p q : ℕ) → p < roles → q < roles → Dec (held lim s p q ≡ 0) → Dec (p ≡ q) → held lim s p q ≡ 0
    no_message p q h i (yes e) d = e
    no_message p q h i (no n) (yes e) = no_self p q h i e
    no_message p q h i (no n) (no m) =
        let two : Pair roles p q = record { sender_in = h; receiver_in = i; different = m } in
        absurd (all_done (inr (p, q, λ e. n (queue_empty p q two e))))

    pub finished : Finished (ours lim ts roles) roles s
    finished = record {
      ended = λ r h. ended_now r h (view_end (stands_at lim ts roles s r));
      empty = λ p q h i. no_message p q h i (ℕ_discrete (held lim s p q) 0) (ℕ_discrete p q);
    }

  finished_none : Finished (ours lim ts roles) roles s → (r : ℕ) → r < roles → is_awaited lim ts roles s r ≡ false
  unfolding can_act
  finished_none f r h = rw (f.ended r h, can_act)

  set_is : (awaited_of lim ts roles s).set ≡ set_of (is_awaited lim ts roles s) roles
  unfolding awaited_of
  set_is = rw (ground.tables, state_good_lem lim ts roles s inv.kept)

  pub followed : {may : Call → Type 0} → Enough lim may → Follows lim may (ours lim ts roles) roles s G
  unfolding awaited_of answer_to
  followed enough = record {
    send_exactly = λ p q l v _. (
      λ ok. sent_allowed p q l v (outcome lim ts roles ground s G inv (sends p q l v)) (the_send lim ts roles ground s G inv p q l v) ok,
      λ t. let (c, d) = allowed_send p q l v t.0 in
          send_is_accepted lim ts roles ground s G inv (the_send lim ts roles ground s G inv p q l v) c d t.1,
    );
    receive_exactly = λ p q _. (
      λ ok. received_allowed p q (outcome lim ts roles ground s G inv (receives p q)) ok,
      λ t. let (c, w, d, e) = allowed_receive p q t.0 t.1 t.2 in
          receive_is_accepted lim ts roles ground s G inv (the_receive lim ts roles ground s G inv p q) t.0 t.1 c d (queue_held p q e).0,
    );
    receive_returns = λ p q l v _ t.
        let (c, w, d, e) = allowed_receive p q l v t in returned (the_receive lim ts roles ground s G inv p q) c d e;
    never_stray = λ p q _. receive_not_stray (the_receive lim ts roles ground s G inv p q);
    never_tables = λ c _. (call_not c).0;
    never_state = λ c _. (call_not c).1;
    send_offers = λ p q l v _. sent_offers (the_send lim ts roles ground s G inv p q l v);
    else_offers = λ c _. call_else c;
    awaited = is_awaited lim ts roles s;
    awaited_exactly = λ r h. (awaited_has_call lim ts roles ground s G inv enough r h, has_call_awaited lim ts roles ground s G inv r);
    awaited_number = rw (ground.tables, state_good_lem lim ts roles s inv.kept);
    awaited_set = set_is;
    awaited_count = rw (ground.tables, state_good_lem lim ts roles s inv.kept);
    awaited_least = λ r h e.
        rw (ground.tables, state_good_lem lim ts roles s inv.kept)
        (least (is_awaited lim ts roles s) roles lim.roles r (lowest (is_awaited lim ts roles s) roles)
        (lowest_is (is_awaited lim ts roles s) roles) h e);
    awaited_none = λ f.
        rw (ground.tables, state_good_lem lim ts roles s inv.kept, lowest_none (is_awaited lim ts roles s) roles f, le-ltb roles roles (omega arith));
    ended_exactly = ended_left;
    until_finished = λ not_yet e. not_yet (finished (nobody (is_awaited lim ts roles s) roles (sym set_is ∙ e)));
    when_finished = λ f. set_is ∙ empty_set (is_awaited lim ts roles s) roles (finished_none f);
  }
