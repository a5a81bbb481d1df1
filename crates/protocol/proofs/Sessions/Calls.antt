-- When a send and a receive are accepted, and what they then do, by where the role stands and what the queue holds. Assumes nothing.
use Prim.Native.Nat.{ℕ, ◌≤◌, ◌<◌}
use mathlib.Core.Bool.{Bool, true, false, cond, not, true≢false}
use mathlib.Core.List.{List}
use mathlib.Core.Logic.{◌≢◌}
use mathlib.Core.Option.{Option, none, some}
use mathlib.Core.Path.{◌≡◌, refl, sym, ◌∙◌, ap}
use native.Mathlib.Decide.{dec_lt}
use native.Mathlib.Omega.{arith}
use lib.Dec.{leb, eqb}
use borrow.Author.Tests.{eqb-true, eqb-false, leb-true, leb-false, le-ltb}
use Rattle.table.specs.Limits.{Limits}
use Rattle.table.specs.Numbers.{ACCEPTED}
use Rattle.blocks.specs.Block.{PartRow, End, Arm, Loop, Back, Send, Receive, Other, part_row, block_rows}
use Rattle.blocks.specs.Head.{ArmAt, head, arms_of, find, lowest_label}
use Rattle.blocks.specs.Tables.{row_good, tables_good}
use Rattle.state.specs.Numbers.{TABLES, STATE, PARTY, TURN, LABEL, FULL, EMPTY, STRAY}
use Rattle.state.specs.State.{are_pair}
use Rattle.session.specs.State.{head_of, held, label_at, payload_at, moved, pushed}
use Rattle.session.specs.Calls.{offering, answers, received, refused_if, send_arm, send_at, send_of, receive_arm, receive_at, receive_of}
use Rattle.session.specs.Answers.{Answer}
use Rattle.session.specs.declared.Session.{Session}
use Rattle.protocol.specs.Steps.{send, receive}
use Rattle.protocol.proofs.Parts.Arms.{none≢some}
use Rattle.protocol.proofs.Invariant.View.{
  View,
  v_end,
  v_send,
  v_receive,
  v_loop,
  v_back,
  Does,
  does_send,
  does_receive,
  of_send,
  of_receive,
  end≢send,
  end≢receive,
  send≢receive,
  same_send,
  same_receive,
}
use Rattle.protocol.proofs.Blocks.Views.{look, view_of, view_in}
use Rattle.protocol.proofs.Sessions.Walks.{holds, send_row, receive_row}
use Rattle.protocol.proofs.Sessions.States.{Pair, pair_true, pair_facts, StateKept, state_good_lem}

loop≢send : {w : View} {y q : ℕ} {arms : List ArmAt} → w ≡ v_loop y → w ≡ v_send q arms → ⊥
loop≢send e f = let z : ◌≡◌ {A = ℕ} 0 1 = cc in omega arith

loop≢receive : {w : View} {y q : ℕ} {arms : List ArmAt} → w ≡ v_loop y → w ≡ v_receive q arms → ⊥
loop≢receive e f = let z : ◌≡◌ {A = ℕ} 0 1 = cc in omega arith

back≢send : {w : View} {y q : ℕ} {arms : List ArmAt} → w ≡ v_back y → w ≡ v_send q arms → ⊥
back≢send e f = let z : ◌≡◌ {A = ℕ} 0 1 = cc in omega arith

back≢receive : {w : View} {y q : ℕ} {arms : List ArmAt} → w ≡ v_back y → w ≡ v_receive q arms → ⊥
back≢receive e f = let z : ◌≡◌ {A = ℕ} 0 1 = cc in omega arith

pub view_absent : (ts : List ℕ) (roles r x : ℕ) → roles ≤ r → view_of ts roles r x ≡ v_end
unfolding view_of
view_absent ts roles r x h = rw (le-ltb r roles h)

look_send : (ts : List ℕ) (roles r x q : ℕ) (arms : List ArmAt) (w : PartRow) → look ts roles r x w ≡ v_send q arms
    → (f : ℕ) × (a : ℕ) × (w ≡ Send q f a)
look_send ts roles r x q arms (End a b c) e = absurd (end≢send refl e)
look_send ts roles r x q arms (Arm l c n) e = absurd (loop≢send refl e)
look_send ts roles r x q arms (Loop y a b) e = absurd (loop≢send refl e)
look_send ts roles r x q arms (Back y a b) e = absurd (back≢send refl e)
look_send ts roles r x q arms (Send q' f a) e = (f, a, ap (λ z. Send z f a) (same_send refl e).0)
look_send ts roles r x q arms (Receive q' f a) e = absurd (send≢receive e refl)
look_send ts roles r x q arms Other e = absurd (loop≢send refl e)

look_receive : (ts : List ℕ) (roles r x q : ℕ) (arms : List ArmAt) (w : PartRow) → look ts roles r x w ≡ v_receive q arms
    → (f : ℕ) × (a : ℕ) × (w ≡ Receive q f a)
look_receive ts roles r x q arms (End a b c) e = absurd (end≢receive refl e)
look_receive ts roles r x q arms (Arm l c n) e = absurd (loop≢receive refl e)
look_receive ts roles r x q arms (Loop y a b) e = absurd (loop≢receive refl e)
look_receive ts roles r x q arms (Back y a b) e = absurd (back≢receive refl e)
look_receive ts roles r x q arms (Send q' f a) e = absurd (send≢receive refl e)
look_receive ts roles r x q arms (Receive q' f a) e = (f, a, ap (λ z. Receive z f a) (same_receive refl e).0)
look_receive ts roles r x q arms Other e = absurd (loop≢receive refl e)

-- the numbers with which a call over good tables and a good state is refused, LABEL and STRAY apart
pub data Refusal : ℕ → Type 0 where
  is_party : Refusal PARTY
  is_turn : Refusal TURN
  is_full : Refusal FULL
  is_empty : Refusal EMPTY

pub record Plain (n : ℕ) : Type 0 where
  pub not_accepted : n ≢ ACCEPTED
  pub not_tables : n ≢ TABLES
  pub not_state : n ≢ STATE
  pub not_label : n ≢ LABEL
  pub not_stray : n ≢ STRAY

pub plain : {n : ℕ} → Refusal n → Plain n
plain is_party = omega arith
plain is_turn = omega arith
plain is_full = omega arith
plain is_empty = omega arith

module _ (lim : Limits) (ts : List ℕ) (roles : ℕ) (s : Session) where
  -- what p stands at
  abbrev pub stands_at : ℕ → View
  stands_at r = view_of ts roles r (head_of s r)

  -- p stands at a send to q with these arms
  pub record Sending (p q : ℕ) (arms : List ArmAt) : Type 0 where
    pub pair : Pair roles p q
    pub first : ℕ
    pub unused : ℕ
    pub row : part_row ts roles p (head_of s p) ≡ Send q first unused
    pub same : arms_of ts roles p first ≡ arms
    pub first_in : first < block_rows ts roles

  -- q stands at a receive from p with these arms
  pub record Receiving (p q : ℕ) (arms : List ArmAt) : Type 0 where
    pub pair : Pair roles p q
    pub first : ℕ
    pub unused : ℕ
    pub row : part_row ts roles q (head_of s q) ≡ Receive p first unused
    pub same : arms_of ts roles q first ≡ arms
    pub first_in : first < block_rows ts roles

  pub data SendCase (p q l v : ℕ) : Answer → Type 0 where
    send_refused : {n : ℕ} → Refusal n → ((c : ℕ) → Does (send p q l v) (stands_at p) c → held lim s p q < lim.depth → ⊥) → SendCase p q l v (answers lim n s)
    send_unknown : (arms : List ArmAt) → stands_at p ≡ v_send q arms → find l arms ≡ none
        → SendCase p q l v (offering LABEL (lowest_label lim.labels arms) s)
    send_accepted : (c : ℕ) → Pair roles p q → Does (send p q l v) (stands_at p) c → held lim s p q < lim.depth
        → SendCase p q l v (answers lim ACCEPTED (moved (pushed lim s p q l v) p (head ts roles p c)))

  pub data ReceiveCase (p q : ℕ) : Answer → Type 0 where
    receive_refused : {n : ℕ} → Refusal n → ((l v c : ℕ) → Does (receive p q l v) (stands_at q) c → 0 < held lim s p q → ⊥) → ReceiveCase p q (answers lim n s)
    receive_accepted : (c : ℕ) → Pair roles p q → Does (receive p q (label_at lim s p q 0) (payload_at lim s p q 0)) (stands_at q) c
        → 0 < held lim s p q → ReceiveCase p q (received lim s p q (head ts roles q c))

  -- a label that is unknown is not sent
  pub unknown_not : (p q l v : ℕ) (arms : List ArmAt) → stands_at p ≡ v_send q arms → find l arms ≡ none → (c : ℕ) → Does (send p q l v) (stands_at p) c → ⊥
  unknown_not p q l v arms f e c d = let (arms', f', g) = of_send d in none≢some (sym e ∙ (ap (find l) (same_send f f').1 ∙ g))

  module _ (tables : tables_good lim ts roles ≡ true)
      (good : (r x : ℕ) → r < roles → x < block_rows ts roles → row_good lim ts roles r x ≡ true) (k : StateKept lim ts roles s) where
    pub stands : (r : ℕ) → r < roles → stands_at r ≡ look ts roles r (head_of s r) (part_row ts roles r (head_of s r))
    stands r h = view_in ts roles r h (head_of s r) (k.heads_in r h)

    pub stands_row : (r : ℕ) (w : PartRow) → r < roles → part_row ts roles r (head_of s r) ≡ w → stands_at r ≡ look ts roles r (head_of s r) w
    stands_row r w h e = stands r h ∙ ap (look ts roles r (head_of s r)) e

    pub sending : (p q : ℕ) (arms : List ArmAt) → stands_at p ≡ v_send q arms → Sending p q arms
    sending p q arms e = go (dec_lt p roles)
      where
        go : Dec (p < roles) → Sending p q arms
        go (yes h) =
            let (f, a, w) = look_send ts roles p (head_of s p) q arms (part_row ts roles p (head_of s p)) (sym (stands p h) ∙ e) in
            let row = rw w at (holds lim ts roles p (λ x i. good p x h i) (head_of s p) (k.heads_in p h)) in
            let act = send_row lim ts roles p (head_of s p) q f a row in
            record {
              pair = record { sender_in = h; receiver_in = act.peer_in; different = λ t. act.peer_other (sym t) };
              first = f;
              unused = a;
              row = w;
              same = (same_send (stands_row p (Send q f a) h w) e).1;
              first_in = act.first_in;
            }
        go (no h) = absurd (end≢send (view_absent ts roles p (head_of s p) (omega arith)) e)

    pub receiving : (p q : ℕ) (arms : List ArmAt) → stands_at q ≡ v_receive p arms → Receiving p q arms
    receiving p q arms e = go (dec_lt q roles)
      where
        go : Dec (q < roles) → Receiving p q arms
        go (yes h) =
            let (f, a, w) = look_receive ts roles q (head_of s q) p arms (part_row ts roles q (head_of s q)) (sym (stands q h) ∙ e) in
            let row = rw w at (holds lim ts roles q (λ x i. good q x h i) (head_of s q) (k.heads_in q h)) in
            let act = receive_row lim ts roles q (head_of s q) p f a row in
            record {
              pair = record { sender_in = act.peer_in; receiver_in = h; different = act.peer_other };
              first = f;
              unused = a;
              row = w;
              same = (same_receive (stands_row q (Receive p f a) h w) e).1;
              first_in = act.first_in;
            }
        go (no h) = absurd (end≢receive (view_absent ts roles q (head_of s q) (omega arith)) e)

    not_pair : (p q : ℕ) → are_pair roles p q ≡ false → Pair roles p q → ⊥
    not_pair p q e two = true≢false (sym (pair_true roles p q two.sender_in two.receiver_in two.different) ∙ e)

    -- ---- sends

    module _ (p q l v : ℕ) where
      cannot_send : {n : ℕ} → Refusal n → ((arms : List ArmAt) → stands_at p ≡ v_send q arms → ⊥)
          → SendCase p q l v (answers lim n s)
      cannot_send a f = send_refused a (λ x d room. let (arms, e, g) = of_send d in f arms e)

      send_room : (c : ℕ) (arms : List ArmAt) (b : Bool) → leb lim.depth (held lim s p q) ≡ b → Pair roles p q
          → stands_at p ≡ v_send q arms → find l arms ≡ some c
          → SendCase p q l v (cond b (answers lim FULL s) (answers lim ACCEPTED (moved (pushed lim s p q l v) p (head ts roles p c))))
      send_room c arms true e two f g =
          let full : lim.depth ≤ held lim s p q = leb-true lim.depth (held lim s p q) e in
          send_refused is_full (λ x d room. omega arith)
      send_room c arms false e two f g =
          send_accepted c two (rw f (does_send {q = q} {arms = arms} g)) (leb-false lim.depth (held lim s p q) e)

      send_found_lem : (arms : List ArmAt) (o : Option ℕ) → find l arms ≡ o → Pair roles p q → stands_at p ≡ v_send q arms
          → SendCase p q l v (send_arm lim ts roles p q l v s (lowest_label lim.labels arms) o)
      unfolding send_arm
      send_found_lem arms none e two f = send_unknown arms f e
      send_found_lem arms (some c) e two f = send_room c arms (leb lim.depth (held lim s p q)) refl two f e

      send_peer : (peer : ℕ) (arms : List ArmAt) (b : Bool) → eqb peer q ≡ b → Pair roles p q → stands_at p ≡ v_send peer arms
          → SendCase p q l v (cond (not b) (answers lim TURN s) (send_arm lim ts roles p q l v s (lowest_label lim.labels arms) (find l arms)))
      send_peer peer arms true e two f =
          let same : peer ≡ q = eqb-true peer q e in send_found_lem arms (find l arms) refl two (rw same at f)
      send_peer peer arms false e two f =
          cannot_send is_turn (λ arms' g. eqb-false peer q e (same_send f g).0)

      send_row_case : (w : PartRow) → part_row ts roles p (head_of s p) ≡ w → Pair roles p q → SendCase p q l v (send_at lim ts roles p q l v s w)
      unfolding send_at
      send_row_case (End a b c) e two =
          cannot_send is_turn (λ arms f. end≢send (stands_row p _ two.sender_in e) f)
      send_row_case (Arm m c n) e two =
          cannot_send is_turn (λ arms f. loop≢send (stands_row p _ two.sender_in e) f)
      send_row_case (Loop y a b) e two =
          cannot_send is_turn (λ arms f. loop≢send (stands_row p _ two.sender_in e) f)
      send_row_case (Back y a b) e two =
          cannot_send is_turn (λ arms f. back≢send (stands_row p _ two.sender_in e) f)
      send_row_case (Send peer f a) e two = send_peer peer (arms_of ts roles p f) (eqb peer q) refl two (stands_row p _ two.sender_in e)
      send_row_case (Receive peer f a) e two =
          cannot_send is_turn (λ arms g. send≢receive g (stands_row p _ two.sender_in e))
      send_row_case Other e two =
          cannot_send is_turn (λ arms f. loop≢send (stands_row p _ two.sender_in e) f)

      send_party : (b : Bool) → are_pair roles p q ≡ b
          → SendCase p q l v (cond (not b) (answers lim PARTY s) (send_at lim ts roles p q l v s (part_row ts roles p (head_of s p))))
      send_party true e = send_row_case (part_row ts roles p (head_of s p)) refl (pair_facts roles p q e)
      send_party false e =
          cannot_send is_party (λ arms f. not_pair p q e (sending p q arms f).pair)

      pub send_case : SendCase p q l v (send_of lim ts roles p q l v s)
      unfolding send_of
      send_case = rw (tables, state_good_lem lim ts roles s k) (send_party (are_pair roles p q) refl)

    -- ---- receives, where a role at a receive knows the label that is held for it

    module _ (p q : ℕ)
        (known : (arms : List ArmAt) → stands_at q ≡ v_receive p arms → 0 < held lim s p q → (c : ℕ) × (find (label_at lim s p q 0) arms ≡ some c)) where
      cannot_receive : {n : ℕ} → Refusal n → ((arms : List ArmAt) → stands_at q ≡ v_receive p arms → ⊥) → ReceiveCase p q (answers lim n s)
      cannot_receive a f = receive_refused a (λ l v x t held. let (arms, e, g) = of_receive t in f arms e)

      receive_found_lem : (arms : List ArmAt) (o : Option ℕ) → find (label_at lim s p q 0) arms ≡ o → Pair roles p q → stands_at q ≡ v_receive p arms
          → 0 < held lim s p q → ReceiveCase p q (receive_arm lim ts roles p q s (lowest_label lim.labels arms) o)
      unfolding receive_arm
      receive_found_lem arms none e two f some_held = let (c, g) = known arms f some_held in none≢some (sym e ∙ g)
      receive_found_lem arms (some c) e two f some_held = receive_accepted c two (rw f (does_receive {p = p} {arms = arms} e)) some_held

      receive_held : (arms : List ArmAt) (b : Bool) → eqb (held lim s p q) 0 ≡ b → Pair roles p q → stands_at q ≡ v_receive p arms
          → ReceiveCase p q (cond b (answers lim EMPTY s) (receive_arm lim ts roles p q s (lowest_label lim.labels arms) (find (label_at lim s p q 0) arms)))
      receive_held arms true e two f =
          let none_held : held lim s p q ≡ 0 = eqb-true (held lim s p q) 0 e in
          receive_refused is_empty (λ l v x d some_held. omega arith)
      receive_held arms false e two f =
          let n : held lim s p q ≢ 0 = eqb-false (held lim s p q) 0 e in
          receive_found_lem arms (find (label_at lim s p q 0) arms) refl two f (omega arith)

      receive_peer : (peer : ℕ) (arms : List ArmAt) (b : Bool) → eqb peer p ≡ b → Pair roles p q → stands_at q ≡ v_receive peer arms
          → ReceiveCase p q (cond (not b) (answers lim TURN s)
          (refused_if lim EMPTY (eqb (held lim s p q) 0) s (receive_arm lim ts roles p q s (lowest_label lim.labels arms) (find (label_at lim s p q 0) arms))))
      receive_peer peer arms true e two f =
          let same : peer ≡ p = eqb-true peer p e in receive_held arms (eqb (held lim s p q) 0) refl two (rw same at f)
      receive_peer peer arms false e two f =
          cannot_receive is_turn (λ arms' g. eqb-false peer p e (same_receive f g).0)

      receive_row_case : (w : PartRow) → part_row ts roles q (head_of s q) ≡ w → Pair roles p q → ReceiveCase p q (receive_at lim ts roles p q s w)
      unfolding receive_at
      receive_row_case (End a b c) e two =
          cannot_receive is_turn (λ arms f. end≢receive (stands_row q _ two.receiver_in e) f)
      receive_row_case (Arm m c n) e two =
          cannot_receive is_turn (λ arms f. loop≢receive (stands_row q _ two.receiver_in e) f)
      receive_row_case (Loop y a b) e two =
          cannot_receive is_turn (λ arms f. loop≢receive (stands_row q _ two.receiver_in e) f)
      receive_row_case (Back y a b) e two =
          cannot_receive is_turn (λ arms f. back≢receive (stands_row q _ two.receiver_in e) f)
      receive_row_case (Send peer f a) e two =
          cannot_receive is_turn (λ arms g. send≢receive (stands_row q _ two.receiver_in e) g)
      receive_row_case (Receive peer f a) e two = receive_peer peer (arms_of ts roles q f) (eqb peer p) refl two (stands_row q _ two.receiver_in e)
      receive_row_case Other e two =
          cannot_receive is_turn (λ arms f. loop≢receive (stands_row q _ two.receiver_in e) f)

      receive_party : (b : Bool) → are_pair roles p q ≡ b
          → ReceiveCase p q (cond (not b) (answers lim PARTY s) (receive_at lim ts roles p q s (part_row ts roles q (head_of s q))))
      receive_party true e = receive_row_case (part_row ts roles q (head_of s q)) refl (pair_facts roles p q e)
      receive_party false e =
          cannot_receive is_party (λ arms f. not_pair p q e (receiving p q arms f).pair)

      pub receive_case : ReceiveCase p q (receive_of lim ts roles p q s)
      unfolding receive_of
      receive_case = rw (tables, state_good_lem lim ts roles s k) (receive_party (are_pair roles p q) refl)
