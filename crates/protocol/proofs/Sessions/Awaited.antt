-- A role is awaited exactly when it has a call that would be accepted. Assumes nothing.
use Prim.Native.Nat.{ℕ, ◌<◌}
use mathlib.Core.Bool.{true, true≢false}
use mathlib.Core.List.{List}
use mathlib.Core.Option.{some}
use mathlib.Core.Path.{◌≡◌, refl, sym, ◌∙◌, ap}
use native.Mathlib.Omega.{arith}
use lib.Dec.{ltb}
use borrow.Author.Tests.{lt-ltb, ltb-true}
use Rattle.table.specs.Limits.{Limits}
use Rattle.table.specs.Numbers.{ACCEPTED}
use Rattle.table.specs.Tree.{Global}
use Rattle.table.proofs.Tests.{both}
use Rattle.blocks.specs.Block.{PartRow, End, Arm, Loop, Back, Send, Receive, Other, part_row, block_rows}
use Rattle.blocks.specs.Head.{arms_of, find}
use Rattle.blocks.specs.Tables.{row_holds}
use Rattle.state.specs.Awaited.{is_found, can_act}
use Rattle.session.specs.State.{listed, head_of, held, label_at, payload_at}
use Rattle.session.specs.Awaited.{is_awaited}
use Rattle.session.specs.Answers.{Answer}
use Rattle.session.specs.declared.Session.{Session}
use Rattle.session.proofs.Accepted.{is_found_lem, arm_first, found_first}
use Rattle.protocol.specs.Steps.{send, receive}
use Rattle.protocol.specs.Engine.{Call, sends, receives, caller, answer_to, ours}
use Rattle.protocol.specs.Demand3.{HasCall}
use Rattle.protocol.proofs.Invariant.View.{Does, does_send, does_receive, of_send, of_receive}
use Rattle.protocol.proofs.Blocks.Views.{look}
use Rattle.protocol.proofs.Sessions.Walks.{holds, send_row}
use Rattle.protocol.proofs.Sessions.Calls.{
  stands_at,
  stands_row,
  unknown_not,
  sending,
  receiving,
  plain,
  SendCase,
  send_refused,
  send_unknown,
  send_accepted,
  ReceiveCase,
  receive_refused,
  receive_accepted,
}
use Rattle.protocol.proofs.Sessions.Runs.{Ground, Inv, send_target, the_send, the_receive}

-- among the calls that may be made are those of the limit's roles and labels, sends with the payload 0
pub record Enough (lim : Limits) (may : Call → Type 0) : Type 0 where
  pub sends : (p q l : ℕ) → p < lim.roles → q < lim.roles → l < lim.labels → may (sends p q l 0)
  pub receives : (p q : ℕ) → p < lim.roles → q < lim.roles → may (receives p q)

module _ (lim : Limits) (ts : List ℕ) (roles : ℕ) (ground : Ground lim ts roles) (s : Session) (G : Global ℕ) (inv : Inv lim ts roles s G) where
  pub send_is_accepted : {p q l v : ℕ} {a : Answer} → SendCase lim ts roles s p q l v a → (c : ℕ) → Does (send p q l v) (stands_at lim ts roles s p) c
      → held lim s p q < lim.depth → a.number ≡ ACCEPTED
  send_is_accepted (send_refused n cannot) c d room = absurd (cannot c d room)
  send_is_accepted {p} {q} {l} {v} (send_unknown arms f e) c d room = absurd (unknown_not lim ts roles s p q l v arms f e c d)
  send_is_accepted (send_accepted c' two d' room') c d room = refl

  pub receive_is_accepted : {p q : ℕ} {a : Answer} → ReceiveCase lim ts roles s p q a → (l v c : ℕ)
      → Does (receive p q l v) (stands_at lim ts roles s q) c → 0 < held lim s p q → a.number ≡ ACCEPTED
  receive_is_accepted (receive_refused n cannot) l v c d some_held = absurd (cannot l v c d some_held)
  receive_is_accepted (receive_accepted c' two d' some_held') l v c d some_held = refl

  stands_at_lem : (r : ℕ) (w : PartRow) → r < roles → part_row ts roles r (head_of s r) ≡ w → stands_at lim ts roles s r ≡ look ts roles r (head_of s r) w
  stands_at_lem r w h e = stands_row lim ts roles s ground.tables ground.good inv.kept r w h e

  -- ---- who has a call is awaited

  sent_awaited : {p q l v : ℕ} {a : Answer} → SendCase lim ts roles s p q l v a → a.number ≡ ACCEPTED → is_awaited lim ts roles s p ≡ true
  unfolding can_act
  sent_awaited (send_refused n cannot) e = absurd ((plain n).not_accepted e)
  sent_awaited (send_unknown arms f u) e = absurd (omega arith)
  sent_awaited {p} {q} (send_accepted c two d room) e =
      let (arms, f, g) = of_send d in
      let at = sending lim ts roles s ground.tables ground.good inv.kept p q arms f in
      rw (at.row, can_act) (lt-ltb (held lim s p q) lim.depth room)

  received_awaited : {p q : ℕ} {a : Answer} → ReceiveCase lim ts roles s p q a → a.number ≡ ACCEPTED → is_awaited lim ts roles s q ≡ true
  unfolding can_act
  received_awaited (receive_refused n cannot) e = absurd ((plain n).not_accepted e)
  received_awaited {p} {q} (receive_accepted c two d some_held) e =
      let (arms, f, g) = of_receive d in
      let at = receiving lim ts roles s ground.tables ground.good inv.kept p q arms f in
      rw (at.row, can_act, lt-ltb 0 (held lim s p q) some_held, ap (find (label_at lim s p q 0)) at.same ∙ g)

  call_awaited : (c : Call) → (answer_to lim ts roles c s).number ≡ ACCEPTED → is_awaited lim ts roles s (caller c) ≡ true
  unfolding answer_to
  call_awaited (sends p q l v) e = sent_awaited (the_send lim ts roles ground s G inv p q l v) e
  call_awaited (receives p q) e = received_awaited (the_receive lim ts roles ground s G inv p q) e

  pub has_call_awaited : {may : Call → Type 0} (r : ℕ) → HasCall may (ours lim ts roles) s r → is_awaited lim ts roles s r ≡ true
  has_call_awaited r t = rw t.2 at (call_awaited t.0 t.3)

  -- ---- who is awaited has a call

  awaited_call : {may : Call → Type 0} → Enough lim may → (r : ℕ) → r < roles → (w : PartRow) → part_row ts roles r (head_of s r) ≡ w
      → can_act lim ts roles (listed s) r w ≡ true → HasCall may (ours lim ts roles) s r
  unfolding can_act answer_to
  awaited_call enough r h (End a b c) e t = absurd (true≢false (sym t))
  awaited_call enough r h (Arm l c n) e t = absurd (true≢false (sym t))
  awaited_call enough r h (Loop b x y) e t = absurd (true≢false (sym t))
  awaited_call enough r h (Back j x y) e t = absurd (true≢false (sym t))
  awaited_call enough r h (Send q f x) e t =
      let at = stands_at_lem r (Send q f x) h e in
      let row : row_holds lim ts roles r (head_of s r) (Send q f x) ≡ true =
      rw e at (holds lim ts roles r (λ y i. ground.good r y h i) (head_of s r) (inv.kept.heads_in r h)) in
      let act = send_row lim ts roles r (head_of s r) q f x row in
      let (l, c, n, w) = arm_first (part_row ts roles r f) act.first_is in
      let found : find l (arms_of ts roles r f) ≡ some c =
      found_first ts roles r l c n (block_rows ts roles) f (omega (arith, act.first_in)) (omega (arith, act.first_above)) w in
      let d : Does {A = ℕ} (send r q l 0) (stands_at lim ts roles s r) c = rw at (does_send {q = q} {arms = arms_of ts roles r f} found) in
      let low = (send_target lim ts roles ground s G inv r q l 0 c d).low in (
        sends r q l 0,
        enough.sends r q l (omega (arith, ground.few_roles)) (omega (arith, ground.few_roles, act.peer_in)) low,
        refl,
        send_is_accepted (the_send lim ts roles ground s G inv r q l 0) c d (ltb-true (held lim s r q) lim.depth t),
      )
  awaited_call enough r h (Receive p f x) e t =
      let at = stands_at_lem r (Receive p f x) h e in
      let (t₁, t₂) = both (ltb 0 (held lim s p r)) (is_found (find (label_at lim s p r 0) (arms_of ts roles r f))) t in
      let (c, found) = is_found_lem (find (label_at lim s p r 0) (arms_of ts roles r f)) t₂ in
      let d : Does {A = ℕ} (receive p r (label_at lim s p r 0) (payload_at lim s p r 0)) (stands_at lim ts roles s r) c =
      rw at (does_receive {p = p} {arms = arms_of ts roles r f} found) in
      let ok = receive_is_accepted (the_receive lim ts roles ground s G inv p r) _ _ c d (ltb-true 0 (held lim s p r) t₁) in
      let two = (receiving lim ts roles s ground.tables ground.good inv.kept p r (arms_of ts roles r f) at).pair in (
        receives p r,
        enough.receives p r (omega (arith, ground.few_roles, two.sender_in)) (omega (arith, ground.few_roles)),
        refl,
        ok,
      )
  awaited_call enough r h Other e t = absurd (true≢false (sym t))

  pub awaited_has_call : {may : Call → Type 0} → Enough lim may → (r : ℕ) → r < roles → is_awaited lim ts roles s r ≡ true
      → HasCall may (ours lim ts roles) s r
  awaited_has_call enough r h t = awaited_call enough r h (part_row ts roles r (head_of s r)) refl t
