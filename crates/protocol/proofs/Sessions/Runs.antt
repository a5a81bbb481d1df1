-- A session that agrees with a running tree: each call that is accepted is a step of the tree, and agrees with what is left; each that is
-- refused changes nothing. Assumes nothing.
use Prim.Native.Nat.{ℕ, ◌≤◌, ◌<◌}
use mathlib.Core.Bool.{true}
use mathlib.Core.List.{List, [], ◌∷◌}
use mathlib.Core.Logic.{◌≢◌}
use mathlib.Core.Option.{some}
use mathlib.Core.Path.{◌≡◌, refl, ◌∙◌, ap}
use native.Mathlib.Omega.{arith}
use Rattle.table.specs.Limits.{Limits}
use Rattle.table.specs.Numbers.{ACCEPTED}
use Rattle.table.specs.Tree.{Global}
use Rattle.blocks.specs.Block.{part_row, block_rows, is_head}
use Rattle.blocks.specs.Head.{ArmAt, head, find}
use Rattle.blocks.specs.Tables.{row_good, tables_good}
use Rattle.state.specs.Numbers.{LABEL}
use Rattle.session.specs.State.{held, label_at, payload_at, moved, taken}
use Rattle.session.specs.Calls.{send_of, receive_of}
use Rattle.session.specs.Answers.{Answer}
use Rattle.session.specs.declared.Session.{Session}
use Rattle.blocks.proofs.Sound.{Reached}
use Rattle.protocol.specs.Steps.{send, receive, Step}
use Rattle.protocol.specs.Engine.{Call, sends, receives, Engine, answer_to, reply, ours}
use Rattle.protocol.specs.Demand3.{after, step_of, ComesTo, no_call, accepted_call, refused_call}
use Rattle.protocol.proofs.Determined.{determined}
use Rattle.protocol.proofs.Invariant.View.{v_send, v_receive, Does, of_send, of_receive}
use Rattle.protocol.proofs.Invariant.Agree.{m_send, m_receive, Agree, agree_same}
use Rattle.protocol.proofs.Invariant.Theorems.{completeness, never_stray}
use Rattle.protocol.proofs.Blocks.Views.{view_of, has_head_lem}
use Rattle.protocol.proofs.Sessions.Walks.{found_arm, head_in}
use Rattle.protocol.proofs.Sessions.States.{StateKept, sent_kept, taken_kept}
use Rattle.protocol.proofs.Sessions.Config.{
  contents,
  message_at,
  config_of,
  queue_of,
  sent_rows,
  sent_queues,
  contents_received,
  received_rows,
  received_queues,
}
use Rattle.protocol.proofs.Sessions.Calls.{
  stands_at,
  Sending,
  Receiving,
  sending,
  receiving,
  plain,
  SendCase,
  send_refused,
  send_unknown,
  send_accepted,
  ReceiveCase,
  receive_refused,
  receive_accepted,
  send_case,
  receive_case,
}

-- tables that are well formed for a step
pub record Ground (lim : Limits) (ts : List ℕ) (roles : ℕ) : Type 0 where
  pub tables : tables_good lim ts roles ≡ true
  pub good : (r x : ℕ) → r < roles → x < block_rows ts roles → row_good lim ts roles r x ≡ true
  pub few_roles : roles ≤ lim.roles

module _ (lim : Limits) (ts : List ℕ) (roles : ℕ) where
  pub record Inv (s : Session) (G : Global ℕ) : Type 0 where
    pub kept : StateKept lim ts roles s
    pub agrees : Agree (view_of ts roles) (head ts roles) G (config_of lim roles s)

module _ (lim : Limits) (ts : List ℕ) (roles : ℕ) (ground : Ground lim ts roles) (s : Session) (G : Global ℕ) (inv : Inv lim ts roles s G) where
  at_send : (p q : ℕ) (arms : List ArmAt) → stands_at lim ts roles s p ≡ v_send q arms → Sending lim ts roles s p q arms
  at_send p q arms e = sending lim ts roles s ground.tables ground.good inv.kept p q arms e

  at_receive : (p q : ℕ) (arms : List ArmAt) → stands_at lim ts roles s q ≡ v_receive p arms → Receiving lim ts roles s p q arms
  at_receive p q arms e = receiving lim ts roles s ground.tables ground.good inv.kept p q arms e

  -- where an action leads
  pub send_target : (p q l v c : ℕ) → Does (send p q l v) (stands_at lim ts roles s p) c → Reached lim ts roles p l c
  send_target p q l v c d =
      let (arms, e, f) = of_send d in
      let at = at_send p q arms e in
      found_arm lim ts roles p (λ x h. ground.good p x at.pair.sender_in h) l c at.first at.first_in (ap (find l) at.same ∙ f)

  receive_target : (p q l v c : ℕ) → Does (receive p q l v) (stands_at lim ts roles s q) c → Reached lim ts roles q l c
  receive_target p q l v c d =
      let (arms, e, f) = of_receive d in
      let at = at_receive p q arms e in
      found_arm lim ts roles q (λ x h. ground.good q x at.pair.receiver_in h) l c at.first at.first_in (ap (find l) at.same ∙ f)

  head_of : (r l c : ℕ) → r < roles → Reached lim ts roles r l c
      → (head ts roles r c < block_rows ts roles) × (is_head (part_row ts roles r (head ts roles r c)) ≡ true)
  head_of r l c h t = (
    head_in lim ts roles r (λ x i. ground.good r x h i) c t.inside,
    has_head_lem ts roles r h lim (λ x i. ground.good r x h i) c t.inside t.no_arm,
  )

  -- a role at a receive knows the label that is held for it
  pub known : (p q : ℕ) (arms : List ArmAt) → stands_at lim ts roles s q ≡ v_receive p arms → 0 < held lim s p q
      → (c : ℕ) × (find (label_at lim s p q 0) arms ≡ some c)
  known p q arms e some_held =
      let two = (at_receive p q arms e).pair in
      let queue : (config_of lim roles s).queue p q ≡ message_at lim s p q 0 ∷ contents lim (moved (taken lim s p q) q 0) p q =
      queue_of lim roles p q s two ∙ contents_received lim ts roles s inv.kept ground.few_roles p q two 0 some_held in
      never_stray (view_of ts roles) (head ts roles) {c = config_of lim roles s} inv.agrees e queue

  pub the_send : (p q l v : ℕ) → SendCase lim ts roles s p q l v (send_of lim ts roles p q l v s)
  the_send p q l v = send_case lim ts roles s ground.tables ground.good inv.kept p q l v

  pub the_receive : (p q : ℕ) → ReceiveCase lim ts roles s p q (receive_of lim ts roles p q s)
  the_receive p q = receive_case lim ts roles s ground.tables ground.good inv.kept p q (known p q)

  -- ---- what a call comes to

  pub data Outcome (c : Call) : Answer → Type 0 where
    refused : {a : Answer} → a.number ≢ ACCEPTED → a.state ≡ s → Outcome c a
    accepted : {a : Answer} (G' : Global ℕ) → a.number ≡ ACCEPTED → Step (step_of c (reply a)) G G' → Inv lim ts roles a.state G' → Outcome c a

  send_outcome : (p q l v : ℕ) {a : Answer} → SendCase lim ts roles s p q l v a → Outcome (sends p q l v) a
  send_outcome p q l v (send_refused n cannot) = refused (plain n).not_accepted refl
  send_outcome p q l v (send_unknown arms f e) = refused (λ (z : LABEL ≡ ACCEPTED). omega arith) refl
  send_outcome p q l v (send_accepted c two d room) =
      let k = inv.kept in
      let x = head ts roles p c in
      let t = send_target p q l v c d in
      let (within, acts) = head_of p l c two.sender_in t in
      let (G', step, g) = completeness (view_of ts roles) (head ts roles) {c = config_of lim roles s} inv.agrees (m_send d) in
      let g' =
      agree_same (view_of ts roles) (head ts roles) g (sent_rows lim ts roles s k ground.few_roles p q two l v x room)
      (sent_queues lim ts roles s k ground.few_roles p q two l v x room) in
      accepted G' refl step (record {
        kept = sent_kept lim ts roles s k ground.few_roles p q two l v x room t.low within acts;
        agrees = g';
      })

  receive_outcome : (p q : ℕ) {a : Answer} → ReceiveCase lim ts roles s p q a → Outcome (receives p q) a
  receive_outcome p q (receive_refused n cannot) = refused (plain n).not_accepted refl
  receive_outcome p q (receive_accepted c two d some_held) =
      let k = inv.kept in
      let x = head ts roles q c in
      let l = label_at lim s p q 0 in
      let v = payload_at lim s p q 0 in
      let (within, acts) = head_of q l c two.receiver_in (receive_target p q l v c d) in
      let queue : (config_of lim roles s).queue p q ≡ message_at lim s p q 0 ∷ contents lim (moved (taken lim s p q) q x) p q =
      queue_of lim roles p q s two ∙ contents_received lim ts roles s k ground.few_roles p q two x some_held in
      let (G', step, g) = completeness (view_of ts roles) (head ts roles) {c = config_of lim roles s} inv.agrees (m_receive d queue) in
      let g' =
      agree_same (view_of ts roles) (head ts roles) g (received_rows lim ts roles s k ground.few_roles p q two x some_held)
      (received_queues lim ts roles s k ground.few_roles p q two x some_held) in
      accepted G' refl step (record {
        kept = taken_kept lim ts roles s k ground.few_roles p q two x some_held within acts;
        agrees = g';
      })

  pub outcome : (c : Call) → Outcome c (answer_to lim ts roles c s)
  unfolding answer_to
  outcome (sends p q l v) = send_outcome p q l v (the_send p q l v)
  outcome (receives p q) = receive_outcome p q (the_receive p q)

-- any engine's calls bring the protocol to one tree only
pub comes_once : {S : Type 0} {e : Engine S} {cs : List Call} {s : S} {G H K : Global ℕ} → ComesTo e s G cs H → ComesTo e s G cs K → H ≡ K
comes_once no_call no_call = refl
comes_once (accepted_call n step t) (accepted_call m step' u) = comes_once t (rw (determined step' step) at u)
comes_once (accepted_call n step t) (refused_call m u) = absurd (m n)
comes_once (refused_call n t) (accepted_call m step u) = absurd (n m)
comes_once (refused_call n t) (refused_call m u) = comes_once t u

module _ (lim : Limits) (ts : List ℕ) (roles : ℕ) (ground : Ground lim ts roles) where
  -- every list of calls brings the protocol somewhere
  pub comes_to : (cs : List Call) (s : Session) (G : Global ℕ) → Inv lim ts roles s G → (H : Global ℕ) × ComesTo (ours lim ts roles) s G cs H
  comes_to [] s G inv = (G, no_call)
  comes_to (c ∷ cs) s G inv = go (outcome lim ts roles ground s G inv c) (λ G' i. comes_to cs (answer_to lim ts roles c s).state G' i)
    where
      go : Outcome lim ts roles ground s G inv c (answer_to lim ts roles c s)
          → ((G' : Global ℕ) → Inv lim ts roles (answer_to lim ts roles c s).state G'
          → (H : Global ℕ) × ComesTo (ours lim ts roles) (answer_to lim ts roles c s).state G' cs H)
          → (H : Global ℕ) × ComesTo (ours lim ts roles) s G (c ∷ cs) H
      go (refused n e) rest = let (H, t) = rest G (rw e inv) in (H, refused_call {H = H} n t)
      go (accepted G' n step i) rest = let (H, t) = rest G' i in (H, accepted_call {H = H} n step t)

  -- with which the session then agrees
  pub agrees_after : {cs : List Call} {s : Session} {G H : Global ℕ} → ComesTo (ours lim ts roles) s G cs H → Inv lim ts roles s G
      → Inv lim ts roles (after (ours lim ts roles) cs s) H
  unfolding after
  agrees_after no_call inv = inv
  agrees_after {s = s} {G = G} (accepted_call {G' = G'} {c = c} n step t) inv = agrees_after t (go (outcome lim ts roles ground s G inv c))
    where
      go : Outcome lim ts roles ground s G inv c (answer_to lim ts roles c s) → Inv lim ts roles (answer_to lim ts roles c s).state G'
      go (refused m e) = absurd (m n)
      go (accepted K m step' i) = rw (determined step' step) at i
  agrees_after {s = s} {G = G} (refused_call {c = c} n t) inv = agrees_after t (go (outcome lim ts roles ground s G inv c))
    where
      go : Outcome lim ts roles ground s G inv c (answer_to lim ts roles c s) → Inv lim ts roles (answer_to lim ts roles c s).state G
      go (refused m e) = rw e inv
      go (accepted K m step' i) = absurd (n m)
