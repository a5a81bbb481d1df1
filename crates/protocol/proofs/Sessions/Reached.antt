-- Of a session that agrees with a running tree: the actions that advance its topmost exchange are calls that may be made and are accepted.
-- Assumes nothing.
use Prim.Native.Nat.{ℕ, ◌+◌, ◌<◌}
use mathlib.Core.Bool.{cond}
use mathlib.Core.List.{List, [], ◌∷◌, ◌++◌}
use mathlib.Core.Path.{◌≡◌, refl, ap, ap₂}
use native.Mathlib.Omega.{arith}
use Rattle.table.specs.Limits.{Limits}
use Rattle.table.specs.Numbers.{ACCEPTED}
use Rattle.table.specs.Tree.{Global, Arms}
use Rattle.session.specs.State.{held}
use Rattle.session.specs.declared.Session.{Session}
use Rattle.protocol.specs.Each.{Each, each_nil, each_cons}
use Rattle.protocol.specs.Steps.{Action, send, receive, Step}
use Rattle.protocol.specs.Engine.{Call, sends, receives, answer_to, reply, ours}
use Rattle.protocol.specs.Demand3.{after, step_of, no_call, accepted_call}
use Rattle.protocol.specs.Left.{is_pair}
use Rattle.protocol.specs.Stranded.{AllAccepted, all_made, then, receives_of, Advances, call_of, Advanced, come_far, go_on}
use Rattle.protocol.proofs.Invariant.View.{of_send, of_receive}
use Rattle.protocol.proofs.Invariant.Agree.{is_send_lem}
use Rattle.protocol.proofs.Invariant.Reached.{receipts, advances_step, sends_alone, sends_payload, Leads, now, later}
use Rattle.protocol.proofs.Sessions.Calls.{sending, receiving}
use Rattle.protocol.proofs.Sessions.Runs.{Ground, Inv, send_target, agrees_after}
use Rattle.protocol.proofs.Sessions.Awaited.{Enough}
use Rattle.protocol.proofs.Sessions.Followed.{followed, queue_empty, allowed_send, allowed_receive}

unfoldable pub calls_of : List (Action ℕ) → List Call
calls_of [] = []
calls_of (a ∷ ds) = call_of a ∷ calls_of ds

pub receives_of_lem : (p q : ℕ) (ds : List (Action ℕ)) → receives_of p q (calls_of ds) ≡ receipts p q ds
unfolding receives_of calls_of receipts
receives_of_lem p q [] = refl
receives_of_lem p q (send p' q' l v ∷ ds) = ap (λ n. 0 + n) (receives_of_lem p q ds)
receives_of_lem p q (receive p' q' l v ∷ ds) = ap (λ n. cond (is_pair p q p' q') 1 0 + n) (receives_of_lem p q ds)

pub leads_advanced : (pick : Arms ℕ → ℕ) (v : ℕ) {G : Global ℕ} {ds : List (Action ℕ)} {b : Action ℕ} → Leads pick v G ds b
    → Advanced pick v G (calls_of ds ++ (call_of b ∷ []))
unfolding calls_of
leads_advanced pick v (now t) = go_on t come_far
leads_advanced pick v (later t r) = go_on t (leads_advanced pick v r)

module _ (lim : Limits) (ts : List ℕ) (roles : ℕ) (ground : Ground lim ts roles) (deep : 0 < lim.depth) {may : Call → Type 0} (enough : Enough lim may)
    (pick : Arms ℕ → ℕ) where
  -- the call that an action is: accepted, it is that action, and the session agrees with what is left of the tree
  record Made (s : Session) (a : Action ℕ) (G' : Global ℕ) : Type 0 where
    pub may_be : may (call_of a)
    pub accepted : (answer_to lim ts roles (call_of a) s).number ≡ ACCEPTED
    pub is : step_of (call_of a) (reply (answer_to lim ts roles (call_of a) s)) ≡ a
    pub inv : Inv lim ts roles (answer_to lim ts roles (call_of a) s).state G'

  made : (s : Session) (G : Global ℕ) → Inv lim ts roles s G → (a : Action ℕ) {G' : Global ℕ} → Advances pick 0 G a G' → Made s a G'
  unfolding after
  made s G inv (send p q l v) {G'} t =
      let f = followed lim ts roles ground deep s G inv enough in
      let (c, d) = allowed_send lim ts roles ground deep s G inv p q l v (G', advances_step pick 0 t) in
      let (arms, e, g) = of_send d in
      let two = (sending lim ts roles s ground.tables ground.good inv.kept p q arms e).pair in
      let none_held : held lim s p q ≡ 0 = queue_empty lim ts roles ground deep s G inv p q two (sends_alone pick 0 t is_send_lem (inv.agrees.held p q)) in
      let low = (send_target lim ts roles ground s G inv p q l v c d).low in
      let m : may (sends p q l v) =
      rw (sends_payload pick 0 t is_send_lem)
      (enough.sends p q l (omega (arith, ground.few_roles, two.sender_in)) (omega (arith, ground.few_roles, two.receiver_in)) low) in
      let ok = (f.send_exactly p q l v m).1 ((G', advances_step pick 0 t), omega arith) in
      record {
        may_be = m;
        accepted = ok;
        is = refl;
        inv = agrees_after lim ts roles ground (accepted_call {c = sends p q l v} ok (advances_step pick 0 t) no_call) inv;
      }
  made s G inv (receive p q l v) {G'} t =
      let f = followed lim ts roles ground deep s G inv enough in
      let (c, w, d, h) = allowed_receive lim ts roles ground deep s G inv p q l v (G', advances_step pick 0 t) in
      let (arms, e, g) = of_receive d in
      let two = (receiving lim ts roles s ground.tables ground.good inv.kept p q arms e).pair in
      let m : may (receives p q) =
      enough.receives p q (omega (arith, ground.few_roles, two.sender_in)) (omega (arith, ground.few_roles, two.receiver_in)) in
      let ok = (f.receive_exactly p q m).1 (l, v, (G', advances_step pick 0 t)) in
      let (x, y) = f.receive_returns p q l v m (G', advances_step pick 0 t) in
      let is : step_of (receives p q) (reply (answer_to lim ts roles (receives p q) s)) ≡ receive p q l v = ap₂ (λ i j. receive p q i j) x y in
      let step : Step (step_of (receives p q) (reply (answer_to lim ts roles (receives p q) s))) G G' = rw is (advances_step pick 0 t) in
      record { may_be = m; accepted = ok; is = is; inv = agrees_after lim ts roles ground (accepted_call {c = receives p q} ok step no_call) inv }

  -- all of them, and then the last
  pub record Done (s : Session) (ds : List (Action ℕ)) (b : Action ℕ) : Type 0 where
    pub may_be_made : Each may (calls_of ds)
    pub all_accepted : AllAccepted (ours lim ts roles) s (calls_of ds)
    pub may_be_last : may (call_of b)
    pub last_accepted : (answer_to lim ts roles (call_of b) (after (ours lim ts roles) (calls_of ds) s)).number ≡ ACCEPTED
    pub is : step_of (call_of b) (reply (answer_to lim ts roles (call_of b) (after (ours lim ts roles) (calls_of ds) s))) ≡ b

  pub done : {G : Global ℕ} {ds : List (Action ℕ)} {b : Action ℕ} → Leads pick 0 G ds b → {s : Session} → Inv lim ts roles s G → Done s ds b
  unfolding after calls_of
  done {G} (now {b = b} t) {s} inv =
      let m = made s G inv b t in
      record { may_be_made = each_nil; all_accepted = all_made; may_be_last = m.may_be; last_accepted = m.accepted; is = m.is }
  done {G} (later {a = a} t r) {s} inv =
      let m = made s G inv a t in
      let d = done r m.inv in
      record {
        may_be_made = each_cons m.may_be d.may_be_made;
        all_accepted = then m.accepted d.all_accepted;
        may_be_last = d.may_be_last;
        last_accepted = d.last_accepted;
        is = d.is;
      }
