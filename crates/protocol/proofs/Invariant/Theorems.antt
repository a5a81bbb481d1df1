-- Machinery of the proof of demand 3: what agrees moves exactly as the tree steps, and stays in agreement; no message that is held is
-- unknown to its receiver; and somebody can move until all have ended. Assumes nothing.
use Prim.Native.Nat.{ℕ, suc}
use mathlib.Core.List.{List, [], ◌∷◌, ◌++◌}
use mathlib.Core.Logic.{◌≢◌, ◌⊎◌, inl, inr}
use mathlib.Core.Option.{some}
use mathlib.Core.Path.{◌≡◌, refl}
use native.Mathlib.Omega.{arith}
use Rattle.table.specs.Tree.{Global, exchange, flight, loop, Arms, arm}
use Rattle.blocks.specs.Head.{ArmAt, find}
use Rattle.protocol.specs.Steps.{Action, send, receive, subject, here, SomeArm, some_arm, Step, rule_1, rule_2, rule_3}
use Rattle.protocol.specs.Unrolled.{unrolled}
use Rattle.protocol.proofs.Invariant.View.{View, v_end, v_receive, Does, of_send, of_receive, same_receive}
use Rattle.protocol.proofs.Invariant.Covers.{Covers, c_zero, c_gone, c_send, c_receive, c_past, c_get, c_over, c_loop}
use Rattle.protocol.proofs.Invariant.Holds.{Holds, h_same, h_over, h_past, h_none, h_quiet}
use Rattle.protocol.proofs.Invariant.Agree.{sender, receiver, IsSend, is_send_lem, is_receive_lem, put, put_all, put_pair, put_pair_all, Config, Moves, m_send, m_receive, Agree}
use Rattle.protocol.proofs.Invariant.Complete.{can_send, can_receive}
use Rattle.protocol.proofs.Invariant.Follows.{does, subject_covers, others_cover}
use Rattle.protocol.proofs.Invariant.Queues.{holds_other, holds_send, holds_first, holds_receive}

pub one≢0 : ◌≢◌ {A = ℕ} 1 0
one≢0 e = omega arith

found : {A : Type 0} {p q l x : ℕ} {v : A} {w : View} {arms : List ArmAt} → Does (receive p q l v) w x
    → w ≡ v_receive p arms → find l arms ≡ some x
found d e = let (arms', e', f) = of_receive d in rw (same_receive e' e).1 at f

-- what a tree can do at once: if it is a send, nothing of that pair is in flight
pub record Ready {A : Type 0} (G : Global A) : Type 0 where
  pub action : Action A
  pub after : Global A
  pub step : Step action G after
  pub alone : IsSend action → (w : List (ℕ × A)) → Holds (sender action) (receiver action) G w → w ≡ []

ready_exchange : {A : Type 0} {p q : ℕ} {cs : Arms A} (v : A) → SomeArm cs → Ready (exchange p q cs)
ready_exchange {A = A} {p = p} {q = q} v (some_arm {l = l} {G = G} {cs = cs}) =
    record { action = send p q l v; after = flight p q l v G; step = rule_1 (here refl); alone = λ t w h. go h }
  where
    go : {w : List (ℕ × A)} → Holds p q (exchange p q (arm l G cs)) w → w ≡ []
    go (h_past np sm hs) = absurd (np refl)
    go (h_none e hs) = refl
    go (h_quiet f) = refl

ready_flight : {A : Type 0} {p q l : ℕ} {v : A} {G : Global A} → Ready (flight p q l v G)
ready_flight {p = p} {q = q} {l = l} {v = v} {G = G} = record { action = receive p q l v; after = G; step = rule_2; alone = elim [ ] }

ready_loop : {A : Type 0} {B : Global A} → Ready (unrolled B) → Ready (loop B)
ready_loop {A = A} {B = B} d = record { action = d.action; after = d.after; step = rule_3 d.step; alone = λ t w h. go h }
  where
    go : {w : List (ℕ × A)} → Holds (sender d.action) (receiver d.action) (loop B) w → w ≡ []
    go (h_quiet f) = refl

ready_held : {A : Type 0} {p q : ℕ} {w : List (ℕ × A)} {G : Global A} (v : A) → Holds p q G w → w ≢ [] → Ready G
ready_held v (h_same pp qq h) ne = ready_flight
ready_held v (h_over n h) ne = ready_flight
ready_held v (h_past np sm hs) ne = ready_exchange v sm
ready_held v (h_none e hs) ne = absurd (ne refl)
ready_held v (h_quiet f) ne = absurd (ne refl)

module _ {A : Type 0} (view : ℕ → ℕ → View) (head : ℕ → ℕ → ℕ) where
  rows_after : {G G' : Global A} {a : Action A} {x : ℕ} (c : Config A) → Step a G G' → Agree view head G c
      → Does a (view (subject a) (c.rows (subject a))) x
      → (r n : ℕ) → Covers (view r) (head r) r n G' (put c.rows (subject a) (head (subject a) x) r)
  rows_after {G' = G'} {a = a} {x = x} c s g d r n =
      put_all (λ r row. Covers (view r) (head r) r n G' row) c.rows (subject a) (head (subject a) x)
      (subject_covers (view (subject a)) (head (subject a)) s (g.covered (subject a) (suc n)) d)
      (λ r ne. others_cover (view r) (head r) s ne (g.covered r n)) r

  queues_after : {G G' : Global A} {a : Action A} (c : Config A) (w : List (ℕ × A)) → Step a G G' → Agree view head G c
      → Holds (sender a) (receiver a) G' w → (p q : ℕ) → Holds p q G' (put_pair c.queue (sender a) (receiver a) w p q)
  queues_after {G' = G'} {a = a} c w s g h p q =
      put_pair_all (λ p q w. Holds p q G' w) c.queue (sender a) (receiver a) w h (λ p q ne. holds_other s ne (g.held p q)) p q

  -- T1: what the tree allows, the configuration does
  pub preservation : {G G' : Global A} {a : Action A} (c : Config A) → Step a G G' → Agree view head G c
      → (c' : Config A) × Moves view head c a c' × Agree view head G' c'
  preservation {a = send p q l v} c s g =
      let (x, d) = does (view p) (head p) s (g.covered p 1) in (
        _,
        m_send d,
        record {
          covered = rows_after c s g d;
          held = queues_after c (c.queue p q ++ ((l, v) ∷ [])) s g (holds_send s is_send_lem (g.held p q));
        },
      )
  preservation {a = receive p q l v} c s g =
      let (x, d) = does (view q) (head q) s (g.covered q 1) in
      let (w, e) = holds_first s is_receive_lem (g.held p q) in (
        _,
        m_receive d e,
        record {
          covered = rows_after c s g d;
          held = queues_after c w s g (holds_receive s is_receive_lem e (g.held p q));
        },
      )

  -- T2: what the configuration does, the tree allows
  pub completeness : {G : Global A} {a : Action A} {c c' : Config A} → Agree view head G c → Moves view head c a c'
      → (G' : Global A) × Step a G G' × Agree view head G' c'
  completeness {c = c} g (m_send {p = p} {q = q} {l = l} {v = v} d) =
      let (arms, e, f) = of_send d in
      let (G', s) = can_send (view p) (head p) v (g.covered p 1) one≢0 e f in (
        G',
        s,
        record {
          covered = rows_after c s g d;
          held = queues_after c (c.queue p q ++ ((l, v) ∷ [])) s g (holds_send s is_send_lem (g.held p q));
        },
      )
  completeness {c = c} g (m_receive {p = p} {q = q} {w = w} d e) =
      let (arms, e₁, f) = of_receive d in
      let (G', s) = can_receive (view q) (head q) (g.covered q 1) one≢0 e₁ (rw e at (g.held p q)) in
      (G', s, record { covered = rows_after c s g d; held = queues_after c w s g (holds_receive s is_receive_lem e (g.held p q)) })

  -- a role that stands at a receive knows the label that is held for it
  pub never_stray : {G : Global A} {p q l : ℕ} {v : A} {w : List (ℕ × A)} {arms : List ArmAt} {c : Config A} → Agree view head G c
      → view q (c.rows q) ≡ v_receive p arms → c.queue p q ≡ ((l, v) ∷ w) → (x : ℕ) × (find l arms ≡ some x)
  never_stray {p = p} {q = q} g e h =
      let (G', s) = can_receive (view q) (head q) (g.covered q 1) one≢0 e (rw h at (g.held p q)) in
      let (x, d) = does (view q) (head q) s (g.covered q 1) in
      (x, found d e)

  first_step : {r n row : ℕ} {G : Global A} (v : A) → Covers (view r) (head r) r n G row → n ≢ 0 → view r row ≢ v_end → Ready G
  first_step v c_zero z ne = absurd (z refl)
  first_step v (c_gone f e) z ne = absurd (ne e)
  first_step v (c_send rp pq e sm labels ca) z ne = ready_exchange v sm
  first_step v (c_receive rq pq e sm ca) z ne = ready_exchange v sm
  first_step v (c_past rp rq sm ce) z ne = ready_exchange v sm
  first_step v (c_get rq e f c) z ne = ready_flight
  first_step v (c_over rq c) z ne = ready_flight
  first_step v (c_loop c) z ne = ready_loop (first_step v c z ne)

  -- somebody has not ended, or some queue is not empty
  abbrev pub Unfinished : Config A → Type 0
  Unfinished c = ((r : ℕ) × (view r (c.rows r) ≢ v_end)) ⊎ ((p : ℕ) × (q : ℕ) × (c.queue p q ≢ []))

  ready : {G : Global A} {c : Config A} (v : A) → Agree view head G c → Unfinished c → Ready G
  ready v g (inl t) = first_step v (g.covered t.0 1) one≢0 t.1
  ready v g (inr t) = ready_held v (g.held t.0 t.1) t.2

  -- T3: the topmost exchange can act, and if it is unsent its pair's queue is empty
  pub progress : {G : Global A} {c : Config A} (v : A) → Agree view head G c → Unfinished c
      → (a : Action A) × (c' : Config A) × Moves view head c a c' × (IsSend a → c.queue (sender a) (receiver a) ≡ [])
  progress {c = c} v g t =
      let d = ready v g t in
      let (c', m, g') = preservation c d.step g in
      (d.action, c', m, λ k. d.alone k _ (g.held _ _))
