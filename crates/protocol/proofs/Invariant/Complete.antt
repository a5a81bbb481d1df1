-- Machinery of the proof of demand 3: what a row lets its role do, the tree that it covers allows. Assumes nothing.
use Prim.Native.Nat.{ℕ}
use mathlib.Core.List.{List, ◌∷◌}
use mathlib.Core.Logic.{◌≢◌}
use mathlib.Core.Option.{some}
use mathlib.Core.Path.{◌≡◌, refl}
use native.Mathlib.Decide.{ℕ_discrete}
use Rattle.table.specs.mirror.Kept.{HasLabel, has_here, has_there}
use Rattle.table.specs.Tree.{Global, exchange, flight, Arms, nil, arm}
use Rattle.blocks.specs.Head.{ArmAt, find}
use Rattle.protocol.specs.Steps.{send, receive, ArmOf, here, there, Step, rule_1, rule_2, rule_3, rule_4, rule_5, Steps, no_arm, each_arm}
use Rattle.protocol.proofs.Invariant.View.{View, v_send, v_receive, end≢send, end≢receive, send≢receive, same_send, same_receive}
use Rattle.protocol.proofs.Invariant.Covers.{
  Covers,
  c_zero,
  c_gone,
  c_send,
  c_receive,
  c_past,
  c_get,
  c_over,
  c_loop,
  CoversEach,
  ce_nil,
  ce_arm,
}
use Rattle.protocol.proofs.Invariant.Holds.{Holds, h_same, h_over, h_past, HoldsEach, he_arm}

-- a label that some arm has, some arm has first
arm_or : {A : Type 0} {l k : ℕ} {G : Global A} {cs : Arms A} → Dec (l ≡ k) → (l ≢ k → (H : Global A) × ArmOf l H cs)
    → (H : Global A) × ArmOf l H (arm k G cs)
arm_or {G = G} (yes e) f = (G, here e)
arm_or (no n) f = let (H, i) = f n in (H, there n i)

pub first_arm : {A : Type 0} {l : ℕ} {cs : Arms A} → HasLabel l cs → (G : Global A) × ArmOf l G cs
first_arm (has_here {G = G}) = (G, here refl)
first_arm {l = l} (has_there {k = k} h) = arm_or (ℕ_discrete l k) (λ n. first_arm h)

at_send : {A : Type 0} {s p q q' l x : ℕ} {cs : Arms A} {arms arms' : List ArmAt} (v : A)
    → s ≡ p → (q ≡ q') × (arms ≡ arms') → find l arms' ≡ some x
    → ((l x : ℕ) → find l arms ≡ some x → HasLabel l cs) → (G' : Global A) × Step (send s q' l v) (exchange p q cs) G'
at_send {p = p} {q = q} {l = l} {x = x} v sp e f labels =
    let (G, i) = first_arm (labels l x (rw e.1 f)) in
    (flight p q l v G, rw (sp, ← e.0) (rule_1 i))

module _ {A : Type 0} (view : ℕ → View) (head : ℕ → ℕ) where
  mutual
    pub can_send : {s n row q l x : ℕ} {G : Global A} {arms : List ArmAt} (v : A)
        → Covers view head s n G row → n ≢ 0 → view row ≡ v_send q arms → find l arms ≡ some x
        → (G' : Global A) × Step (send s q l v) G G'
    can_send v c_zero z e f = absurd (z refl)
    can_send v (c_gone a e') z e f = absurd (end≢send e' e)
    can_send v (c_send sp pq e' sm labels ca) z e f = at_send v sp (same_send e' e) f labels
    can_send v (c_receive sq pq e' sm ca) z e f = absurd (send≢receive e e')
    can_send v (c_past {p = p} {q = q} sp sq sm ce) z e f = let (cs', ss) = can_send_each v ce z e f in (exchange p q cs', rule_4 sp sq sm ss)
    can_send v (c_get sq e' f' c) z e f = absurd (send≢receive e e')
    can_send v (c_over {p = p} {q = q} {l = l} {v = v'} sq c) z e f = let (G', s) = can_send v c z e f in (flight p q l v' G', rule_5 sq s)
    can_send v (c_loop c) z e f = let (G', s) = can_send v c z e f in (G', rule_3 s)

    can_send_each : {s n row q l x : ℕ} {cs : Arms A} {arms : List ArmAt} (v : A)
        → CoversEach view head s n cs row → n ≢ 0 → view row ≡ v_send q arms → find l arms ≡ some x
        → (cs' : Arms A) × Steps (send s q l v) cs cs'
    can_send_each v ce_nil z e f = (nil, no_arm)
    can_send_each v (ce_arm {l = l} c ce) z e f =
        let (G', s) = can_send v c z e f in
        let (cs', ss) = can_send_each v ce z e f in
        (arm l G' cs', each_arm s ss)

  -- a message that is held for a role at a receive from its sender
  mutual
    pub can_receive : {s n row p l : ℕ} {v : A} {G : Global A} {arms : List ArmAt} {w : List (ℕ × A)}
        → Covers view head s n G row → n ≢ 0 → view row ≡ v_receive p arms → Holds p s G ((l, v) ∷ w)
        → (G' : Global A) × Step (receive p s l v) G G'
    can_receive c_zero z e h = absurd (z refl)
    can_receive (c_gone a e') z e h = absurd (end≢receive e' e)
    can_receive (c_send sp pq e' sm labels ca) z e h = absurd (send≢receive e' e)
    can_receive (c_receive sq pq e' sm ca) z e (h_past np sm' hs) = absurd (np (same_receive e e').0)
    can_receive (c_past {p = p} {q = q} sp sq sm ce) z e (h_past np _ hs) =
        let (cs', ss) = can_receive_each ce z e hs in (exchange p q cs', rule_4 sp sq sm ss)
    can_receive (c_get {G = G} sq e' f c) z e (h_same pp qq h) = (G, rw (pp, qq) rule_2)
    can_receive (c_get sq e' f c) z e (h_over ne h) = absurd (ne ((same_receive e e').0, sq))
    can_receive (c_over sq c) z e (h_same pp qq h) = absurd (sq qq)
    can_receive (c_over {p = p} {q = q} {l = l} {v = v'} sq c) z e (h_over ne h) =
        let (G', s) = can_receive c z e h in (flight p q l v' G', rule_5 sq s)
    can_receive (c_loop _) z e h = elim h [ ]

    can_receive_each : {s n row p l : ℕ} {v : A} {cs : Arms A} {arms : List ArmAt} {w : List (ℕ × A)}
        → CoversEach view head s n cs row → n ≢ 0 → view row ≡ v_receive p arms → HoldsEach p s cs ((l, v) ∷ w)
        → (cs' : Arms A) × Steps (receive p s l v) cs cs'
    can_receive_each ce_nil z e h = (nil, no_arm)
    can_receive_each (ce_arm {l = l} c ce) z e (he_arm h hs) =
        let (G', s) = can_receive c z e h in
        let (cs', ss) = can_receive_each ce z e hs in
        (arm l G' cs', each_arm s ss)
