-- Machinery of the proof of demand 3: what lies unread after a list of calls, by the accepted ones alone, is what is in flight in the tree
-- that they come to. Assumes nothing.
use Prim.Native.Nat.{ℕ, ◌+◌}
use mathlib.Core.Bool.{Bool, true, false, cond}
use mathlib.Core.List.{List, [], ◌∷◌, ◌++◌}
use mathlib.Core.Path.{◌≡◌, refl, sym, ap}
use native.Mathlib.Decide.{ℕ_discrete}
use native.Mathlib.Omega.{arith}
use lib.Dec.{eqb}
use lib.ListN.{length, drop, length-append}
use borrow.Author.Tests.{eqb-true, eq-eqb, ne_eqb}
use Rattle.table.specs.mirror.Kept.{Static, t_exchange, t_arm, StaticArms}
use Rattle.table.specs.Tree.{Global, Arms}
use Rattle.table.proofs.Tests.{both}
use Rattle.protocol.specs.Steps.{send, receive, SomeArm, some_arm, Step}
use Rattle.protocol.specs.Engine.{Call, sends, receives, Reply, Engine}
use Rattle.protocol.specs.Left.{is_pair, now_unread, unread, is_send, is_receive, accepted_of}
use Rattle.protocol.specs.Demand3.{step_of, ComesTo, no_call, accepted_call, refused_call}
use Rattle.protocol.proofs.Invariant.Agree.{is_send_lem, is_receive_lem}
use Rattle.protocol.proofs.Invariant.Holds.{Holds, h_same, h_over, h_past, h_none, h_quiet, HoldsEach, he_nil, he_arm}
use Rattle.protocol.proofs.Invariant.Queues.{holds_other, holds_send, holds_first, holds_receive}

pub same_pair : (p q p' q' : ℕ) → p ≡ p' → q ≡ q' → is_pair p q p' q' ≡ true
same_pair p q p' q' e f = rw (eq-eqb p p' e, eq-eqb q q' f)

pub other_pair : (p q p' q' : ℕ) → ¬ ((p ≡ p') × (q ≡ q')) → is_pair p q p' q' ≡ false
other_pair p q p' q' n = go (ℕ_discrete p p') (ℕ_discrete q q')
  where
    go : Dec (p ≡ p') → Dec (q ≡ q') → is_pair p q p' q' ≡ false
    go (yes e) (yes f) = absurd (n (e, f))
    go (yes e) (no m) = rw (eq-eqb p p' e, ne_eqb q q' m)
    go (no m) d = rw (ne_eqb p p' m)

-- ---- what lies unread is what is in flight

now_send : {A : Type 0} {p q p' q' l : ℕ} {v : A} {G G' : Global A} {w : List (ℕ × A)} → Dec (p ≡ p') → Dec (q ≡ q')
    → Step (send p' q' l v) G G' → Holds p q G w → Holds p q G' (cond (is_pair p q p' q') (w ++ ((l, v) ∷ [])) w)
now_send {p = p} {q = q} {p' = p'} {q' = q'} (yes e) (yes f) s h =
    rw (same_pair p q p' q' e f) (rw (e, f) (holds_send s is_send_lem (rw (e, f) at h)))
now_send {p = p} {q = q} {p' = p'} {q' = q'} (yes e) (no n) s h =
    rw (other_pair p q p' q' (λ t. n t.1)) (holds_other s (λ t. n t.1) h)
now_send {p = p} {q = q} {p' = p'} {q' = q'} (no n) d s h = rw (other_pair p q p' q' (λ t. n t.0)) (holds_other s (λ t. n t.0) h)

first_taken : {A : Type 0} {p q l : ℕ} {v : A} {G G' : Global A} {w : List (ℕ × A)} → Step (receive p q l v) G G' → Holds p q G w
    → Holds p q G' (drop 1 w)
first_taken s h = let (w', g) = holds_first s is_receive_lem h in rw g (holds_receive s is_receive_lem g h)

now_receive : {A : Type 0} {p q p' q' l : ℕ} {v : A} {G G' : Global A} {w : List (ℕ × A)} → Dec (p ≡ p') → Dec (q ≡ q')
    → Step (receive p' q' l v) G G' → Holds p q G w → Holds p q G' (cond (is_pair p q p' q') (drop 1 w) w)
now_receive {p = p} {q = q} {p' = p'} {q' = q'} (yes e) (yes f) s h =
    rw (same_pair p q p' q' e f) (rw (e, f) (first_taken s (rw (e, f) at h)))
now_receive {p = p} {q = q} {p' = p'} {q' = q'} (yes e) (no n) s h =
    rw (other_pair p q p' q' (λ t. n t.1)) (holds_other s (λ t. n t.1) h)
now_receive {p = p} {q = q} {p' = p'} {q' = q'} (no n) d s h = rw (other_pair p q p' q' (λ t. n t.0)) (holds_other s (λ t. n t.0) h)

now_holds : {S : Type 0} {p q : ℕ} {G G' : Global ℕ} {w : List (ℕ × ℕ)} (c : Call) (a : Reply S) → Step (step_of c a) G G' → Holds p q G w
    → Holds p q G' (now_unread p q c w)
now_holds {p = p} {q = q} (sends p' q' l v) a s h = now_send (ℕ_discrete p p') (ℕ_discrete q q') s h
now_holds {p = p} {q = q} (receives p' q') a s h = now_receive (ℕ_discrete p p') (ℕ_discrete q q') s h

pub unread_holds : {S : Type 0} {e : Engine S} {p q : ℕ} {cs : List Call} {s : S} {G H : Global ℕ} {w : List (ℕ × ℕ)} → ComesTo e s G cs H → Holds p q G w
    → Holds p q H (unread e p q cs s w)
unfolding unread
unread_holds no_call h = h
unread_holds (accepted_call {c = c} n step t) h = unread_holds t (rw (eq-eqb _ _ n) (now_holds c _ step h))
unread_holds (refused_call n t) h = unread_holds t (rw (ne_eqb _ _ n) h)

-- ---- and it is what was sent and not received

sent_count : {A : Type 0} (b : Bool) (w : List (ℕ × A)) (m : ℕ × A) → length (cond b (w ++ (m ∷ [])) w) + 0 ≡ length w + cond b 1 0
sent_count true w m = rw (length-append w (m ∷ [])) (omega arith)
sent_count false w m = refl

received_count : {A : Type 0} {p q p' q' l : ℕ} {v : A} {G G' : Global A} {w : List (ℕ × A)} (b : Bool) → is_pair p q p' q' ≡ b
    → Step (receive p' q' l v) G G' → Holds p q G w → length (cond b (drop 1 w) w) + cond b 1 0 ≡ length w + 0
received_count {p = p} {q = q} {p' = p'} {q' = q'} true e s h =
    let (e₁, e₂) = both (eqb p p') (eqb q q') e in
    let (w', f) = holds_first s is_receive_lem (rw (eqb-true p p' e₁, eqb-true q q' e₂) at h) in
    rw f (omega arith)
received_count false e s h = refl

call_count : {S : Type 0} {p q : ℕ} {G G' : Global ℕ} {w : List (ℕ × ℕ)} (c : Call) (a : Reply S) → Step (step_of c a) G G' → Holds p q G w
    → length (now_unread p q c w) + is_receive p q c ≡ length w + is_send p q c
call_count {p = p} {q = q} {w = w} (sends p' q' l v) a s h = sent_count (is_pair p q p' q') w (l, v)
call_count {p = p} {q = q} (receives p' q') a s h = received_count (is_pair p q p' q') refl s h

pub unread_count : {S : Type 0} {e : Engine S} {p q : ℕ} {cs : List Call} {s : S} {G H : Global ℕ} {w : List (ℕ × ℕ)} → ComesTo e s G cs H → Holds p q G w
    → length (unread e p q cs s w) + accepted_of e (is_receive p q) cs s ≡ length w + accepted_of e (is_send p q) cs s
unfolding unread accepted_of
unread_count no_call h = refl
unread_count {p = p} {q = q} (accepted_call {c = c} n step t) h =
    let one_call = call_count c _ step h in
    let rest = unread_count t (now_holds c _ step h) in
    rw (eq-eqb _ _ n) (omega (arith, one_call, rest))
unread_count (refused_call n t) h = let rest = unread_count t h in rw (ne_eqb _ _ n) (omega (arith, rest))

-- where nothing is in flight nothing is held
mutual
  quiet_empty : {A : Type 0} {p q : ℕ} {G : Global A} {w : List (ℕ × A)} → Holds p q G w → Static G → w ≡ []
  quiet_empty (h_past n sm hs) (t_exchange f) = quiet_empty_each hs sm f
  quiet_empty (h_none e hs) f = refl
  quiet_empty (h_quiet f) g = refl
  quiet_empty (h_same _ _ _) f = elim f [ ]
  quiet_empty (h_over _ _) f = elim f [ ]

  quiet_empty_each : {A : Type 0} {p q : ℕ} {cs : Arms A} {w : List (ℕ × A)} → HoldsEach p q cs w → SomeArm cs → StaticArms cs → w ≡ []
  quiet_empty_each (he_arm h hs) some_arm (t_arm f g) = quiet_empty h f
  quiet_empty_each he_nil h _ = elim h [ ]

-- the messages in flight are those of one list only
mutual
  pub holds_once : {A : Type 0} {p q : ℕ} {G : Global A} {w w' : List (ℕ × A)} → Holds p q G w → Holds p q G w' → w ≡ w'
  holds_once (h_same {l = l} {v = v} e f h) (h_same e' f' h') = ap (λ w. (l, v) ∷ w) (holds_once h h')
  holds_once (h_same e f h) (h_over n h') = absurd (n (e, f))
  holds_once (h_over n h) (h_same e f h') = absurd (n (e, f))
  holds_once (h_over n h) (h_over n' h') = holds_once h h'
  holds_once (h_past n sm hs) (h_past n' sm' hs') = holds_once_each hs hs' sm
  holds_once (h_past n sm hs) (h_none e hs') = absurd (n e)
  holds_once (h_past n sm hs) (h_quiet f) = quiet_empty (h_past n sm hs) f
  holds_once (h_none e hs) (h_past n sm hs') = absurd (n e)
  holds_once (h_none e hs) (h_none e' hs') = refl
  holds_once (h_none e hs) (h_quiet f) = refl
  holds_once (h_quiet f) h = sym (quiet_empty h f)
  holds_once (h_same e f h) (h_quiet t) = elim t [ ]
  holds_once (h_over n h) (h_quiet f) = elim f [ ]

  holds_once_each : {A : Type 0} {p q : ℕ} {cs : Arms A} {w w' : List (ℕ × A)} → HoldsEach p q cs w → HoldsEach p q cs w' → SomeArm cs → w ≡ w'
  holds_once_each (he_arm h hs) (he_arm h' hs') some_arm = holds_once h h'
  holds_once_each he_nil _ h = elim h [ ]
