-- Machinery of the proof of K13: when the topmost exchange is advanced again and again, by whichever arms, each message in flight is
-- received after finitely many steps, and each role that has not ended acts. Assumes nothing.
use Prim.Native.Nat.{ℕ, suc, ◌+◌}
use mathlib.Core.Bool.{cond}
use mathlib.Core.List.{List, [], ◌∷◌}
use mathlib.Core.Logic.{◌≢◌}
use mathlib.Core.Path.{◌≡◌, refl, sym}
use native.Mathlib.Omega.{arith}
use Rattle.table.specs.Tree.{Global, exchange, flight, loop, Arms}
use Rattle.protocol.specs.Steps.{Action, send, receive, subject, ArmOf, here, there, SomeArm, Step, rule_1, rule_2, rule_3}
use Rattle.protocol.specs.Left.{is_pair}
use Rattle.protocol.specs.Stranded.{Place, oldest, behind, Advances, sends_picked, receives_it, opens_loop}
use Rattle.protocol.specs.Unrolled.{unrolled}
use Rattle.protocol.proofs.Invariant.Unread.{same_pair, other_pair}
use Rattle.protocol.proofs.Invariant.View.{View, v_end}
use Rattle.protocol.proofs.Invariant.Covers.{Covers, c_zero, c_gone, c_send, c_receive, c_past, c_get, c_over, c_loop, CoversEach, ce_nil, ce_arm}
use Rattle.protocol.proofs.Invariant.Holds.{Holds, h_same, h_over, h_past, h_none, h_quiet, HoldsEach, he_nil, he_arm}
use Rattle.protocol.proofs.Invariant.Agree.{sender, receiver, message, IsSend, is_send_lem}

-- how many of these actions are a receive by q from p
abbrev pub receipt : {A : Type 0} → ℕ → ℕ → Action A → ℕ
receipt p q (send p' q' l v) = 0
receipt p q (receive p' q' l v) = cond (is_pair p q p' q') 1 0

unfoldable pub receipts : {A : Type 0} → ℕ → ℕ → List (Action A) → ℕ
receipts p q [] = 0
receipts p q (a ∷ ds) = receipt p q a + receipts p q ds

module _ {A : Type 0} (pick : Arms A → ℕ) (v : A) where
  -- ---- an action of the topmost exchange is a step; if it is a send, nothing of its pair is in flight, and its payload is v

  pub advances_step : {a : Action A} {G G' : Global A} → Advances pick v G a G' → Step a G G'
  advances_step (sends_picked i) = rule_1 i
  advances_step receives_it = rule_2
  advances_step (opens_loop t) = rule_3 (advances_step t)

  pub sends_alone : {a : Action A} {G G' : Global A} {w : List (ℕ × A)} → Advances pick v G a G' → IsSend a → Holds (sender a) (receiver a) G w → w ≡ []
  sends_alone (sends_picked i) is_send_lem (h_past n sm hs) = absurd (n refl)
  sends_alone (sends_picked i) is_send_lem (h_none e hs) = refl
  sends_alone (sends_picked i) is_send_lem (h_quiet f) = refl
  sends_alone (opens_loop t) s (h_quiet f) = refl
  sends_alone receives_it s _ = elim s [ ]

  pub sends_payload : {a : Action A} {G G' : Global A} → Advances pick v G a G' → IsSend a → (message a).1 ≡ v
  sends_payload (sends_picked i) is_send_lem = refl
  sends_payload (opens_loop t) s = sends_payload t s
  sends_payload receives_it s = elim s [ ]

  -- the topmost exchange is advanced by these actions and then by the action b
  pub data Leads : Global A → List (Action A) → Action A → Type 0 where
    now : {b : Action A} {G G' : Global A} → Advances pick v G b G' → Leads G [] b
    later : {a b : Action A} {ds : List (Action A)} {G G' : Global A} → Advances pick v G a G' → Leads G' ds b → Leads G (a ∷ ds) b

  leads_loop : {b : Action A} {ds : List (Action A)} {B : Global A} → Leads (unrolled B) ds b → Leads (loop B) ds b
  leads_loop (now t) = now (opens_loop t)
  leads_loop (later t r) = later (opens_loop t) r

  -- ---- a message in flight

  -- the message of number k of the pair
  pub record Gets (p q k : ℕ) (m : ℕ × A) (G : Global A) : Type 0 where
    pub before : List (Action A)
    pub leads : Leads G before (receive p q m.0 m.1)
    pub count : receipts p q before ≡ k

  gets_now : {p q p' q' l : ℕ} {u : A} {G : Global A} → p ≡ p' → q ≡ q' → Gets p q 0 (l, u) (flight p' q' l u G)
  unfolding receipts
  gets_now e f = record { before = []; leads = rw (e, f) (now receives_it); count = refl }

  gets_next : {p q p' q' l k : ℕ} {u : A} {m : ℕ × A} {G : Global A} → p ≡ p' → q ≡ q' → Gets p q k m G → Gets p q (suc k) m (flight p' q' l u G)
  unfolding receipts
  gets_next {p} {q} {p'} {q'} {l} {u = u} e f g =
      record {
        before = receive p' q' l u ∷ g.before;
        leads = later receives_it g.leads;
        count = let h = g.count in rw (same_pair p q p' q' e f) (omega arith);
      }

  gets_over : {p q p' q' l k : ℕ} {u : A} {m : ℕ × A} {G : Global A} → ¬ ((p ≡ p') × (q ≡ q')) → Gets p q k m G → Gets p q k m (flight p' q' l u G)
  unfolding receipts
  gets_over {p} {q} {p'} {q'} {l} {u = u} n g =
      record {
        before = receive p' q' l u ∷ g.before;
        leads = later receives_it g.leads;
        count = let h = g.count in rw (other_pair p q p' q' n) (omega arith);
      }

  gets_past : {p q p' q' k : ℕ} {m : ℕ × A} {H : Global A} {cs : Arms A} → p ≢ p' → ArmOf (pick cs) H cs → Gets p q k m H → Gets p q k m (exchange p' q' cs)
  unfolding receipts
  gets_past {p} {q} {p'} {q'} {cs = cs} n i g =
      record {
        before = send p' q' (pick cs) v ∷ receive p' q' (pick cs) v ∷ g.before;
        leads = later (sends_picked i) (later receives_it g.leads);
        count = let h = g.count in rw (other_pair p q p' q' (λ t. n t.0)) (omega arith);
      }

  -- ---- a role that has not ended

  pub record Moves (r : ℕ) (G : Global A) : Type 0 where
    pub before : List (Action A)
    pub action : Action A
    pub leads : Leads G before action
    pub by : subject action ≡ r

  moves_over : {r p q l : ℕ} {u : A} {G : Global A} → Moves r G → Moves r (flight p q l u G)
  moves_over {p = p} {q = q} {l = l} {u = u} g =
      record { before = receive p q l u ∷ g.before; action = g.action; leads = later receives_it g.leads; by = g.by }

  moves_past : {r p q : ℕ} {H : Global A} {cs : Arms A} → ArmOf (pick cs) H cs → Moves r H → Moves r (exchange p q cs)
  moves_past {p = p} {q = q} {cs = cs} i g =
      record {
        before = send p q (pick cs) v ∷ receive p q (pick cs) v ∷ g.before;
        action = g.action;
        leads = later (sends_picked i) (later receives_it g.leads);
        by = g.by;
      }

  moves_loop : {r : ℕ} {B : Global A} → Moves r (unrolled B) → Moves r (loop B)
  moves_loop g = record { before = g.before; action = g.action; leads = leads_loop g.leads; by = g.by }

  -- ---- both get there, since what is covered and what is held is finite between two actions

  module _ (picked : (cs : Arms A) → SomeArm cs → (H : Global A) × ArmOf (pick cs) H cs) where
    mutual
      pub held_gets : {p q k : ℕ} {m : ℕ × A} {G : Global A} {w : List (ℕ × A)} → Holds p q G w → Place w k m → Gets p q k m G
      held_gets (h_same e f h) oldest = gets_now e f
      held_gets (h_same e f h) (behind i) = gets_next e f (held_gets h i)
      held_gets (h_over n h) i = gets_over n (held_gets h i)
      held_gets (h_past {cs = cs} n sm hs) i = gets_past n (picked cs sm).1 (held_gets_arm hs (picked cs sm).1 i)
      held_gets (h_none _ _) i = elim i [ ]
      held_gets (h_quiet _) i = elim i [ ]

      held_gets_arm : {p q k l : ℕ} {m : ℕ × A} {H : Global A} {cs : Arms A} {w : List (ℕ × A)} → HoldsEach p q cs w → ArmOf l H cs → Place w k m
          → Gets p q k m H
      held_gets_arm (he_arm h hs) (here e) i = held_gets h i
      held_gets_arm (he_arm h hs) (there n j) i = held_gets_arm hs j i
      held_gets_arm he_nil h i = elim h [ ]

    module _ (view : ℕ → View) (head : ℕ → ℕ) where
      mutual
        pub role_moves : {r n row : ℕ} {G : Global A} → Covers view head r n G row → n ≢ 0 → view row ≢ v_end → Moves r G
        role_moves c_zero z ne = absurd (z refl)
        role_moves (c_gone a e) z ne = absurd (ne e)
        role_moves (c_send {p = p} {q = q} {cs = cs} e pq f sm labels ca) z ne =
            record { before = []; action = send p q (pick cs) v; leads = now (sends_picked (picked cs sm).1); by = sym e }
        role_moves (c_receive {p = p} {q = q} {cs = cs} e pq f sm ca) z ne =
            record {
              before = send p q (pick cs) v ∷ [];
              action = receive p q (pick cs) v;
              leads = later (sends_picked (picked cs sm).1) (now receives_it);
              by = sym e;
            }
        role_moves (c_past {cs = cs} rp rq sm ce) z ne = moves_past (picked cs sm).1 (role_moves_arm ce (picked cs sm).1 z ne)
        role_moves (c_get {p = p} {q = q} {l = l} {v = u} e f g c) z ne =
            record { before = []; action = receive p q l u; leads = now receives_it; by = sym e }
        role_moves (c_over rq c) z ne = moves_over (role_moves c z ne)
        role_moves (c_loop c) z ne = moves_loop (role_moves c z ne)

        role_moves_arm : {r n row l : ℕ} {H : Global A} {cs : Arms A} → CoversEach view head r n cs row → ArmOf l H cs → n ≢ 0 → view row ≢ v_end
            → Moves r H
        role_moves_arm (ce_arm c ce) (here e) z ne = role_moves c z ne
        role_moves_arm (ce_arm c ce) (there m j) z ne = role_moves_arm ce j z ne
        role_moves_arm ce_nil h z ne = elim h [ ]
