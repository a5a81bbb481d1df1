-- Machinery of the proof of demand 3: what a step does to the messages in flight. Another pair's stay, a send puts its message last, a
-- receive takes the first. Assumes nothing.
use Prim.Native.Nat.{ℕ}
use mathlib.Core.List.{List, [], ◌∷◌, ◌++◌}
use mathlib.Core.Path.{◌≡◌, refl}
use native.Mathlib.Decide.{ℕ_discrete}
use native.Mathlib.Omega.{arith}
use Rattle.table.specs.mirror.Kept.{t_exchange, t_loop, StaticArms, t_nil, t_arm}
use Rattle.table.specs.Tree.{Global, exchange, Arms}
use Rattle.protocol.specs.Steps.{Action, ArmOf, here, there, SomeArm, Step, rule_1, rule_2, rule_3, rule_4, rule_5, Steps, no_arm, each_arm}
use Rattle.protocol.proofs.Unrolled.{static_unrolled}
use Rattle.protocol.proofs.Invariant.Holds.{Holds, h_same, h_over, h_past, h_none, h_quiet, HoldsEach, he_nil, he_arm}
use Rattle.protocol.proofs.Invariant.Follows.{some_steps}
use Rattle.protocol.proofs.Invariant.Agree.{sender, receiver, message, IsSend, is_send_lem, IsReceive, is_receive_lem}

holds_in : {A : Type 0} {p q l : ℕ} {w : List (ℕ × A)} {G : Global A} {cs : Arms A} → ArmOf l G cs → HoldsEach p q cs w → Holds p q G w
holds_in (here e) (he_arm h hs) = h
holds_in (there n i) (he_arm h hs) = holds_in i hs

quiet_each : {A : Type 0} {p q : ℕ} {cs : Arms A} → StaticArms cs → HoldsEach p q cs []
quiet_each t_nil = he_nil
quiet_each (t_arm f g) = he_arm (h_quiet f) (quiet_each g)

empty_exchange : {A : Type 0} {p q p' q' : ℕ} {cs : Arms A} → SomeArm cs → HoldsEach p q cs [] → Holds p q (exchange p' q' cs) []
empty_exchange {A = A} {p = p} {q = q} {p' = p'} {q' = q'} {cs = cs} sm hs = go (ℕ_discrete p p')
  where
    go : Dec (p ≡ p') → Holds {A = A} p q (exchange p' q' cs) []
    go (yes e) = h_none e hs
    go (no ne) = h_past ne sm hs

mutual
  pub holds_other : {A : Type 0} {p q : ℕ} {a : Action A} {G G' : Global A} {w : List (ℕ × A)} → Step a G G'
      → ¬ ((p ≡ sender a) × (q ≡ receiver a)) → Holds p q G w → Holds p q G' w
  holds_other (rule_1 i) ne (h_past np sm hs) = h_over ne (holds_in i hs)
  holds_other (rule_1 i) ne (h_none e hs) = h_over ne (holds_in i hs)
  holds_other (rule_1 i) ne (h_quiet (t_exchange f)) = h_over ne (holds_in i (quiet_each f))
  holds_other rule_2 ne (h_same pp qq h) = absurd (ne (pp, qq))
  holds_other rule_2 ne (h_over _ h) = h
  holds_other (rule_3 {B = B} s) ne (h_quiet (t_loop f)) = holds_other s ne (h_quiet (static_unrolled B f))
  holds_other (rule_4 sp sq sm ss) ne (h_past np _ hs) = h_past np (some_steps ss sm) (holds_others ss ne hs)
  holds_other (rule_4 sp sq sm ss) ne (h_none e hs) = h_none e (holds_others ss ne hs)
  holds_other (rule_4 sp sq sm ss) ne (h_quiet (t_exchange f)) = empty_exchange (some_steps ss sm) (holds_others ss ne (quiet_each f))
  holds_other (rule_5 sq s) ne (h_same pp qq h) = h_same pp qq (holds_other s ne h)
  holds_other (rule_5 sq s) ne (h_over n h) = h_over n (holds_other s ne h)
  holds_other rule_2 ne (h_quiet h) = elim h [ ]
  holds_other (rule_5 sq s) ne (h_quiet h) = elim h [ ]

  holds_others : {A : Type 0} {p q : ℕ} {a : Action A} {cs cs' : Arms A} {w : List (ℕ × A)} → Steps a cs cs'
      → ¬ ((p ≡ sender a) × (q ≡ receiver a)) → HoldsEach p q cs w → HoldsEach p q cs' w
  holds_others no_arm ne he_nil = he_nil
  holds_others (each_arm s ss) ne (he_arm h hs) = he_arm (holds_other s ne h) (holds_others ss ne hs)

mutual
  pub holds_send : {A : Type 0} {a : Action A} {G G' : Global A} {w : List (ℕ × A)} → Step a G G' → IsSend a
      → Holds (sender a) (receiver a) G w → Holds (sender a) (receiver a) G' (w ++ (message a ∷ []))
  holds_send (rule_1 i) is_send_lem (h_past np sm hs) = absurd (np refl)
  holds_send (rule_1 i) is_send_lem (h_none e hs) = h_same refl refl (holds_in i hs)
  holds_send (rule_1 i) is_send_lem (h_quiet (t_exchange f)) = h_same refl refl (holds_in i (quiet_each f))
  holds_send (rule_3 {B = B} s) t (h_quiet (t_loop f)) = holds_send s t (h_quiet (static_unrolled B f))
  holds_send (rule_4 sp sq sm ss) is_send_lem (h_past np _ hs) = h_past np (some_steps ss sm) (holds_sends ss is_send_lem hs)
  holds_send (rule_4 sp sq sm ss) is_send_lem (h_none e hs) = absurd (sp e)
  holds_send (rule_4 sp sq sm ss) is_send_lem (h_quiet (t_exchange f)) = h_past sp (some_steps ss sm) (holds_sends ss is_send_lem (quiet_each f))
  holds_send (rule_5 sq s) t (h_same pp qq h) = h_same pp qq (holds_send s t h)
  holds_send (rule_5 sq s) t (h_over n h) = h_over n (holds_send s t h)
  holds_send rule_2 t _ = elim t [ ]
  holds_send (rule_5 sq s) t (h_quiet h) = elim h [ ]

  holds_sends : {A : Type 0} {a : Action A} {cs cs' : Arms A} {w : List (ℕ × A)} → Steps a cs cs' → IsSend a
      → HoldsEach (sender a) (receiver a) cs w → HoldsEach (sender a) (receiver a) cs' (w ++ (message a ∷ []))
  holds_sends no_arm t he_nil = he_nil
  holds_sends (each_arm s ss) t (he_arm h hs) = he_arm (holds_send s t h) (holds_sends ss t hs)

mutual
  pub holds_first : {A : Type 0} {a : Action A} {G G' : Global A} {w : List (ℕ × A)} → Step a G G' → IsReceive a
      → Holds (sender a) (receiver a) G w → (w' : List (ℕ × A)) × (w ≡ (message a ∷ w'))
  holds_first rule_2 t (h_same {w = w} pp qq h) = (w, refl)
  holds_first rule_2 t (h_over n h) = absurd (n (refl, refl))
  holds_first (rule_3 {B = B} s) t (h_quiet (t_loop f)) = holds_first s t (h_quiet (static_unrolled B f))
  holds_first (rule_4 sp sq sm ss) t (h_past np _ hs) = holds_firsts ss t sm hs
  holds_first (rule_4 sp sq sm ss) t (h_none e hs) = holds_firsts ss t sm hs
  holds_first (rule_4 sp sq sm ss) t (h_quiet (t_exchange f)) = holds_firsts ss t sm (quiet_each f)
  holds_first (rule_5 sq s) is_receive_lem (h_same pp qq h) = absurd (sq qq)
  holds_first (rule_5 sq s) t (h_over n h) = holds_first s t h
  holds_first (rule_1 _) t _ = elim t [ ]
  holds_first rule_2 t (h_quiet h) = elim h [ ]
  holds_first (rule_5 sq s) t (h_quiet h) = elim h [ ]

  holds_firsts : {A : Type 0} {a : Action A} {cs cs' : Arms A} {w : List (ℕ × A)} → Steps a cs cs' → IsReceive a → SomeArm cs
      → HoldsEach (sender a) (receiver a) cs w → (w' : List (ℕ × A)) × (w ≡ (message a ∷ w'))
  holds_firsts (each_arm s ss) t sm (he_arm h hs) = holds_first s t h
  holds_firsts no_arm t sm _ = elim sm [ ]

same_rest : {B : Type 0} {x y : B} {xs ys : List B} → (x ∷ xs) ≡ (y ∷ ys) → xs ≡ ys
same_rest e = cc

pub nil≢cons : {B C : Type 0} {x : B} {xs : List B} → [] ≡ (x ∷ xs) → C
nil≢cons e = let z : ◌≡◌ {A = ℕ} 0 1 = cc in absurd (omega arith)

mutual
  pub holds_receive : {A : Type 0} {a : Action A} {G G' : Global A} {w w' : List (ℕ × A)} → Step a G G' → IsReceive a
      → w ≡ (message a ∷ w') → Holds (sender a) (receiver a) G w → Holds (sender a) (receiver a) G' w'
  holds_receive rule_2 t e (h_same pp qq h) = rw (same_rest e) at h
  holds_receive rule_2 t e (h_over n h) = absurd (n (refl, refl))
  holds_receive (rule_3 s) t e (h_quiet f) = nil≢cons e
  holds_receive (rule_4 sp sq sm ss) t e (h_past np _ hs) = h_past np (some_steps ss sm) (holds_receives ss t e hs)
  holds_receive (rule_4 sp sq sm ss) t e (h_none _ hs) = nil≢cons e
  holds_receive (rule_4 sp sq sm ss) t e (h_quiet f) = nil≢cons e
  holds_receive (rule_5 sq s) is_receive_lem e (h_same pp qq h) = absurd (sq qq)
  holds_receive (rule_5 sq s) t e (h_over n h) = h_over n (holds_receive s t e h)
  holds_receive (rule_1 _) t e _ = elim t [ ]
  holds_receive rule_2 t e (h_quiet f) = elim f [ ]
  holds_receive (rule_5 sq s) t e (h_quiet f) = elim f [ ]

  holds_receives : {A : Type 0} {a : Action A} {cs cs' : Arms A} {w w' : List (ℕ × A)} → Steps a cs cs' → IsReceive a
      → w ≡ (message a ∷ w') → HoldsEach (sender a) (receiver a) cs w → HoldsEach (sender a) (receiver a) cs' w'
  holds_receives no_arm t e he_nil = he_nil
  holds_receives (each_arm s ss) t e (he_arm h hs) = he_arm (holds_receive s t e h) (holds_receives ss t e hs)
