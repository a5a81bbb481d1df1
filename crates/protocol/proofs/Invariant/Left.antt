-- Machinery of the proof of demand 3: who has nothing left to do takes no step, and no step gives it something to do; a loop leaves as much
-- as its body with the backs replaced. Assumes nothing.
use Prim.Native.Nat.{ℕ, suc}
use mathlib.Core.List.{List, [], ◌∷◌}
use mathlib.Core.Path.{refl}
use Rattle.table.specs.Tree.{Global, end, exchange, flight, loop, back, Arms, nil, arm}
use Rattle.protocol.specs.Each.{Each, each_nil, each_cons}
use Rattle.protocol.specs.Left.{NothingLeft, left_end, left_exchange, left_flight, left_loop, left_back, NothingLeftArms, left_nil, left_arm}
use Rattle.protocol.specs.Steps.{Action, subject, ArmOf, here, there, SomeArm, Step, rule_1, rule_2, rule_3, rule_4, rule_5, Steps, no_arm, each_arm}
use Rattle.protocol.specs.Unrolled.{close, close_arms, unrolled}
use Rattle.protocol.proofs.Unrolled.{each_back_to}
use Rattle.protocol.proofs.Invariant.Covers.{Absent, a_end, a_exchange, a_flight, a_loop, a_back, AbsentArms, a_nil, a_arm}

mutual
  pub absent_left : {A : Type 0} {r : ℕ} {G : Global A} → Absent r G → NothingLeft r G
  absent_left a_end = left_end
  absent_left (a_exchange p q f) = left_exchange p q (absent_left_arms f)
  absent_left (a_flight p q f) = left_flight q (absent_left f)
  absent_left (a_loop f) = left_loop (absent_left f)
  absent_left a_back = left_back

  absent_left_arms : {A : Type 0} {r : ℕ} {cs : Arms A} → AbsentArms r cs → NothingLeftArms r cs
  absent_left_arms a_nil = left_nil
  absent_left_arms (a_arm f g) = left_arm (absent_left f) (absent_left_arms g)

mutual
  unfolding close

  left_close : {A : Type 0} {r : ℕ} {G : Global A} (d : ℕ) {σ : List (Global A)} → Each (NothingLeft r) σ → NothingLeft r G → NothingLeft r (close G d σ)
  left_close d fs left_end = left_end
  left_close d fs (left_exchange p q f) = left_exchange p q (left_close_arms d fs f)
  left_close d fs (left_flight q f) = left_flight q (left_close d fs f)
  left_close d fs (left_loop f) = left_loop (left_close (suc d) fs f)
  left_close {r = r} d fs (left_back {k = k}) = each_back_to (NothingLeft r) d k fs left_back

  left_close_arms : {A : Type 0} {r : ℕ} {cs : Arms A} (d : ℕ) {σ : List (Global A)}
      → Each (NothingLeft r) σ → NothingLeftArms r cs → NothingLeftArms r (close_arms cs d σ)
  left_close_arms d fs left_nil = left_nil
  left_close_arms d fs (left_arm f g) = left_arm (left_close d fs f) (left_close_arms d fs g)

pub left_unrolled : {A : Type 0} {r : ℕ} (B : Global A) → NothingLeft r B → NothingLeft r (unrolled B)
unfolding unrolled
left_unrolled B f = left_close 0 (each_cons (left_loop f) each_nil) f

left_in : {A : Type 0} {r l : ℕ} {G : Global A} {cs : Arms A} → ArmOf l G cs → NothingLeftArms r cs → NothingLeft r G
left_in (here e) (left_arm f g) = f
left_in (there n i) (left_arm f g) = left_in i g

mutual
  pub left_step : {A : Type 0} {r : ℕ} {a : Action A} {G G' : Global A} → Step a G G' → NothingLeft r G → NothingLeft r G'
  left_step (rule_1 i) (left_exchange p q f) = left_flight q (left_in i f)
  left_step rule_2 (left_flight q f) = f
  left_step (rule_3 {B = B} s) (left_loop f) = left_step s (left_unrolled B f)
  left_step (rule_4 sp sq sm ss) (left_exchange p q f) = left_exchange p q (left_steps ss f)
  left_step (rule_5 sq s) (left_flight q f) = left_flight q (left_step s f)

  left_steps : {A : Type 0} {r : ℕ} {a : Action A} {cs cs' : Arms A} → Steps a cs cs' → NothingLeftArms r cs → NothingLeftArms r cs'
  left_steps no_arm left_nil = left_nil
  left_steps (each_arm s ss) (left_arm f g) = left_arm (left_step s f) (left_steps ss g)

mutual
  pub left_still : {A : Type 0} {a : Action A} {G G' : Global A} → Step a G G' → NothingLeft (subject a) G → ⊥
  left_still (rule_1 i) (left_exchange p q f) = p refl
  left_still rule_2 (left_flight q f) = q refl
  left_still (rule_3 {B = B} s) (left_loop f) = left_still s (left_unrolled B f)
  left_still (rule_4 sp sq sm ss) (left_exchange p q f) = left_stills ss sm f
  left_still (rule_5 sq s) (left_flight q f) = left_still s f

  left_stills : {A : Type 0} {a : Action A} {cs cs' : Arms A} → Steps a cs cs' → SomeArm cs → NothingLeftArms (subject a) cs → ⊥
  left_stills (each_arm s ss) sm (left_arm f g) = left_still s f
  left_stills no_arm sm _ = elim sm [ ]

mutual
  unfolding close

  left_open : {A : Type 0} {r : ℕ} (G : Global A) (d : ℕ) (σ : List (Global A)) → NothingLeft r (close G d σ) → NothingLeft r G
  left_open end d σ f = left_end
  left_open (exchange p q cs) d σ (left_exchange np nq f) = left_exchange np nq (left_open_arms cs d σ f)
  left_open (flight p q l v G) d σ (left_flight nq f) = left_flight nq (left_open G d σ f)
  left_open (loop B) d σ (left_loop f) = left_loop (left_open B (suc d) σ f)
  left_open (back k) d σ f = left_back

  left_open_arms : {A : Type 0} {r : ℕ} (cs : Arms A) (d : ℕ) (σ : List (Global A)) → NothingLeftArms r (close_arms cs d σ) → NothingLeftArms r cs
  left_open_arms nil d σ f = left_nil
  left_open_arms (arm l G cs) d σ (left_arm f g) = left_arm (left_open G d σ f) (left_open_arms cs d σ g)

pub left_rolled : {A : Type 0} {r : ℕ} (B : Global A) → NothingLeft r (unrolled B) → NothingLeft r B
unfolding unrolled
left_rolled B f = left_open B 0 (loop B ∷ []) f
