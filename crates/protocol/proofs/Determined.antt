-- The step rules leave nothing open: what a tree comes to by an action is one tree. Assumes nothing.
use Prim.Native.Nat.{ℕ}
use mathlib.Core.Path.{◌≡◌, refl, ap}
use Rattle.table.specs.Tree.{Global, Arms}
use Rattle.protocol.specs.Unrolled.{unrolled}
use Rattle.protocol.specs.Steps.{Action, ArmOf, here, there, Step, rule_1, rule_2, rule_3, rule_4, rule_5, Steps, no_arm, each_arm}

-- a label has one arm
pub one_arm : {A : Type 0} {l : ℕ} {G H : Global A} {cs : Arms A} → ArmOf l G cs → ArmOf l H cs → G ≡ H
one_arm (here e) (here f) = refl
one_arm (here e) (there n j) = absurd (n e)
one_arm (there n i) (here f) = absurd (n f)
one_arm (there n i) (there m j) = one_arm i j

-- what two equal trees come to by equal actions is equal. Said of two, as a step names a role both in its action and in its tree
mutual
  determined_at : {A : Type 0} {a b : Action A} {G H G₁ G₂ : Global A} → Step a G G₁ → Step b H G₂ → a ≡ b → G ≡ H → G₁ ≡ G₂
  determined_at (rule_1 {l = l} {cs = cs} {G = G} i) (rule_1 {l = l'} {cs = cs'} {G = G'} j) e f =
      let el : l ≡ l' = cc in
      let ec : cs ≡ cs' = cc in
      let g : G ≡ G' = one_arm i (rw (← el, ← ec) at j) in
      cc
  determined_at (rule_1 i) rule_2 e f = cc
  determined_at (rule_1 i) (rule_3 t) e f = cc
  determined_at (rule_1 i) (rule_4 not_p not_q some steps) e f = absurd (not_p cc)
  determined_at (rule_1 i) (rule_5 not_q t) e f = cc
  determined_at rule_2 (rule_1 j) e f = cc
  determined_at rule_2 rule_2 e f = cc
  determined_at rule_2 (rule_3 t) e f = cc
  determined_at rule_2 (rule_4 not_p not_q some steps) e f = cc
  determined_at rule_2 (rule_5 not_q t) e f = absurd (not_q cc)
  determined_at (rule_3 s) (rule_1 j) e f = cc
  determined_at (rule_3 s) rule_2 e f = cc
  determined_at (rule_3 {B = B} s) (rule_3 {B = C} t) e f = determined_at s t e (ap unrolled (let h : B ≡ C = cc in h))
  determined_at (rule_3 s) (rule_4 not_p not_q some steps) e f = cc
  determined_at (rule_3 s) (rule_5 not_q t) e f = cc
  determined_at (rule_4 not_p not_q some steps) (rule_1 j) e f = absurd (not_p cc)
  determined_at (rule_4 not_p not_q some steps) rule_2 e f = cc
  determined_at (rule_4 not_p not_q some steps) (rule_3 t) e f = cc
  determined_at (rule_4 {cs' = cs₁} not_p not_q some ss) (rule_4 {cs' = cs₂} not_p' not_q' some' ts) e f =
      let g : cs₁ ≡ cs₂ = determined_arms_at ss ts e cc in cc
  determined_at (rule_4 not_p not_q some steps) (rule_5 not_q' t) e f = cc
  determined_at (rule_5 not_q s) (rule_1 j) e f = cc
  determined_at (rule_5 not_q s) rule_2 e f = absurd (not_q cc)
  determined_at (rule_5 not_q s) (rule_3 t) e f = cc
  determined_at (rule_5 not_q s) (rule_4 not_p not_q' some steps) e f = cc
  determined_at (rule_5 {G' = G₁} not_q s) (rule_5 {G' = G₂} not_q' t) e f = let g : G₁ ≡ G₂ = determined_at s t e cc in cc

  determined_arms_at : {A : Type 0} {a b : Action A} {cs ds cs₁ cs₂ : Arms A} → Steps a cs cs₁ → Steps b ds cs₂ → a ≡ b → cs ≡ ds → cs₁ ≡ cs₂
  determined_arms_at no_arm no_arm e f = refl
  determined_arms_at no_arm (each_arm t ts) e f = cc
  determined_arms_at (each_arm s ss) no_arm e f = cc
  determined_arms_at (each_arm {G' = G₁} {cs' = cs₁} s ss) (each_arm {G' = G₂} {cs' = cs₂} t ts) e f =
      let g : G₁ ≡ G₂ = determined_at s t e cc in
      let h : cs₁ ≡ cs₂ = determined_arms_at ss ts e cc in
      cc

pub determined : {A : Type 0} {a : Action A} {G G₁ G₂ : Global A} → Step a G G₁ → Step a G G₂ → G₁ ≡ G₂
determined s t = determined_at s t refl refl

pub determined_arms : {A : Type 0} {a : Action A} {cs cs₁ cs₂ : Arms A} → Steps a cs cs₁ → Steps a cs cs₂ → cs₁ ≡ cs₂
determined_arms ss ts = determined_arms_at ss ts refl refl
