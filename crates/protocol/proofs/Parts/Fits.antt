-- The part of a role in a tree is within a part M, said without projection and merge: whatever they give, this is what the proof of
-- demand 3 uses of it. Assumes nothing.
use Prim.Native.Nat.{ℕ, suc}
use mathlib.Core.Logic.{◌≢◌}
use mathlib.Core.Path.{◌≡◌}
use native.Mathlib.Omega.{arith}
use Rattle.table.specs.mirror.Kept.{Inside, i_exchange, i_loop, i_back, InsideArms, i_nil, i_arm, HasLabel}
use Rattle.table.specs.Tree.{Global, end, exchange, loop, back, Arms, nil, arm}
use Rattle.parts.specs.Part.{Part, p_end, p_send, p_receive, p_loop, p_back, PartArms}
use Rattle.protocol.specs.Steps.{SomeArm}
use Rattle.protocol.proofs.Invariant.Covers.{Absent, a_exchange, a_loop, a_back, AbsentArms, a_nil, a_arm}
use Rattle.protocol.proofs.Parts.Arms.{At}
use Rattle.protocol.proofs.Parts.Within.{◌⊑◌, w_end, w_back, w_loop, w_send, w_receive, Over, over}

mutual
  pub data Fits {A : Type 0} (r : ℕ) : Global A → Part → Type 0 where
    f_end : Fits r end p_end
    f_back : {k : ℕ} → Fits r (back k) (p_back k)
    f_gone : {B : Global A} → Absent r B → Inside 1 B → Fits r (loop B) p_end
    f_loop : {B : Global A} {M : Part} → ¬ (Absent r B × Inside 1 B) → Fits r B M → Fits r (loop B) (p_loop M)
    f_send : {p q : ℕ} {cs : Arms A} {ms : PartArms} → r ≡ p → p ≢ q → SomeArm cs
        → ((l : ℕ) (M : Part) → At l M ms → HasLabel l cs) → FitsArms r cs ms → Fits r (exchange p q cs) (p_send q ms)
    f_receive : {p q : ℕ} {cs : Arms A} {ms : PartArms}
        → r ≡ q → p ≢ q → SomeArm cs → FitsArms r cs ms → Fits r (exchange p q cs) (p_receive p ms)
    f_past : {p q : ℕ} {cs : Arms A} {M : Part} → r ≢ p → r ≢ q → SomeArm cs → FitsEach r cs M → Fits r (exchange p q cs) M

  pub data FitsArms {A : Type 0} (r : ℕ) : Arms A → PartArms → Type 0 where
    fa_nil : {ms : PartArms} → FitsArms r nil ms
    fa_arm : {l : ℕ} {G : Global A} {cs : Arms A} {M : Part} {ms : PartArms}
        → At l M ms → Fits r G M → FitsArms r cs ms → FitsArms r (arm l G cs) ms

  pub data FitsEach {A : Type 0} (r : ℕ) : Arms A → Part → Type 0 where
    fe_nil : {M : Part} → FitsEach r nil M
    fe_arm : {l : ℕ} {G : Global A} {cs : Arms A} {M : Part} → Fits r G M → FitsEach r cs M → FitsEach r (arm l G cs) M

up_arm : {A : Type 0} {r l : ℕ} {G : Global A} {cs : Arms A} {P : Part} {ms : PartArms} → ((M : Part) → P ⊑ M → Fits r G M)
    → Over l P ms → FitsArms r cs ms → FitsArms r (arm l G cs) ms
up_arm f (over {M = M} t h) fs = fa_arm t (f M h) fs

-- what is within P is within all that P is within
mutual
  pub fits_up : {A : Type 0} {r : ℕ} {G : Global A} {P M : Part} → Fits r G P → P ⊑ M → Fits r G M
  fits_up f_end w_end = f_end
  fits_up f_back w_back = f_back
  fits_up (f_gone a i) w_end = f_gone a i
  fits_up (f_loop nb f) (w_loop h) = f_loop nb (fits_up f h)
  fits_up (f_send rp pq sm labels fs) (w_send up down) =
      f_send rp pq sm (λ l M t. let (P, u) = down l M t in labels l P u) (fits_up_arms fs up)
  fits_up (f_receive rq pq sm fs) (w_receive up) = f_receive rq pq sm (fits_up_arms fs up)
  fits_up (f_past rp rq sm fs) h = f_past rp rq sm (fits_up_each fs h)

  fits_up_arms : {A : Type 0} {r : ℕ} {cs : Arms A} {ps ms : PartArms} → FitsArms r cs ps
      → ((l : ℕ) (P : Part) → At l P ps → Over l P ms) → FitsArms r cs ms
  fits_up_arms fa_nil up = fa_nil
  fits_up_arms (fa_arm {l = l} {M = M} t f fs) up = up_arm (λ N h. fits_up f h) (up l M t) (fits_up_arms fs up)

  fits_up_each : {A : Type 0} {r : ℕ} {cs : Arms A} {P M : Part} → FitsEach r cs P → P ⊑ M → FitsEach r cs M
  fits_up_each fe_nil h = fe_nil
  fits_up_each (fe_arm f fs) h = fe_arm (fits_up f h) (fits_up_each fs h)

-- before it acts, the part goes back to the k-th loop around it
pub data HeadBack : ℕ → Part → Type 0 where
  hb_back : {k : ℕ} → HeadBack k (p_back k)
  hb_loop : {k : ℕ} {P : Part} → HeadBack (suc k) P → HeadBack k (p_loop P)

-- then its role does nothing at all there, and nothing leaves that loop: the loop is one that the projection drops
mutual
  pub idle : {A : Type 0} {r j : ℕ} {G : Global A} {M : Part} → Fits r G M → HeadBack j M → Absent r G × Inside (suc j) G
  idle (f_back {k = k}) hb_back = (a_back, i_back {d = suc k} {k = k} (omega arith))
  idle (f_loop nb f) (hb_loop h) = let (a, b) = idle f h in (a_loop a, i_loop b)
  idle (f_past rp rq sm fs) h = let (a, b) = idle_each fs h in (a_exchange rp rq a, i_exchange b)
  idle f_end h = elim h [ ]
  idle (f_gone _ _) h = elim h [ ]
  idle (f_send _ _ _ _ _) h = elim h [ ]
  idle (f_receive _ _ _ _) h = elim h [ ]

  idle_each : {A : Type 0} {r j : ℕ} {cs : Arms A} {M : Part} → FitsEach r cs M → HeadBack j M → AbsentArms r cs × InsideArms (suc j) cs
  idle_each fe_nil h = (a_nil, i_nil)
  idle_each (fe_arm f fs) h =
      let (a, b) = idle f h in
      let (c, d) = idle_each fs h in
      (a_arm a c, i_arm b d)

pub no_return : {A : Type 0} {r : ℕ} {B : Global A} {M : Part} → ¬ (Absent r B × Inside 1 B) → Fits r B M → ¬ HeadBack 0 M
no_return nb f h = nb (idle f h)
