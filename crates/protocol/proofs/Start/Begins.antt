-- Machinery of the proof of demand 3, T4: where a block stands for a part that fits the tree, the head of row 0 covers the tree, for
-- every number of actions. Assumes nothing.
use Prim.Native.Nat.{ℕ, zero, suc, ◌≤◌, ◌<◌}
use mathlib.Core.List.{List, [], ◌∷◌}
use mathlib.Core.Path.{◌∙◌, ap}
use native.Mathlib.Omega.{arith}
use lib.ListN.{length}
use Rattle.table.specs.mirror.Kept.{Inside, i_exchange, i_loop, InsideArms, i_nil, i_arm, HasLabel, has_here, has_there}
use Rattle.table.specs.Tree.{Global, loop, back, Arms}
use Rattle.parts.specs.Part.{Part, p_loop, PartArms}
use Rattle.blocks.specs.Head.{ArmAt}
use Rattle.protocol.specs.Steps.{SomeArm, some_arm}
use Rattle.protocol.specs.Unrolled.{nth, back_to, close, close_arms, unrolled}
use Rattle.protocol.specs.Left.{left_end, left_loop}
use Rattle.protocol.specs.Each.{Each, each_nil, each_cons}
use Rattle.protocol.proofs.Unrolled.{close_inside, close_close, inside_close}
use Rattle.protocol.proofs.Invariant.View.{View}
use Rattle.protocol.proofs.Invariant.Left.{absent_left}
use Rattle.protocol.proofs.Invariant.Covers.{Covers, c_zero, c_gone, c_send, c_receive, c_past, c_loop, CoversArms, ca_nil, ca_arm, CoversEach, ce_nil, ce_arm}
use Rattle.protocol.proofs.Parts.Fits.{
  Fits,
  f_end,
  f_back,
  f_gone,
  f_loop,
  f_send,
  f_receive,
  f_past,
  FitsArms,
  fa_nil,
  fa_arm,
  FitsEach,
  fe_nil,
  fe_arm,
  HeadBack,
  hb_back,
  hb_loop,
  no_return,
}
use Rattle.protocol.proofs.Start.Encodes.{Nth, n_here, n_there, Encodes, e_end, e_send, e_receive, e_loop, e_back, EncodesArms, Heads, found_row, found_arm}

label_close : {A : Type 0} {l : ℕ} {cs : Arms A} (d : ℕ) (σ : List (Global A)) → HasLabel l cs → HasLabel l (close_arms cs d σ)
unfolding close
label_close d σ has_here = has_here
label_close d σ (has_there h) = has_there (label_close d σ h)

some_close : {A : Type 0} {cs : Arms A} (d : ℕ) (σ : List (Global A)) → SomeArm cs → SomeArm (close_arms cs d σ)
unfolding close
some_close d σ some_arm = some_arm

-- one loop further in, the part goes back to none of the loops entered since it last acted
pub deeper : {d : ℕ} {M : Part} → ¬ HeadBack 0 M
    → ((j : ℕ) → j < d → HeadBack j (p_loop M) → ⊥) → (j : ℕ) → j < suc d → HeadBack j M → ⊥
deeper no_zero h zero b t = no_zero t
deeper no_zero h (suc j) b t = h j (omega arith) (hb_loop t)

module _ (A : Type 0) (view : ℕ → View) (head : ℕ → ℕ) (r : ℕ) where
  -- the loops around, as trees and as rows: of the first d, entered since the part last acted, only fewer than n actions are known
  data Around (n : ℕ) : ℕ → List (Global A) → List ℕ → Type 0 where
    v_nil : {d : ℕ} → Around n d [] []
    v_new : {d x : ℕ} {g : Global A} {σ : List (Global A)} {ρ : List ℕ}
        → Inside 0 g → ((m : ℕ) → m < n → Covers view head r m g (head x)) → Around n d σ ρ → Around n (suc d) (g ∷ σ) (x ∷ ρ)
    v_old : {x : ℕ} {g : Global A} {σ : List (Global A)} {ρ : List ℕ}
        → Inside 0 g → ((m : ℕ) → m ≤ n → Covers view head r m g (head x)) → Around n 0 σ ρ → Around n 0 (g ∷ σ) (x ∷ ρ)

  around_at : {n d k x : ℕ} {σ : List (Global A)} {ρ : List ℕ} (g : Global A) → Around n d σ ρ → Nth k ρ x → d ≤ k
      → Covers view head r n (nth k σ g) (head x)
  unfolding nth
  around_at g (v_new i f e) n_here h = absurd (omega arith)
  around_at g (v_new i f e) (n_there t) h = around_at g e t (omega arith)
  around_at {n = n} g (v_old i f e) n_here h = f n (omega arith)
  around_at g (v_old i f e) (n_there t) h = around_at g e t (omega arith)
  around_at g v_nil f h = elim f [ ]

  around_less : {n d : ℕ} {σ : List (Global A)} {ρ : List ℕ} (m : ℕ) → m < n → Around n d σ ρ → Around m 0 σ ρ
  around_less m h v_nil = v_nil
  around_less m h (v_new i f e) = v_old i (λ k t. f k (omega arith)) (around_less m h e)
  around_less m h (v_old i f e) = v_old i (λ k t. f k (omega arith)) (around_less m h e)

  around_inside : {n d : ℕ} {σ : List (Global A)} {ρ : List ℕ} → Around n d σ ρ → Each (Inside 0) σ
  around_inside v_nil = each_nil
  around_inside (v_new i f e) = each_cons i (around_inside e)
  around_inside (v_old i f e) = each_cons i (around_inside e)

  abbrev Begins : ℕ → Type 0
  Begins n = (G : Global A) (M : Part) (row d : ℕ) (σ : List (Global A)) (ρ : List ℕ)
      → Fits r G M → Encodes view row ρ M → Around n d σ ρ → Inside (length σ) G → ((j : ℕ) → j < d → HeadBack j M → ⊥)
      → Covers view head r n (close G 0 σ) (head row)

  -- after the part has acted: one action fewer, and every loop around is known so far
  begin_arms : {ms : PartArms} {cs : Arms A} {arms : List ArmAt} {σ : List (Global A)} {ρ : List ℕ} (m : ℕ) → Begins m
      → FitsArms r cs ms → EncodesArms view arms ρ ms → Around m 0 σ ρ → InsideArms (length σ) cs
      → CoversArms view head r m arms (close_arms cs 0 σ)
  unfolding close
  begin_arms m ih fa_nil en env i_nil = ca_nil
  begin_arms {σ = σ} {ρ = ρ} m ih (fa_arm {G = G} {M = M} t f fs) en env (i_arm i is) =
      let (x, e, en') = found_row en t in
      ca_arm e (ih G M x 0 σ ρ f en' env i (λ j h. absurd (omega arith))) (begin_arms m ih fs en env is)

  module _ (heads : Heads view head) where
    mutual
      unfolding close back_to unrolled

      begin : {G : Global A} {M : Part} (n : ℕ) → ((m : ℕ) → m < n → Begins m) → Fits r G M → (row d : ℕ) (σ : List (Global A)) (ρ : List ℕ)
          → Encodes view row ρ M → Around n d σ ρ → Inside (length σ) G → ((j : ℕ) → j < d → HeadBack j M → ⊥)
          → Covers view head r n (close G 0 σ) (head row)
      begin n ih f_end row d σ ρ (e_end e) env ins acts = c_gone left_end (ap view (heads.on_end row e) ∙ e)
      begin n ih (f_back {k = k}) row d σ ρ (e_back {y = y} e t) env ins acts =
          let h : ¬ (k < d) = λ b. acts k b hb_back in
          rw (heads.on_back row y e) (around_at (back k) env t (omega arith))
      begin n ih (f_gone a i) row d σ ρ (e_end e) env ins acts =
          rw (close_inside σ i) (c_gone (left_loop (absent_left a)) (ap view (heads.on_end row e) ∙ e))
      begin n ih (f_loop {B = B} {M = M} nb f) row d σ ρ (e_loop {y = y} e en) env (i_loop ins) acts =
          let is : Each (Inside 0) σ = around_inside env in
          let known : (m : ℕ) → m < n → Covers view head r m (loop (close B 1 σ)) (head row) =
          λ m h. ih m h (loop B) (p_loop M) row 0 σ ρ (f_loop nb f) (e_loop e en) (around_less m h env) (i_loop ins) (λ j b. absurd (omega arith)) in
          let inner : Covers view head r n (close B 0 (loop (close B 1 σ) ∷ σ)) (head y) =
          begin n ih f y (suc d) (loop (close B 1 σ) ∷ σ) (row ∷ ρ) en (v_new (i_loop (inside_close 1 is (omega arith) ins)) known env) ins
          (deeper (no_return nb f) acts) in
          let opened : Covers view head r n (unrolled (close B 1 σ)) (head y) = rw (close_close B 0 (loop (close B 1 σ)) is) inner in
          rw (heads.on_loop row y e) (c_loop opened)
      begin zero ih (f_send rp pq sm labels fs) row d σ ρ (e_send e en) env (i_exchange ins) acts = c_zero
      begin (suc n) ih (f_send {q = q} rp pq sm labels fs) row d σ ρ (e_send {arms = arms} e en) env (i_exchange ins) acts =
          c_send rp pq (ap view (heads.on_send row q arms e) ∙ e) (some_close 0 σ sm)
          (λ l x t. let (M, b) = found_arm l x en t in label_close 0 σ (labels l M b))
          (begin_arms n (ih n (omega arith)) fs en (around_less n (omega arith) env) ins)
      begin zero ih (f_receive rq pq sm fs) row d σ ρ (e_receive e en) env (i_exchange ins) acts = c_zero
      begin (suc n) ih (f_receive {p = p} rq pq sm fs) row d σ ρ (e_receive {arms = arms} e en) env (i_exchange ins) acts =
          c_receive rq pq (ap view (heads.on_receive row p arms e) ∙ e) (some_close 0 σ sm)
          (begin_arms n (ih n (omega arith)) fs en (around_less n (omega arith) env) ins)
      begin n ih (f_past rp rq sm fs) row d σ ρ en env (i_exchange ins) acts =
          c_past rp rq (some_close 0 σ sm) (begin_each n ih fs row d σ ρ en env ins acts)

      begin_each : {cs : Arms A} {M : Part} (n : ℕ) → ((m : ℕ) → m < n → Begins m) → FitsEach r cs M
          → (row d : ℕ) (σ : List (Global A)) (ρ : List ℕ)
          → Encodes view row ρ M → Around n d σ ρ → InsideArms (length σ) cs → ((j : ℕ) → j < d → HeadBack j M → ⊥)
          → CoversEach view head r n (close_arms cs 0 σ) (head row)
      begin_each n ih fe_nil row d σ ρ en env i_nil acts = ce_nil
      begin_each n ih (fe_arm f fs) row d σ ρ en env (i_arm i is) acts =
          ce_arm (begin n ih f row d σ ρ en env i acts) (begin_each n ih fs row d σ ρ en env is acts)

    below : (n m : ℕ) → m < n → Begins m
    below zero m h = absurd (omega arith)
    below (suc n) m h = λ G M row d σ ρ f. begin m (λ k t. below n k (omega arith)) f row d σ ρ

    pub begins : {G : Global A} {M : Part} → Fits r G M → Inside 0 G → Encodes view 0 [] M → (n : ℕ) → Covers view head r n G (head 0)
    begins {G = G} {M = M} f i en n =
        rw (close_inside [] i) at (below (suc n) n (omega arith) G M 0 0 [] [] f en v_nil i (λ j h. absurd (omega arith)))
