-- A part within another: what it sends the other sends, no more and no less, and what it receives the other receives, with perhaps more.
-- Each of two parts is within their merge. Assumes nothing.
use Prim.Native.Nat.{ℕ}
use mathlib.Core.Bool.{true}
use mathlib.Core.Logic.{◌≢◌, ◌⊎◌, inl, inr}
use mathlib.Core.Path.{◌≡◌, sym, ◌∙◌}
use native.Mathlib.Decide.{ℕ_discrete}
use Rattle.parts.specs.Part.{Part, p_end, p_send, p_receive, p_loop, p_back, PartArms, p_nil, p_arm, insert, without}
use Rattle.protocol.proofs.Parts.Arms.{none≢some, some_injective, At, at_here, at_there, arm_of_at, at_insert, at_insert_other, insert_at, at_without, without_at, labels_sym, same_at}
use Rattle.parts.specs.Merge.{same_labels}
use Rattle.protocol.proofs.Parts.Merged.{Merged, m_end, m_send, m_receive, m_loop, m_back, MergedArms, m_rest, m_alone, m_shared}

infix 4 ◌⊑◌
mutual
  pub data ◌⊑◌ : Part → Part → Type 0 where
    w_end : p_end ⊑ p_end
    w_back : {k : ℕ} → p_back k ⊑ p_back k
    w_loop : {P M : Part} → P ⊑ M → p_loop P ⊑ p_loop M
    w_send : {q : ℕ} {ps ms : PartArms} → ((l : ℕ) (P : Part) → At l P ps → Over l P ms)
        → ((l : ℕ) (M : Part) → At l M ms → (P : Part) × At l P ps) → p_send q ps ⊑ p_send q ms
    w_receive : {p : ℕ} {ps ms : PartArms} → ((l : ℕ) (P : Part) → At l P ps → Over l P ms) → p_receive p ps ⊑ p_receive p ms

  -- P is within the arm of that label
  pub data Over : ℕ → Part → PartArms → Type 0 where
    over : {l : ℕ} {P M : Part} {ms : PartArms} → At l M ms → P ⊑ M → Over l P ms

over_there : {l k : ℕ} {P Q : Part} {ms : PartArms} → l ≢ k → Over l P ms → Over l P (p_arm k Q ms)
over_there n (over t h) = over (at_there n t) h

over_insert : {l k : ℕ} {P : Part} (M : Part) {ms : PartArms} → k ≢ l → Over k P ms → Over k P (insert l M ms)
over_insert M n (over t h) = over (at_insert_other M n t) h

mutual
  pub self : (P : Part) → P ⊑ P
  self p_end = w_end
  self (p_send q ps) = w_send (λ l P t. self_arms ps l P t) (λ l M t. (M, t))
  self (p_receive p ps) = w_receive (λ l P t. self_arms ps l P t)
  self (p_loop P) = w_loop (self P)
  self (p_back k) = w_back

  self_arms : (ps : PartArms) (l : ℕ) (P : Part) → At l P ps → Over l P ps
  self_arms (p_arm k Q ps) l P (at_here e) = over (at_here e) (self Q)
  self_arms (p_arm k Q ps) l P (at_there n t) = over_there n (self_arms ps l P t)
  self_arms p_nil l P h = elim h [ ]

-- the arms ps are each within the arm of the same label in ms
data Overs : PartArms → PartArms → Type 0 where
  overs : {ps ms : PartArms} → ((l : ℕ) (P : Part) → At l P ps → Over l P ms) → Overs ps ms

each_over : {ps ms : PartArms} → Overs ps ms → (l : ℕ) (P : Part) → At l P ps → Over l P ms
each_over (overs f) = f

no_arms : {ms : PartArms} → Overs p_nil ms
no_arms {ms} = overs (λ l P t. go l P t)
  where
    go : (l : ℕ) (P : Part) → At l P p_nil → Over l P ms
    go l P = elim [ ]

-- an arm more on the left, put in its place on the right
left_arm : (l : ℕ) {P M : Part} {ps ms : PartArms} → P ⊑ M → Overs ps ms → Overs (p_arm l P ps) (insert l M ms)
left_arm l {P} {M} {ps} {ms} h hs = overs (λ k R t. go k R t)
  where
    go : (k : ℕ) (R : Part) → At k R (p_arm l P ps) → Over k R (insert l M ms)
    go k R (at_here e) = rw e (over (at_insert l M ms) h)
    go k R (at_there n t) = over_insert M n (each_over hs k R t)

-- the arm of that label on the right is within M, the others within the rest
right_arm : (l : ℕ) {M : Part} (qs : PartArms) {ms : PartArms} → ((Q : Part) → At l Q qs → Q ⊑ M) → Overs (without l qs) ms
    → Overs qs (insert l M ms)
right_arm l {M} qs {ms} h hs = overs (λ k R t. go k R t (ℕ_discrete k l))
  where
    go : (k : ℕ) (R : Part) → At k R qs → Dec (k ≡ l) → Over k R (insert l M ms)
    go k R t (yes e) = rw e (over (at_insert l M ms) (h R (rw e at t)))
    go k R t (no n) = over_insert M n (each_over hs k R (at_without n t))

-- the label of an arm, or one of those behind it or of the other side
either_arm : {l k : ℕ} {P : Part} {ps qs : PartArms} → Dec (l ≡ k)
    → (l ≢ k → ((R : Part) × At l R ps) ⊎ ((Q : Part) × At l Q (without k qs))) → ((R : Part) × At l R (p_arm k P ps)) ⊎ ((Q : Part) × At l Q qs)
either_arm {P = P} (yes e) f = inl (P, at_here e)
either_arm {l} {k} {P} {ps} {qs} (no n) f = go (f n)
  where
    go : ((R : Part) × At l R ps) ⊎ ((Q : Part) × At l Q (without k qs)) → ((R : Part) × At l R (p_arm k P ps)) ⊎ ((Q : Part) × At l Q qs)
    go (inl t) = inl (t.0, at_there n t.1)
    go (inr t) = inr (t.0, without_at qs n t.1)

-- a merge has no label that neither has
merged_at : {l : ℕ} {M : Part} {ps qs ms : PartArms} → MergedArms ps qs ms → At l M ms → ((P : Part) × At l P ps) ⊎ ((Q : Part) × At l Q qs)
merged_at {M = M} m_rest t = inr (M, t)
merged_at {l = l} {M = M} (m_alone {l = k} {P = P} {ps = ps} {qs = qs} lacks m e) t =
    either_arm (ℕ_discrete l k) (λ n. merged_at m (insert_at P n (rw e at t)))
merged_at {l = l} {M = M} (m_shared {l = k} {P = P} {M = N} {ps = ps} {qs = qs} has one m e) t =
    either_arm (ℕ_discrete l k) (λ n. merged_at m (insert_at N n (rw e at t)))

-- and so each side has each label of the merge, where both have the same
back_at : {l : ℕ} (ps qs : PartArms) → same_labels ps qs ≡ true → ((P : Part) × At l P ps) ⊎ ((Q : Part) × At l Q qs) → (P : Part) × At l P ps
back_at ps qs s (inl t) = t
back_at ps qs s (inr t) = same_at ps qs s t.1

swapped : {X Y : Type 0} → X ⊎ Y → Y ⊎ X
swapped (inl x) = inr x
swapped (inr y) = inl y

mutual
  pub within_merge : {P Q M : Part} → Merged P Q M → (P ⊑ M) × (Q ⊑ M)
  within_merge m_end = (w_end, w_end)
  within_merge (m_send {ps = ps} {qs = qs} s m) =
      let (a, b) = within_merge_arms m in
      (w_send (each_over a) (λ l M t. back_at ps qs s (merged_at m t)), w_send (each_over b) (λ l M t. back_at qs ps (labels_sym ps qs s) (swapped (merged_at m t))))
  within_merge (m_receive m) = let (a, b) = within_merge_arms m in (w_receive (each_over a), w_receive (each_over b))
  within_merge (m_loop m) = let (a, b) = within_merge m in (w_loop a, w_loop b)
  within_merge m_back = (w_back, w_back)

  within_merge_arms : {ps qs ms : PartArms} → MergedArms ps qs ms → Overs ps ms × Overs qs ms
  within_merge_arms (m_rest {qs = qs}) = (no_arms, overs (λ l Q t. self_arms qs l Q t))
  within_merge_arms (m_alone {l = l} {P = P} {qs = qs} lacks m e) =
      let (a, b) = within_merge_arms m in rw e (left_arm l (self P) a, right_arm l qs (λ Q t. none≢some (sym lacks ∙ arm_of_at t)) b)
  within_merge_arms (m_shared {l = l} {qs = qs} has one m e) =
      let (a, b) = within_merge_arms m in
      let (c, d) = within_merge one in
      rw e (left_arm l c a, right_arm l qs (λ R t. rw (some_injective (sym has ∙ arm_of_at t)) at d) b)
