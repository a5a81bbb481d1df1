-- What the parts of a table's tree have: peers are other roles, labels are in range and rise, every action has an arm, no loop comes back to
-- itself without an action, and every back has its loop. Assumes nothing.
use Prim.Native.Nat.{ℕ, suc, ◌≤◌, ◌<◌}
use mathlib.Core.Bool.{Bool, true, false, cond, ◌||◌}
use mathlib.Core.Logic.{◌≢◌}
use mathlib.Core.Option.{Option, some, bind}
use mathlib.Core.Path.{◌≡◌, refl, sym, ◌∙◌}
use native.Mathlib.Decide.{ℕ_discrete, dec_le}
use native.Mathlib.Omega.{arith}
use lib.Dec.{eqb}
use borrow.Author.Tests.{eq-eqb, ne_eqb, le-leb, lt-leb, eqb-true}
use Rattle.table.specs.mirror.Kept.{Inside, i_exchange, i_loop, i_back, InsideArms, i_arm, Good, g_end, g_exchange, g_flight, g_loop, g_back, GoodArms, g_nil, g_arm, Ranged, r_exchange, r_loop, RangedArms, r_arm}
use Rattle.table.specs.Tree.{Global, loop, Arms, nil, arm}
use Rattle.parts.specs.Part.{Part, p_end, p_send, p_receive, p_loop, p_back, PartArms, p_nil, p_arm, insert, rising, without}
use Rattle.parts.specs.Absent.{takes_part, leaves}
use Rattle.parts.specs.Merge.{merge}
use Rattle.parts.specs.Projection.{merge_from, merge_all, part, part_arms}
use Rattle.parts.proofs.Rising.{no_label, label, Above, Lacks, above_lacks, above_above, insert_labels, without_labels, rising_labels, holds_some}
use Rattle.parts.proofs.Laws.{labels_kept}
use Rattle.protocol.proofs.Parts.Arms.{none≢some, some_injective, bind_some, At, at_here, at_there, at_arm_of}
use Rattle.protocol.proofs.Parts.Merged.{Merged, m_end, m_send, m_receive, m_loop, m_back, MergedArms, m_rest, m_alone, m_shared, merged}
use Rattle.protocol.proofs.Parts.Within.{◌⊑◌, w_end, w_send, w_receive, w_back, w_loop, within_merge}
use Rattle.protocol.proofs.Parts.Fits.{Fits, f_loop, HeadBack, hb_back, hb_loop, no_return}
use Rattle.protocol.proofs.Parts.Projected.{projected_fits}

pub data SomePart : PartArms → Type 0 where
  some_part : {l : ℕ} {P : Part} {ps : PartArms} → SomePart (p_arm l P ps)

-- of so many roles and labels, for role r, inside d loops
mutual
  pub data Sound (roles labels r : ℕ) : ℕ → Part → Type 0 where
    s_end : {d : ℕ} → Sound roles labels r d p_end
    s_send : {d q : ℕ} {ps : PartArms} → q < roles → q ≢ r → SomePart ps → SoundArms roles labels r d ps → Sound roles labels r d (p_send q ps)
    s_receive : {d q : ℕ} {ps : PartArms}
        → q < roles → q ≢ r → SomePart ps → SoundArms roles labels r d ps → Sound roles labels r d (p_receive q ps)
    s_loop : {d : ℕ} {P : Part} → ¬ HeadBack 0 P → Sound roles labels r (suc d) P → Sound roles labels r d (p_loop P)
    s_back : {d k : ℕ} → k < d → Sound roles labels r d (p_back k)

  pub data SoundArms (roles labels r : ℕ) : ℕ → PartArms → Type 0 where
    s_nil : {d : ℕ} → SoundArms roles labels r d p_nil
    s_arm : {d l : ℕ} {P : Part} {ps : PartArms}
        → l < labels → Above l ps → Sound roles labels r d P → SoundArms roles labels r d ps → SoundArms roles labels r d (p_arm l P ps)

-- ---- labels

lacks_merge : {l : ℕ} {ps qs ms : PartArms} → MergedArms ps qs ms → Lacks l ps → Lacks l qs → Lacks l ms
lacks_merge m_rest a b = b
lacks_merge (m_alone {l = k} {P = P} has m e) (label n a) b = rw e (insert_labels k P n (lacks_merge m a (without_labels k b)))
lacks_merge (m_shared {l = k} {M = M} has one m e) (label n a) b = rw e (insert_labels k M n (lacks_merge m a (without_labels k b)))

-- ---- arms put in and taken out

some_insert : (l : ℕ) (P : Part) (qs : PartArms) → SomePart (insert l P qs)
unfolding insert
some_insert l P p_nil = some_part
some_insert l P (p_arm k Q qs) = go (dec_le l k)
  where
    go : Dec (l ≤ k) → SomePart (insert l P (p_arm k Q qs))
    go (yes t) = rw (le-leb l k t) some_part
    go (no t) = rw (lt-leb l k (omega arith)) some_part

module _ (roles labels r : ℕ) where
  sound_insert : {d l : ℕ} {P : Part} {qs : PartArms} → l < labels → Sound roles labels r d P → SoundArms roles labels r d qs → Lacks l qs
      → SoundArms roles labels r d (insert l P qs)
  unfolding insert
  sound_insert h s s_nil no_label = s_arm h no_label s s_nil
  sound_insert {d} {l} {P} h s (s_arm {l = k} {P = Q} {ps = qs} h' b t ts) (label n m) = go (dec_le l k) (sound_insert h s ts m)
    where
      go : Dec (l ≤ k) → SoundArms roles labels r d (insert l P qs) → SoundArms roles labels r d (insert l P (p_arm k Q qs))
      go (yes i) ih =
          let less : l < k = omega arith in rw (le-leb l k i) (s_arm h (label less (above_above less b)) s (s_arm h' b t ts))
      go (no i) ih = let less : k < l = omega arith in rw (lt-leb l k less) (s_arm h' (insert_labels l P less b) t ih)

  sound_without : {d : ℕ} (k : ℕ) {qs : PartArms} → SoundArms roles labels r d qs → SoundArms roles labels r d (without k qs)
  unfolding without
  sound_without k s_nil = s_nil
  sound_without {d} k (s_arm {l = j} {P = Q} {ps = qs} h b t ts) = go (ℕ_discrete k j) (sound_without k ts)
    where
      go : Dec (k ≡ j) → SoundArms roles labels r d (without k qs) → SoundArms roles labels r d (without k (p_arm j Q qs))
      go (yes e) ih = rw (eq-eqb k j e) ts
      go (no n) ih = rw (ne_eqb k j n) (s_arm h (without_labels k b) t ih)

  -- labels rise, so none stands twice
  sound_lacks : {d : ℕ} (k : ℕ) {qs : PartArms} → SoundArms roles labels r d qs → Lacks k (without k qs)
  unfolding without
  sound_lacks k s_nil = no_label
  sound_lacks {d} k (s_arm {l = j} {P = Q} {ps = qs} h b t ts) = go (ℕ_discrete k j) (sound_lacks k ts)
    where
      go : Dec (k ≡ j) → Lacks k (without k qs) → Lacks k (without k (p_arm j Q qs))
      go (yes e) ih = rw (eq-eqb k j e, e) (above_lacks b)
      go (no n) ih = rw (ne_eqb k j n) (label n ih)

  sound_at : {d l : ℕ} {P : Part} {qs : PartArms} → SoundArms roles labels r d qs → At l P qs → Sound roles labels r d P
  sound_at (s_arm h b t ts) (at_here e) = t
  sound_at (s_arm h b t ts) (at_there n u) = sound_at ts u
  sound_at s_nil h = elim h [ ]

-- ---- merging

head_back_down : {k : ℕ} {P M : Part} → P ⊑ M → HeadBack k M → HeadBack k P
head_back_down w_back hb_back = hb_back
head_back_down (w_loop w) (hb_loop h) = hb_loop (head_back_down w h)
head_back_down w_end h = elim h [ ]
head_back_down (w_send _ _) h = elim h [ ]
head_back_down (w_receive _) h = elim h [ ]

some_merge : {ps qs ms : PartArms} → MergedArms ps qs ms → SomePart ps → SomePart ms
some_merge (m_alone {l = l} {P = P} {ms = ms} has m e) some_part = rw e (some_insert l P ms)
some_merge (m_shared {l = l} {M = M} {ms = ms} has one m e) some_part = rw e (some_insert l M ms)
some_merge m_rest h = elim h [ ]

module _ (roles labels r : ℕ) where
  mutual
    sound_merge : {d : ℕ} {P Q M : Part} → Merged P Q M → Sound roles labels r d P → Sound roles labels r d Q → Sound roles labels r d M
    sound_merge m_end s t = s
    sound_merge (m_send same m) (s_send h n one ss) (s_send h' n' one' ts) = s_send h n (some_merge m one) (sound_merge_arms m ss ts)
    sound_merge (m_receive m) (s_receive h n one ss) (s_receive h' n' one' ts) = s_receive h n (some_merge m one) (sound_merge_arms m ss ts)
    sound_merge (m_loop m) (s_loop acts s) (s_loop acts' t) =
        s_loop (λ b. acts (head_back_down (within_merge m).0 b)) (sound_merge m s t)
    sound_merge m_back s t = s

    sound_merge_arms : {d : ℕ} {ps qs ms : PartArms} → MergedArms ps qs ms → SoundArms roles labels r d ps → SoundArms roles labels r d qs
        → SoundArms roles labels r d ms
    sound_merge_arms m_rest ss ts = ts
    sound_merge_arms (m_alone {l = l} lacks m e) (s_arm h b s ss) ts =
        rw e (sound_insert roles labels r h s (sound_merge_arms m ss (sound_without roles labels r l ts))
        (lacks_merge m (above_lacks b) (sound_lacks roles labels r l ts)))
    sound_merge_arms (m_shared {l = l} {qs = qs} has one m e) (s_arm h b s ss) ts =
        rw e (sound_insert roles labels r h (sound_merge one s (sound_at roles labels r ts (at_arm_of l qs has)))
        (sound_merge_arms m ss (sound_without roles labels r l ts)) (lacks_merge m (above_lacks b) (sound_lacks roles labels r l ts)))

  -- arms in the order of a chain: no label stands twice
  data Distinct : ℕ → PartArms → Type 0 where
    d_nil : {d : ℕ} → Distinct d p_nil
    d_arm : {d l : ℕ} {P : Part} {ps : PartArms}
        → l < labels → Lacks l ps → Sound roles labels r d P → Distinct d ps → Distinct d (p_arm l P ps)

  sound_rising : {d : ℕ} {ps : PartArms} → Distinct d ps → SoundArms roles labels r d (rising ps)
  unfolding rising
  sound_rising d_nil = s_nil
  sound_rising (d_arm h n s ds) = sound_insert roles labels r h s (sound_rising ds) (rising_labels n)

  sound_from : {d : ℕ} {P M : Part} {ps : PartArms} → Sound roles labels r d P → Distinct d ps → merge_from P ps ≡ some M → Sound roles labels r d M
  unfolding merge_from
  sound_from s d_nil e = rw (← some_injective e) s
  sound_from {P = P} s (d_arm {P = Q} h n t ds) e =
      let (N, f, g) = bind_some (merge P Q) _ e in sound_from (sound_merge (merged P Q f) s t) ds g

  sound_all : {d : ℕ} {M : Part} {ps : PartArms} → Distinct d ps → merge_all ps ≡ some M → Sound roles labels r d M
  unfolding merge_all
  sound_all d_nil e = none≢some e
  sound_all (d_arm h n s ds) e = sound_from s ds e

-- ---- projection

some_rising : {ps : PartArms} → SomePart ps → SomePart (rising ps)
unfolding rising
some_rising (some_part {l = l} {P = P} {ps = ps}) = some_insert l P (rising ps)

some_arms : {A : Type 0} (r : ℕ) (cs : Arms A) (ps : PartArms) → cs ≢ nil → part_arms r cs ≡ some ps → SomePart ps
unfolding part
some_arms r nil ps n e = absurd (n refl)
some_arms r (arm l G cs) ps n e =
    let (P, f, g) = bind_some (part r G) _ e in
    let (qs, i, j) = bind_some (part_arms r cs) _ g in
    rw (← some_injective j) some_part

loop_acts : {A : Type 0} {r : ℕ} {B : Global A} {P : Part} → Fits r (loop B) (p_loop P) → ¬ HeadBack 0 P
loop_acts (f_loop nb f) = no_return nb f

module _ (roles labels r : ℕ) where
  sound_exchange : {d p q : ℕ} {M : Part} {ps : PartArms} (b c : Bool) → eqb r p ≡ b → eqb r q ≡ c → p < roles → q < roles → p ≢ q → SomePart ps
      → Distinct roles labels r d ps
      → cond b (some (p_send q (rising ps))) (cond c (some (p_receive p (rising ps))) (merge_all ps)) ≡ some M → Sound roles labels r d M
  sound_exchange {p = p} true c e f hp hq pq one ds h =
      rw (← some_injective h) (s_send hq (λ t. pq (sym (t ∙ eqb-true r p e))) (some_rising one) (sound_rising roles labels r ds))
  sound_exchange {q = q} false true e f hp hq pq one ds h =
      rw (← some_injective h) (s_receive hp (λ t. pq (t ∙ eqb-true r q f)) (some_rising one) (sound_rising roles labels r ds))
  sound_exchange false false e f hp hq pq one ds h = sound_all roles labels r ds h

  sound_loop : {d : ℕ} {M : Part} (b : Bool) (o : Option Part) → ((P : Part) → o ≡ some P → Sound roles labels r (suc d) P)
      → ((P : Part) → M ≡ p_loop P → ¬ HeadBack 0 P) → cond b (bind o (λ P. some (p_loop P))) (some p_end) ≡ some M → Sound roles labels r d M
  unfolding bind
  sound_loop true o f acts e =
      let (P, g, h) = bind_some o _ e in rw (← some_injective h) (s_loop (acts P (sym (some_injective h))) (f P g))
  sound_loop false o f acts e = rw (← some_injective e) s_end

  mutual
    unfolding part

    pub projected_sound : {A : Type 0} {d : ℕ} {G : Global A} (P : Part) → Good G → Ranged roles labels G → Inside d G → part r G ≡ some P
        → Sound roles labels r d P
    projected_sound P g_end t i e = rw (← some_injective e) s_end
    projected_sound P (g_exchange {p = p} {q = q} {cs = cs} pq n gs) (r_exchange hp hq ts) (i_exchange is) e =
        let (ps, f, h) = bind_some (part_arms r cs) _ e in
        sound_exchange (eqb r p) (eqb r q) refl refl hp hq pq (some_arms r cs ps n f) (projected_arms ps gs ts is f) h
    projected_sound P (g_flight g) t i e = none≢some e
    projected_sound P (g_loop {G = B} g) (r_loop t) (i_loop i) e =
        let fits = projected_fits P (g_loop g) e in
        sound_loop (takes_part r B || leaves 1 B) (part r B) (λ Q h. projected_sound Q g t i h) (λ Q h. loop_acts (rw h at fits)) e
    projected_sound P g_back t (i_back h) e = rw (← some_injective e) (s_back h)

    projected_arms : {A : Type 0} {d : ℕ} {cs : Arms A} (ps : PartArms) → GoodArms cs → RangedArms roles labels cs → InsideArms d cs
        → part_arms r cs ≡ some ps → Distinct roles labels r d ps
    projected_arms ps g_nil ts is e = rw (← some_injective e) d_nil
    projected_arms ps (g_arm {G = G} {cs = cs} n g gs) (r_arm h t ts) (i_arm i is) e =
        let (P, f, k) = bind_some (part r G) _ e in
        let (qs, j, m) = bind_some (part_arms r cs) _ k in
        rw (← some_injective m) (d_arm h (holds_some (labels_kept r cs n) j) (projected_sound P g t i f) (projected_arms qs gs ts is j))
