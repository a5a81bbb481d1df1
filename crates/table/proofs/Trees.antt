-- The tree of a table that the check accepts: nothing is in flight, no Back leaves it, each Back is guarded, exchanges are between two roles in
-- range and have arms, no label stands twice in one. Assumes nothing.
use Prim.Native.Nat.{ℕ, suc, ◌+◌, ◌<◌}
use mathlib.Core.Bool.{true, false, not, ◌&&◌, ◌||◌}
use mathlib.Core.List.{List, ◌∷◌}
use mathlib.Core.Logic.{◌≢◌}
use mathlib.Core.Path.{◌≡◌, refl, sym, ◌∙◌, ap}
use lib.Dec.{ltb, leb, eqb}
use native.Mathlib.Omega.{arith}
use borrow.Author.Tests.{eq-eqb, ltb-true, ltb-false, leb-false, eqb-false, not-true, not-false}
use Rattle.words.specs.Rows.{rows_of}
use Rattle.table.specs.Limits.{Limits}
use Rattle.table.specs.Rows.{Exchange, Arm, Loop, row, label}
use Rattle.table.specs.Above.{above, chain_over, earlier_arms, has_label, loops, only_loops}
use Rattle.table.specs.Check.{accepted, check_of}
use Rattle.table.specs.Tree.{Global, Arms, nil, arm, tree_of}
use Rattle.table.specs.mirror.Kept.{Inside, i_end, i_exchange, i_loop, i_back, InsideArms, i_nil, i_arm, Static, t_end, t_exchange, t_loop, t_back, StaticArms, t_nil, t_arm, HasLabel, has_here, has_there, Good, g_end, g_exchange, g_loop, g_back, GoodArms, g_nil, g_arm, Ranged, r_end, r_exchange, r_loop, r_back, RangedArms, r_nil, r_arm, Guarded, u_end, u_exchange, u_loop, u_back, GuardedArms, u_nil, u_arm}
use Rattle.table.specs.mirror.Names.{near_link, far_link, near_loops}
use Rattle.table.proofs.Tests.{both, neither}
use Rattle.table.proofs.Walk.{over_zero, loops_more, near_more, only_loops_lem}
use Rattle.table.proofs.Accepted.{Obeys, obeys}
use Rattle.table.proofs.Grown.{Cases, tree_of_lem, above_near, above_far}

no_label : {A : Type 0} {l : ℕ} → HasLabel {A = A} l nil → ⊥
no_label = elim [ ]

-- a label of these arms is the first arm's, or one of the others
has_cases : {A : Type 0} {l k : ℕ} {G : Global A} {cs : Arms A} (P : ℕ → Type 0) → P k → (HasLabel l cs → P l) → HasLabel l (arm k G cs) → P l
has_cases P h f has_here = h
has_cases P h f (has_there x) = f x

some_arm : {A : Type 0} (l : ℕ) (G : Global A) (cs : Arms A) → arm l G cs ≢ nil
some_arm l G cs e = let z : ◌≡◌ {A = ℕ} 0 1 = cc in omega arith

-- ---- nothing is in flight

static_cases : {A : Type 0} (t : List ℕ) → Cases {A = A} t (λ i. Static) (λ i. StaticArms)
static_cases t = record {
  ended = λ i a b c l e. t_end;
  exchanged = λ i s r f cs l e k q. t_exchange q;
  looped = λ i b x y G l e k p. t_loop p;
  backed = λ i d x y l e. t_back;
  last = λ i l c G h e k p. t_arm p t_nil;
  more = λ i l c n G cs h e k m p q. t_arm p q;
}

module _ (lim : Limits) (t : List ℕ) (roles : ℕ) (o : Obeys lim t roles) where
  -- ---- roles and labels in range, sender and receiver apart

  exchange_field : (i s r f : ℕ) → i < rows_of t → row t i ≡ Exchange s r f → (s < roles) × (r < roles) × (s ≢ r)
  exchange_field i s r f l e =
      let h : not (ltb s roles && ltb r roles && not (eqb s r)) ≡ false = rw e at (o.fields i l) in
      let (ab, c) = both (ltb s roles && ltb r roles) (not (eqb s r)) (not-false (ltb s roles && ltb r roles && not (eqb s r)) h) in
      let (a, b) = both (ltb s roles) (ltb r roles) ab in
      (ltb-true s roles a, ltb-true r roles b, eqb-false s r (not-true (eqb s r) c))

  arm_field : (i l c n : ℕ) → i < rows_of t → row t i ≡ Arm l c n → l < lim.labels
  arm_field i l c n h e =
      let g : not (ltb l lim.labels) ≡ false = rw e at (o.fields i h) in ltb-true l lim.labels (not-false (ltb l lim.labels) g)

  ranged_cases : {A : Type 0} → Cases {A = A} t (λ i. Ranged roles lim.labels) (λ i. RangedArms roles lim.labels)
  ranged_cases = record {
    ended = λ i a b c l e. r_end;
    exchanged = λ i s r f cs l e k q. let x = exchange_field i s r f l e in r_exchange x.0 x.1 q;
    looped = λ i b x y G l e k p. r_loop p;
    backed = λ i d x y l e. r_back;
    last = λ i l c G h e k p. r_arm (arm_field i l c 0 h e) p r_nil;
    more = λ i l c n G cs h e k m p q. r_arm (arm_field i l c n h e) p q;
  }

  -- ---- Loops around, and Loops next to

  inside_cases : {A : Type 0} → Cases {A = A} t (λ i. Inside (loops t (above t i))) (λ i. InsideArms (loops t (above t i)))
  inside_cases = record {
    ended = λ i a b c l e. i_end;
    exchanged = λ i s r f cs l e k q.
        let a = loops_more t i f (Exchange s r f) e (above_near lim t roles o true i f l k (ap near_link e)) in
        i_exchange (rw (a ∙ plain (loops t (above t i))) at q);
    looped = λ i b x y G l e k p.
        let a = loops_more t i b (Loop b x y) e (above_near lim t roles o false i b l k (ap near_link e)) in
        i_loop (rw (a ∙ extra (loops t (above t i))) at p);
    backed = λ i d x y l e.
        let h : leb (loops t (above t i)) d ≡ false = rw e at (o.bound i l) in i_back (leb-false (loops t (above t i)) d h);
    last = λ i l c G h e k p.
        let a = loops_more t i c (Arm l c 0) e (above_near lim t roles o false i c h k (ap near_link e)) in
        i_arm (rw (a ∙ plain (loops t (above t i))) at p) i_nil;
    more = λ i l c n G cs h e k m p q.
        let a = loops_more t i c (Arm l c n) e (above_near lim t roles o false i c h k (ap near_link e)) in
        let b = loops_more t i n (Arm l c n) e (above_far lim t roles o true i n h m (ap far_link e)) in
        i_arm (rw (a ∙ plain (loops t (above t i))) at p) (rw (b ∙ plain (loops t (above t i))) at q);
  }
    where
      plain : (n : ℕ) → 0 + n ≡ n
      plain n = omega arith

      extra : (n : ℕ) → 1 + n ≡ suc n
      extra n = omega arith

  -- the arms of an Arm come after an exchange
  guarded_cases : {A : Type 0} → Cases {A = A} t (λ i. Guarded (near_loops t (above t i))) (λ i. GuardedArms)
  guarded_cases = record {
    ended = λ i a b c l e. u_end;
    exchanged = λ i s r f cs l e k q. u_exchange q;
    looped = λ i b x y G l e k p.
        let a = near_more t i b (Loop b x y) e (above_near lim t roles o false i b l k (ap near_link e)) in u_loop (rw a at p);
    backed = λ i d x y l e.
        let h : only_loops t d (above t i) ≡ false = rw e at (o.guarded i l) in
        u_back (ltb-false d (near_loops t (above t i)) (sym (only_loops_lem t d (above t i)) ∙ h));
    last = λ i l c G h e k p.
        let a = near_more t i c (Arm l c 0) e (above_near lim t roles o false i c h k (ap near_link e)) in u_arm (rw a at p) u_nil;
    more = λ i l c n G cs h e k m p q.
        let a = near_more t i c (Arm l c n) e (above_near lim t roles o false i c h k (ap near_link e)) in u_arm (rw a at p) q;
  }

  -- ---- labels

  -- the arms before an Arm's next arm: itself, and the arms before it
  earlier_more : (i l c n : ℕ) → row t i ≡ Arm l c n → above t n ≡ i ∷ above t i → earlier_arms t n ≡ i ∷ earlier_arms t i
  unfolding chain_over
  earlier_more i l c n e a = rw (a, e, eq-eqb n n refl)

  -- no label from an Arm on is one of the arms before it
  record Fresh {A : Type 0} (i : ℕ) (cs : Arms A) : Type 0 where
    pub good : GoodArms cs
    pub some : cs ≢ nil
    pub new : (l : ℕ) → HasLabel l cs → has_label t l (earlier_arms t i) ≡ false

  arm_new : (i l c n : ℕ) → i < rows_of t → row t i ≡ Arm l c n → has_label t l (earlier_arms t i) ≡ false
  arm_new i l c n h e = rw e at (o.labels i h)

  fresh_last : {A : Type 0} (i l : ℕ) (G : Global A) → has_label t l (earlier_arms t i) ≡ false → Good G → Fresh i (arm l G nil)
  fresh_last i l G h g = record {
    good = g_arm no_label g g_nil;
    some = some_arm l G nil;
    new = λ k x. has_cases (λ k. has_label t k (earlier_arms t i) ≡ false) h (λ y. absurd (no_label y)) x;
  }

  -- a label of the arms after row i, of label l, is neither l nor one of the arms before it
  after_new : (i l c n k : ℕ) → row t i ≡ Arm l c n → above t n ≡ i ∷ above t i → has_label t k (earlier_arms t n) ≡ false
      → (eqb l k ≡ false) × (has_label t k (earlier_arms t i) ≡ false)
  unfolding has_label
  after_new i l c n k e a h =
      let g : (eqb (label (row t i)) k || has_label t k (earlier_arms t i)) ≡ false = rw (earlier_more i l c n e a) at h in
      neither (eqb l k) (has_label t k (earlier_arms t i)) (rw e at g)

  fresh_more : {A : Type 0} (i l c n : ℕ) (G : Global A) (cs : Arms A) → row t i ≡ Arm l c n → above t n ≡ i ∷ above t i
      → has_label t l (earlier_arms t i) ≡ false → Good G → Fresh n cs → Fresh i (arm l G cs)
  fresh_more i l c n G cs e a h g f = record {
    good = g_arm (λ x. eqb-false l l (after_new i l c n l e a (f.new l x)).0 refl) g f.good;
    some = some_arm l G cs;
    new = λ k x. has_cases (λ k. has_label t k (earlier_arms t i) ≡ false) h (λ y. (after_new i l c n k e a (f.new k y)).1) x;
  }

  good_cases : {A : Type 0} → Cases {A = A} t (λ i. Good) (λ i. Fresh i)
  good_cases = record {
    ended = λ i a b c l e. g_end;
    exchanged = λ i s r f cs l e k q. g_exchange (exchange_field i s r f l e).2 q.some q.good;
    looped = λ i b x y G l e k p. g_loop p;
    backed = λ i d x y l e. g_back;
    last = λ i l c G h e k p. fresh_last i l G (arm_new i l c 0 h e) p;
    more = λ i l c n G cs h e k m p q.
        fresh_more i l c n G cs e (above_far lim t roles o true i n h m (ap far_link e)) (arm_new i l c n h e) p q;
  }

-- ---- the laws

module _ {A : Type 0} (lim : Limits) (t : List ℕ) (roles : ℕ) (e : check_of lim t roles ≡ accepted) where
  pub tree_static : Static {A = A} (tree_of t)
  tree_static = tree_of_lem lim t roles (obeys lim t roles e) (λ i. Static) (λ i. StaticArms) (static_cases t)

  pub tree_inside : Inside {A = A} 0 (tree_of t)
  unfolding loops
  tree_inside =
      let o = obeys lim t roles e in
      rw (over_zero (rows_of t) t) at (tree_of_lem {A = A} lim t roles o (λ i. Inside (loops t (above t i))) (λ i. InsideArms (loops t (above t i))) (inside_cases lim t roles o))

  pub tree_guarded : Guarded {A = A} 0 (tree_of t)
  unfolding near_loops
  tree_guarded =
      let o = obeys lim t roles e in
      rw (over_zero (rows_of t) t) at (tree_of_lem {A = A} lim t roles o (λ i. Guarded (near_loops t (above t i))) (λ i. GuardedArms) (guarded_cases lim t roles o))

  pub tree_good : Good {A = A} (tree_of t)
  tree_good = let o = obeys lim t roles e in tree_of_lem lim t roles o (λ i. Good) (λ i. Fresh lim t roles o i) (good_cases lim t roles o)

  pub tree_ranged : Ranged {A = A} roles lim.labels (tree_of t)
  tree_ranged =
      let o = obeys lim t roles e in
      tree_of_lem lim t roles o (λ i. Ranged roles lim.labels) (λ i. RangedArms roles lim.labels) (ranged_cases lim t roles o)
