-- What two parts open in common: actions with one arm each, of one label. Their merge is that of what stands inside, inside the same
-- actions. Assumes nothing.
use Prim.Native.Nat.{ℕ, zero, suc, ◌+◌, ◌<◌, ◌≤◌}
use mathlib.Core.Bool.{Bool, true, false, cond, ◌&&◌, ◌||◌, true≢false}
use mathlib.Core.List.{List, [], ◌∷◌, ◌++◌, append_assoc, append-nil}
use mathlib.Core.Logic.{inl}
use mathlib.Core.Option.{Option, none, some, bind}
use mathlib.Core.Path.{◌≡◌, refl, sym, ◌∙◌, ap, ap₂, subst}
use native.Mathlib.Decide.{ℕ_discrete}
use native.Mathlib.Nat.{add-zero}
use native.Mathlib.Omega.{arith}
use lib.Dec.{eqb, ltb, leb}
use lib.ListN.{length, get_or, replicate, length-append, length-replicate}
use lib.Seq.{sets}
use borrow.Author.Tests.{eqb-true, eq-eqb, leb-false}
use Rattle.words.proofs.Below.{and_both, or_neither}
use Rattle.parts.specs.Part.{Part, p_end, p_send, p_receive, p_loop, p_back, PartArms, p_nil, p_arm}
use Rattle.parts.specs.Merge.{only_if, same_labels, merge, merge_arms}
use Rattle.parts.specs.mirror.Codes.{code, codes, codes_arms}
use Rattle.parts.proofs.Rising.{no_label, Rising, r_send, r_receive, r_arm, shared}
use Rattle.parts.proofs.Words.{Stands, stands_arm, words_arm, words_some_arms}
use Rattle.parts.specs.mirror.Kinds.{code_of}
use Rattle.parts.proofs.Read.{code_is}
use Rattle.merge.specs.mirror.Merging.{is_arm, is_action, shares, common_on, closes, put_marks}
use Rattle.merge.proofs.Puts.{same_some}
use Rattle.merge.specs.declared.Common.{Common}

-- so many marks
abbrev pub marks : ℕ → List ℕ
marks n = replicate n 1

-- ---- an action

-- a Send or a Receive
abbrev act : Bool → ℕ → PartArms → Part
act true q ps = p_send q ps
act false q ps = p_receive q ps

abbrev kind : Bool → ℕ
kind true = 5
kind false = 6

act_codes : (b : Bool) (q : ℕ) (ps : PartArms) → codes (act b q ps) ≡ code (kind b) q ∷ codes_arms ps
unfolding codes
act_codes true q ps = refl
act_codes false q ps = refl

self_only : {B : Type 0} (k : ℕ) (d : Dec (k ≡ k)) (o : Option B) → only_if d o ≡ o
unfolding only_if
self_only k (yes e) o = refl
self_only k (no n) o = absurd (n refl)

bind_on : {A B C : Type 0} (o : Option A) (f : A → B) (g : B → C) → bind (bind o (λ x. some (f x))) (λ y. some (g y)) ≡ bind o (λ x. some (g (f x)))
unfolding bind
bind_on none f g = refl
bind_on (some x) f g = refl

bind_some : {A : Type 0} (o : Option A) → o ≡ bind o (λ x. some x)
unfolding bind
bind_some none = refl
bind_some (some x) = refl

-- two actions with one arm each, of one label
one_arm : (l : ℕ) (P Q : Part) → merge_arms (p_arm l P p_nil) (p_arm l Q p_nil) ≡ bind (merge P Q) (λ M. some (p_arm l M p_nil))
unfolding bind merge_arms
one_arm l P Q = shared P Q no_label no_label

send_merge : (q : ℕ) (ps qs : PartArms) → same_labels ps qs ≡ true → merge (p_send q ps) (p_send q qs) ≡ bind (merge_arms ps qs) (λ ms. some (p_send q ms))
unfolding merge
send_merge q ps qs e =
    self_only q (ℕ_discrete q q) (cond (same_labels ps qs) (bind (merge_arms ps qs) (λ ms. some (p_send q ms))) none)
    ∙ ap (λ (c : Bool). cond c (bind (merge_arms ps qs) (λ ms. some (p_send q ms))) none) e

receive_merge : (q : ℕ) (ps qs : PartArms) → merge (p_receive q ps) (p_receive q qs) ≡ bind (merge_arms ps qs) (λ ms. some (p_receive q ms))
unfolding merge
receive_merge q ps qs = self_only q (ℕ_discrete q q) (bind (merge_arms ps qs) (λ ms. some (p_receive q ms)))

one_label : (l : ℕ) (P Q : Part) → same_labels (p_arm l P p_nil) (p_arm l Q p_nil) ≡ true
unfolding same_labels
one_label l P Q = rw (eq-eqb l l refl)

act_merge : (b : Bool) (q l : ℕ) (P Q : Part)
    → merge (act b q (p_arm l P p_nil)) (act b q (p_arm l Q p_nil)) ≡ bind (merge P Q) (λ M. some (act b q (p_arm l M p_nil)))
act_merge true q l P Q =
    send_merge q (p_arm l P p_nil) (p_arm l Q p_nil) (one_label l P Q)
    ∙ (ap (λ (o : Option PartArms). bind o (λ ms. some (p_send q ms))) (one_arm l P Q) ∙ bind_on (merge P Q) (λ M. p_arm l M p_nil) (λ ms. p_send q ms))
act_merge false q l P Q =
    receive_merge q (p_arm l P p_nil) (p_arm l Q p_nil)
    ∙ (ap (λ (o : Option PartArms). bind o (λ ms. some (p_receive q ms))) (one_arm l P Q) ∙ bind_on (merge P Q) (λ M. p_arm l M p_nil) (λ ms. p_receive q ms))

-- ---- actions around

-- P and Q open the words u in common, k actions, around P' and Q' as their first arms' parts
pub data Under : List ℕ → ℕ → Part → Part → Part → Part → Type 0 where
  here : {P Q : Part} → Under [] 0 P Q P Q
  under : {u : List ℕ} {k : ℕ} {P Q P' Q' : Part} (b : Bool) (q l : ℕ) (ps qs : PartArms) → Under u k P Q P' Q'
      → Under (code (kind b) q ∷ code 2 l ∷ u) (suc k) (act b q (p_arm l P ps)) (act b q (p_arm l Q qs)) P' Q'

-- the first k of k + 1 marks, and the last
marks_front : (s : List ℕ) (e k : ℕ) → Stands s e (marks (suc k)) → Stands s e (marks k) × (get_or s (e + k) 0 ≡ 1)
marks_front s e zero h = (tt, rw add-zero h.0)
marks_front s e (suc k) h =
    let (f, g) = marks_front s (suc e) k h.1 in
    let i : suc e + k ≡ e + suc k = omega arith in
    ((h.0, f), rw i at g)

marks_more : (k : ℕ) → marks k ++ (1 ∷ []) ≡ marks (suc k)
marks_more zero = refl
marks_more (suc k) = ap (λ (ws : List ℕ). 1 ∷ ws) (marks_more k)

-- arms that start with a mark are none
no_more : (ps : PartArms) (s : List ℕ) (a : ℕ) → Stands s a (codes_arms ps) → get_or s a 0 ≡ 1 → ps ≡ p_nil
unfolding codes
no_more p_nil s a h e = refl
no_more (p_arm l P ps) s a h e = absurd (omega (arith, h.0))

-- the words of one arm and the mark behind it
arm_words : (l : ℕ) (P : Part) (v : List ℕ) (k : ℕ) → codes P ≡ v ++ marks k → codes_arms (p_arm l P p_nil) ≡ code 2 l ∷ (v ++ marks (suc k))
unfolding codes
arm_words l P v k e =
    ap (λ (ws : List ℕ). code 2 l ∷ (ws ++ (1 ∷ []))) e ∙ ap (λ (ws : List ℕ). code 2 l ∷ ws) (append_assoc v (marks k) (1 ∷ []) ∙ ap (λ (ws : List ℕ). v ++ ws) (marks_more k))

-- both sides are their inner parts inside the words u and k marks, and so is their merge
pub record Wrap (u : List ℕ) (k : ℕ) (P Q P' Q' : Part) : Type 0 where
  pub wrap : Part → Part
  pub first : P ≡ wrap P'
  pub second : Q ≡ wrap Q'
  pub words : (M : Part) → codes (wrap M) ≡ u ++ codes M ++ marks k
  pub merges : merge P Q ≡ bind (merge P' Q') (λ M. some (wrap M))

-- an action's other arms, where a mark stands behind the words of the first one's part
none_behind : (s : List ℕ) (x e : ℕ) (b : Bool) (q l k : ℕ) (P P' : Part) (ps : PartArms) (u : List ℕ) → Stands s x (codes (act b q (p_arm l P ps)))
    → e ≡ suc (suc x) + length u + length (codes P') → codes P ≡ u ++ codes P' ++ marks k → get_or s (e + k) 0 ≡ 1 → ps ≡ p_nil
none_behind s x e b q l k P P' ps u h ee w last =
    let c = suc (suc x) + length (codes P) in
    let (eg, gp, gs) = stands_arm s (suc x) c l P ps refl (rw (act_codes b q (p_arm l P ps)) at h).1 in
    let long : length (codes P) ≡ length u + length (codes P') + k =
    ap length w ∙ omega (arith, length-append (u ++ codes P') (marks k), length-append u (codes P'), length-replicate {A = ℕ} k 1) in
    let at : c ≡ e + k = omega arith in
    no_more ps s c gs (rw at last)

inner : (s : List ℕ) (x : ℕ) (b : Bool) (q l : ℕ) (P : Part) (ps : PartArms) → Stands s x (codes (act b q (p_arm l P ps))) → Stands s (suc (suc x)) (codes P)
inner s x b q l P ps h = (stands_arm s (suc x) (suc (suc x) + length (codes P)) l P ps refl (rw (act_codes b q (p_arm l P ps)) at h).1).1

-- where marks stand behind both inner parts, each action has that one arm only
pub wrapped : {u : List ℕ} {k : ℕ} {P Q P' Q' : Part} (s : List ℕ) (x y e f : ℕ) → Under u k P Q P' Q' → Stands s x (codes P) → Stands s y (codes Q)
    → e ≡ x + length u + length (codes P') → f ≡ y + length u + length (codes Q') → Stands s e (marks k) → Stands s f (marks k) → Wrap u k P Q P' Q'
wrapped s x y e f (here {P} {Q}) h i ee ef m n = record {
  wrap = λ M. M;
  first = refl;
  second = refl;
  words = λ M. sym (append-nil (codes M));
  merges = bind_some (merge P Q);
}
wrapped s x y e f (under {u} {k} {P} {Q} {P'} {Q'} b q l ps qs g) h i ee ef m n =
    let (front, last) = marks_front s e k m in
    let (front', last') = marks_front s f k n in
    let w = wrapped s (suc (suc x)) (suc (suc y)) e f g (inner s x b q l P ps h) (inner s y b q l Q qs i) (omega arith) (omega arith) front front' in
    let eps = none_behind s x e b q l k P P' ps u h (omega arith) (ap codes w.first ∙ w.words P') last in
    let eqs = none_behind s y f b q l k Q Q' qs u i (omega arith) (ap codes w.second ∙ w.words Q') last' in
    let p : act b q (p_arm l P ps) ≡ act b q (p_arm l P p_nil) = ap (λ (ts : PartArms). act b q (p_arm l P ts)) eps in
    let r : act b q (p_arm l Q qs) ≡ act b q (p_arm l Q p_nil) = ap (λ (ts : PartArms). act b q (p_arm l Q ts)) eqs in
    record {
      wrap = λ M. act b q (p_arm l (w.wrap M) p_nil);
      first = p ∙ ap (λ (R : Part). act b q (p_arm l R p_nil)) w.first;
      second = r ∙ ap (λ (R : Part). act b q (p_arm l R p_nil)) w.second;
      words = λ M. act_codes b q (p_arm l (w.wrap M) p_nil) ∙ ap (λ (ws : List ℕ). code (kind b) q ∷ ws) (arm_words l (w.wrap M) (u ++ codes M) k (w.words M));
      merges = ap₂ merge p r ∙ (act_merge b q l P Q ∙ (ap (λ (o : Option Part). bind o (λ M. some (act b q (p_arm l M p_nil)))) w.merges ∙ bind_on (merge P' Q') w.wrap (λ M. act b q (p_arm l M p_nil))));
    }

-- what is inside is shorter, by the words around it
pub under_long : {u : List ℕ} {k : ℕ} {P Q P' Q' : Part} → Under u k P Q P' Q'
    → (length u + length (codes P') + k ≤ length (codes P)) × (length u + length (codes Q') + k ≤ length (codes Q))
under_long here = (omega arith, omega arith)
under_long (under {P = P} {Q} b q l ps qs h) =
    let (i, j) = under_long h in (
      omega (arith, ap length (act_codes b q (p_arm l P ps)), words_arm l P ps, words_some_arms ps),
      omega (arith, ap length (act_codes b q (p_arm l Q qs)), words_arm l Q qs, words_some_arms qs),
    )

-- ---- the walk

-- what is found from x and y on, with j actions opened before
pub record Found (s : List ℕ) (x y j : ℕ) (P Q : Part) (c : Common) : Type 0 where
  pub opened : List ℕ
  pub depth : ℕ
  pub inner_first : Part
  pub inner_second : Part
  pub around : Under opened depth P Q inner_first inner_second
  pub is : c ≡ record { a = x + length opened; b = y + length opened; marks = j + depth }
  pub first_rising : Rising inner_first
  pub second_rising : Rising inner_second
  pub first_stands : Stands s (x + length opened) (codes inner_first)
  pub second_stands : Stands s (y + length opened) (codes inner_second)

-- an action whose first arm has a part
data Opens : Part → Type 0 where
  opens_act : (b : Bool) (q l : ℕ) (P : Part) (ps : PartArms) → Opens (act b q (p_arm l P ps))

is_act : (P : Part) (s : List ℕ) (x : ℕ) → Stands s x (codes P) → is_action (code_of (get_or s x 0)) ≡ true → is_arm (code_of (get_or s (suc x) 0)) ≡ true → Opens P
unfolding codes
is_act p_end s x h k a = absurd (true≢false (sym (rw h.0 at k)))
is_act (p_send q p_nil) s x h k a = absurd (true≢false (sym (rw h.1.0 at a)))
is_act (p_send q (p_arm l P ps)) s x h k a = opens_act true q l P ps
is_act (p_receive q p_nil) s x h k a = absurd (true≢false (sym (rw h.1.0 at a)))
is_act (p_receive q (p_arm l P ps)) s x h k a = opens_act false q l P ps
is_act (p_loop P) s x h k a = absurd (true≢false (sym (rw h.0 at k)))
is_act (p_back d) s x h k a = absurd (true≢false (sym (rw (h.0, code_is 4 d (omega arith)) at k)))

act_rising : (b : Bool) (q l : ℕ) (P : Part) (ps : PartArms) → Rising (act b q (p_arm l P ps)) → Rising P
act_rising true q l P ps (r_send (r_arm a p h)) = p
act_rising false q l P ps (r_receive (r_arm a p h)) = p

kinds_same : (b d : Bool) (q j : ℕ) → code (kind b) q ≡ code (kind d) j → (b ≡ d) × (q ≡ j)
kinds_same true true q j e = (refl, omega arith)
kinds_same true false q j e = absurd (omega arith)
kinds_same false true q j e = absurd (omega arith)
kinds_same false false q j e = (refl, omega arith)

-- what the test says
shares_is : (s : List ℕ) (x y : ℕ) → shares s x y ≡ true
    → (x < length s) × (y < length s) × (is_action (code_of (get_or s x 0)) ≡ true) × (get_or s x 0 ≡ get_or s y 0) × (is_arm (code_of (get_or s (suc x) 0)) ≡ true) × (get_or s (suc x) 0 ≡ get_or s (suc y) 0)
unfolding shares
shares_is s x y e = go (leb (length s) x || leb (length s) y) refl
  where
    go : (c : Bool) → (leb (length s) x || leb (length s) y) ≡ c
        → (x < length s) × (y < length s) × (is_action (code_of (get_or s x 0)) ≡ true) × (get_or s x 0 ≡ get_or s y 0) × (is_arm (code_of (get_or s (suc x) 0)) ≡ true) × (get_or s (suc x) 0 ≡ get_or s (suc y) 0)
    go true f = absurd (true≢false (sym (rw f at e)))
    go false f =
        let (p, q) = or_neither (leb (length s) x) (leb (length s) y) f in
        let (r₁, same') = and_both _ (eqb (get_or s (x + 1) 0) (get_or s (y + 1) 0)) (rw f at e) in
        let (r₂, arm) = and_both _ (is_arm (code_of (get_or s (x + 1) 0))) r₁ in
        let (acts, same) = and_both (is_action (code_of (get_or s x 0))) (eqb (get_or s x 0) (get_or s y 0)) r₂ in
        let i : x + 1 ≡ suc x = omega arith in
        let j : y + 1 ≡ suc y = omega arith in (
          leb-false (length s) x p,
          leb-false (length s) y q,
          acts,
          eqb-true (get_or s x 0) (get_or s y 0) same,
          rw i at arm,
          rw (i, j) at (eqb-true (get_or s (x + 1) 0) (get_or s (y + 1) 0) same'),
        )

-- nothing is opened in common
found_here : (s : List ℕ) (x y j : ℕ) (P Q : Part) → Rising P → Rising Q → Stands s x (codes P) → Stands s y (codes Q) → Found s x y j P Q (record { a = x; b = y; marks = j })
found_here s x y j P Q p q g h =
    let i : x + 0 ≡ x = omega arith in
    let k : y + 0 ≡ y = omega arith in
    let m : j + 0 ≡ j = omega arith in
    record {
      opened = [];
      depth = 0;
      inner_first = P;
      inner_second = Q;
      around = here;
      is = rw (i, k, m);
      first_rising = p;
      second_rising = q;
      first_stands = rw add-zero g;
      second_stands = rw add-zero h;
    }

-- one action more around what is found inside it
found_more : (s : List ℕ) (x y j : ℕ) (b : Bool) (q l : ℕ) (P Q : Part) (ps qs : PartArms) (c : Common) → Found s (x + 2) (y + 2) (j + 1) P Q c
    → Found s x y j (act b q (p_arm l P ps)) (act b q (p_arm l Q qs)) c
found_more s x y j b q l P Q ps qs c f =
    let u = f.opened in
    let i : x + 2 + length u ≡ x + suc (suc (length u)) = omega arith in
    let k : y + 2 + length u ≡ y + suc (suc (length u)) = omega arith in
    let m : j + 1 + f.depth ≡ j + suc f.depth = omega arith in
    record {
      opened = code (kind b) q ∷ code 2 l ∷ u;
      depth = suc f.depth;
      inner_first = f.inner_first;
      inner_second = f.inner_second;
      around = under b q l ps qs f.around;
      is = f.is ∙ rw (i, k, m);
      first_rising = f.first_rising;
      second_rising = f.second_rising;
      first_stands = rw i at f.first_stands;
      second_stands = rw k at f.second_stands;
    }

-- both sides open the same
both_open : (s : List ℕ) (x y j : ℕ) (P Q : Part) (c : Common) → Opens P → Opens Q → Rising P → Rising Q → Stands s x (codes P) → Stands s y (codes Q)
    → get_or s x 0 ≡ get_or s y 0 → get_or s (suc x) 0 ≡ get_or s (suc y) 0
    → ((P Q : Part) → Rising P → Rising Q → Stands s (x + 2) (codes P) → Stands s (y + 2) (codes Q) → Found s (x + 2) (y + 2) (j + 1) P Q c)
    → Found s x y j P Q c
both_open s x y j P Q c (opens_act b q l P₁ ps) (opens_act d k m Q₁ qs) p r g h e f go =
    let g₀ = rw (act_codes b q (p_arm l P₁ ps)) at g in
    let h₀ = rw (act_codes d k (p_arm m Q₁ qs)) at h in
    let (eb, eq) = kinds_same b d q k (sym g₀.0 ∙ (e ∙ h₀.0)) in
    let ag = stands_arm s (suc x) (suc (suc x) + length (codes P₁)) l P₁ ps refl g₀.1 in
    let ah = stands_arm s (suc y) (suc (suc y) + length (codes Q₁)) m Q₁ qs refl h₀.1 in
    let lm : code 2 l ≡ code 2 m = sym ag.0 ∙ (f ∙ ah.0) in
    let el : l ≡ m = omega arith in
    let i : suc (suc x) ≡ x + 2 = omega arith in
    let n : suc (suc y) ≡ y + 2 = omega arith in
    let inside = go P₁ Q₁ (act_rising b q l P₁ ps p) (act_rising d k m Q₁ qs r) (rw i at ag.1) (rw n at ah.1) in
    subst (λ (B : Part). Found s x y j (act b q (p_arm l P₁ ps)) B c) (ap (λ (z : Bool). act z q (p_arm l Q₁ qs)) eb ∙ (ap (λ (z : ℕ). act d z (p_arm l Q₁ qs)) eq ∙ ap (λ (z : ℕ). act d k (p_arm z Q₁ qs)) el))
    (found_more s x y j b q l P₁ Q₁ ps qs c inside)

pub common_is : (n : ℕ) (s : List ℕ) (x y j : ℕ) (P Q : Part) → Rising P → Rising Q → Stands s x (codes P) → Stands s y (codes Q) → Found s x y j P Q (common_on n s x y j)
unfolding common_on
common_is zero s x y j P Q p q g h = found_here s x y j P Q p q g h
common_is (suc n) s x y j P Q p q g h = go (shares s x y) refl (λ P Q. common_is n s (x + 2) (y + 2) (j + 1) P Q)
  where
    go : (c : Bool) → shares s x y ≡ c
        → ((P Q : Part) → Rising P → Rising Q → Stands s (x + 2) (codes P) → Stands s (y + 2) (codes Q) → Found s (x + 2) (y + 2) (j + 1) P Q (common_on n s (x + 2) (y + 2) (j + 1)))
        → Found s x y j P Q (cond c (common_on n s (x + 2) (y + 2) (j + 1)) (record { a = x; b = y; marks = j }))
    go true e more =
        let (lx, ly, acts, same, arm, same') = shares_is s x y e in
        let second = rw same at acts in
        both_open s x y j P Q (common_on n s (x + 2) (y + 2) (j + 1)) (is_act P s x g acts arm) (is_act Q s y h second (rw same' at arm)) p q g h same same' more
    go false e more = found_here s x y j P Q p q g h

-- ---- marks

pub closes_is : (n : ℕ) (s : List ℕ) (x : ℕ) → closes n s x ≡ true → Stands s x (marks n)
unfolding closes
closes_is zero s x e = tt
closes_is (suc n) s x e =
    let (a, b) = and_both (ltb x (length s) && eqb (get_or s x 0) 1) (closes n s (x + 1)) e in
    let (c, d) = and_both (ltb x (length s)) (eqb (get_or s x 0) 1) a in
    let i : x + 1 ≡ suc x = omega arith in
    (eqb-true (get_or s x 0) 1 d, rw i at (closes_is n s (x + 1) b))

pub marks_put : (n : ℕ) (o : List ℕ) (at : ℕ) → at + n ≤ length o → put_marks n o at ≡ record { end = at + n; out = sets o at (marks n) }
marks_put n o at l = same_some 1 n n o at (omega arith, λ p. l, inl refl)
