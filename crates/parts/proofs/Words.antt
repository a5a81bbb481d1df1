-- Words that stand in a list from a place on, and words stored there; a part's words determine it. Assumes nothing.
use Prim.Native.Nat.{ℕ, zero, suc, ◌+◌, ◌≤◌, ◌<◌}
use mathlib.Core.List.{List, [], ◌∷◌, ◌++◌}
use mathlib.Core.Logic.{◌⊎◌, inl, inr, ⊎_elim}
use mathlib.Core.Path.{◌≡◌, refl, sym, ◌∙◌, ap, ap₂}
use native.Mathlib.Nat.{add-zero, add-suc, suc-add}
use native.Mathlib.Omega.{arith}
use lib.ListN.{length, get_or, set, take, drop, length-append, length-set}
use lib.Seq.{sets, get_or-set_same, get_or-set_other, get_or-drop, get_or-take}
use Rattle.parts.specs.Part.{Part, p_end, p_send, p_receive, p_loop, p_back, PartArms, p_nil, p_arm}
pub use Rattle.parts.specs.mirror.Stands.{Stands}
use Rattle.parts.specs.mirror.Codes.{code, codes, codes_arms}

pub stands_front : (s : List ℕ) (a : ℕ) (u v : List ℕ) → Stands s a (u ++ v) → Stands s a u
stands_front s a [] v h = tt
stands_front s a (w ∷ u) v h = (h.0, stands_front s (suc a) u v h.1)

pub stands_back : (s : List ℕ) (a c : ℕ) (u v : List ℕ) → c ≡ a + length u → Stands s a (u ++ v) → Stands s c v
stands_back s a c [] v e h = rw (e, add-zero) h
stands_back s a c (w ∷ u) v e h = stands_back s (suc a) c u v (omega arith) h.1

-- the words of a list stand where a slice of it has them
pub stands_at_lem : (s : List ℕ) (a : ℕ) (ws : List ℕ) → ((i : ℕ) → i < length ws → get_or s (a + i) 0 ≡ get_or ws i 0) → Stands s a ws
stands_at_lem s a [] f = tt
stands_at_lem s a (w ∷ ws) f =
    (rw add-zero at (f 0 (omega arith)), stands_at_lem s (suc a) ws (λ i l. rw (suc-add, ← add-suc) (f (suc i) (omega arith))))

pub stands_get : (s : List ℕ) (a : ℕ) (ws : List ℕ) → Stands s a ws → (i : ℕ) → i < length ws → get_or s (a + i) 0 ≡ get_or ws i 0
stands_get s a [] h i l = absurd (omega arith)
stands_get s a (w ∷ ws) h zero l = rw add-zero h.0
stands_get s a (w ∷ ws) h (suc i) l = rw (add-suc, ← suc-add) (stands_get s (suc a) ws h.1 i (omega arith))

pub stands_slice : (s : List ℕ) (a : ℕ) (ws : List ℕ) → take (length ws) (drop a s) ≡ ws → Stands s a ws
stands_slice s a ws e =
    stands_at_lem s a ws
    (λ i l. sym (get_or-drop a s i 0) ∙ sym (get_or-take (length ws) (drop a s) i 0 l) ∙ ap (λ (vs : List ℕ). get_or vs i 0) e)

-- ---- stored words

pub sets_append : (o : List ℕ) (i j : ℕ) (u v : List ℕ) → j ≡ i + length u → sets (sets o i u) j v ≡ sets o i (u ++ v)
sets_append o i j [] v e = rw (e, add-zero)
sets_append o i j (w ∷ u) v e = sets_append (set o i w) (suc i) j u v (omega arith)

-- elsewhere nothing changes
pub sets_other : (o : List ℕ) (i : ℕ) (ws : List ℕ) (k : ℕ) → (k < i) ⊎ (i + length ws ≤ k) → get_or (sets o i ws) k 0 ≡ get_or o k 0
sets_other o i [] k h = refl
sets_other o i (w ∷ ws) k h =
    sets_other (set o i w) (suc i) ws k (⊎_elim (λ l. inl (omega arith)) (λ l. inr (omega arith)) h)
    ∙ get_or-set_other o i k w 0 (⊎_elim (λ l e. omega arith) (λ l e. omega arith) h)

-- what is stored stands there
pub sets_stands : (o : List ℕ) (i : ℕ) (ws : List ℕ) → i + length ws ≤ length o → Stands (sets o i ws) i ws
sets_stands o i [] h = tt
sets_stands o i (w ∷ ws) h = (
  sets_other (set o i w) (suc i) ws i (inl (omega arith)) ∙ get_or-set_same o i w 0 (omega arith),
  sets_stands (set o i w) (suc i) ws (simp length-set (omega arith)),
)

-- what stands elsewhere still stands
-- ---- parts

pub words_some : (P : Part) → 0 < length (codes P)
unfolding codes
words_some p_end = omega arith
words_some (p_send q ps) = omega arith
words_some (p_receive q ps) = omega arith
words_some (p_loop P) = omega arith
words_some (p_back k) = omega arith

pub words_some_arms : (ps : PartArms) → 0 < length (codes_arms ps)
unfolding codes
words_some_arms p_nil = omega arith
words_some_arms (p_arm l P ps) = omega arith

pub words_arm : (l : ℕ) (P : Part) (ps : PartArms) → length (codes_arms (p_arm l P ps)) ≡ suc (length (codes P) + length (codes_arms ps))
unfolding codes
words_arm l P ps = ap suc (length-append (codes P) (codes_arms ps))

-- an arm, its part and the arms behind it
pub stands_arm : (s : List ℕ) (a c l : ℕ) (P : Part) (ps : PartArms) → c ≡ suc a + length (codes P) → Stands s a (codes_arms (p_arm l P ps))
    → (get_or s a 0 ≡ code 2 l) × Stands s (suc a) (codes P) × Stands s c (codes_arms ps)
unfolding codes
stands_arm s a c l P ps e h = (
  h.0,
  stands_front s (suc a) (codes P) (codes_arms ps) h.1,
  stands_back s (suc a) c (codes P) (codes_arms ps) e h.1,
)

-- one place holds one part
mutual
  unfolding codes

  pub stands_same : (P Q : Part) (s : List ℕ) (a : ℕ) → Stands s a (codes P) → Stands s a (codes Q) → P ≡ Q
  stands_same p_end p_end s a g h = refl
  stands_same p_end (p_send q qs) s a g h = absurd (omega arith)
  stands_same p_end (p_receive q qs) s a g h = absurd (omega arith)
  stands_same p_end (p_loop Q) s a g h = absurd (omega arith)
  stands_same p_end (p_back j) s a g h = absurd (omega arith)
  stands_same (p_send p ps) p_end s a g h = absurd (omega arith)
  stands_same (p_send p ps) (p_send q qs) s a g h =
      let e : p ≡ q = omega (arith, g.0, h.0) in ap₂ p_send e (stands_same_arms ps qs s (suc a) g.1 h.1)
  stands_same (p_send p ps) (p_receive q qs) s a g h = absurd (omega arith)
  stands_same (p_send p ps) (p_loop Q) s a g h = absurd (omega arith)
  stands_same (p_send p ps) (p_back j) s a g h = absurd (omega arith)
  stands_same (p_receive p ps) p_end s a g h = absurd (omega arith)
  stands_same (p_receive p ps) (p_send q qs) s a g h = absurd (omega arith)
  stands_same (p_receive p ps) (p_receive q qs) s a g h =
      let e : p ≡ q = omega (arith, g.0, h.0) in ap₂ p_receive e (stands_same_arms ps qs s (suc a) g.1 h.1)
  stands_same (p_receive p ps) (p_loop Q) s a g h = absurd (omega arith)
  stands_same (p_receive p ps) (p_back j) s a g h = absurd (omega arith)
  stands_same (p_loop P) p_end s a g h = absurd (omega arith)
  stands_same (p_loop P) (p_send q qs) s a g h = absurd (omega arith)
  stands_same (p_loop P) (p_receive q qs) s a g h = absurd (omega arith)
  stands_same (p_loop P) (p_loop Q) s a g h = ap p_loop (stands_same P Q s (suc a) g.1 h.1)
  stands_same (p_loop P) (p_back j) s a g h = absurd (omega arith)
  stands_same (p_back k) p_end s a g h = absurd (omega arith)
  stands_same (p_back k) (p_send q qs) s a g h = absurd (omega arith)
  stands_same (p_back k) (p_receive q qs) s a g h = absurd (omega arith)
  stands_same (p_back k) (p_loop Q) s a g h = absurd (omega arith)
  stands_same (p_back k) (p_back j) s a g h = let e : k ≡ j = omega (arith, g.0, h.0) in ap p_back e

  pub stands_same_arms : (ps qs : PartArms) (s : List ℕ) (a : ℕ) → Stands s a (codes_arms ps) → Stands s a (codes_arms qs) → ps ≡ qs
  stands_same_arms p_nil p_nil s a g h = refl
  stands_same_arms p_nil (p_arm l Q qs) s a g h = absurd (omega (arith, g.0, h.0))
  stands_same_arms (p_arm k P ps) p_nil s a g h = absurd (omega (arith, g.0, h.0))
  stands_same_arms (p_arm k P ps) (p_arm l Q qs) s a g h =
      let c = suc a + length (codes P) in
      let (ek, gp, gs) = stands_arm s a c k P ps refl g in
      let e : k ≡ l = omega (arith, g.0, h.0) in
      let f : P ≡ Q = stands_same P Q s (suc a) gp (stands_front s (suc a) (codes Q) (codes_arms qs) h.1) in
      let i : ps ≡ qs = stands_same_arms ps qs s c gs (stands_back s (suc a) c (codes Q) (codes_arms qs) (rw f) h.1) in
      cc
