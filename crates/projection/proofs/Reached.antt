-- What a row reaches, from what the rows that its links lead to reach. Assumes nothing.
use Prim.Native.Nat.{ℕ, zero, suc, ◌+◌, ◌-◌, ◌≤◌, ◌<◌, max, min}
use mathlib.Core.Bool.{Bool, true, false, cond, ◌||◌, or-true, or-false}
use mathlib.Core.List.{List}
use mathlib.Core.Logic.{⊎_elim}
use mathlib.Core.Path.{◌≡◌, refl, sym, ap₂, ◌∙◌}
use native.Mathlib.Omega.{arith}
use lib.Bits.{bit_or}
use lib.Dec.{ltb, leb, eqb}
use borrow.Author.Tests.{lt-ltb, le-ltb, le-leb, lt-leb, ltb-true, ltb-false, leb-false}
use Rattle.words.specs.Below.{one, set_of}
use Rattle.words.specs.Rows.{word, rows_of}
use Rattle.table.specs.Above.{namer, over, above, loops}
use Rattle.table.specs.Limits.{base}
use Rattle.table.specs.Rows.{row, is_loop}
use Rattle.table.specs.Tree.{Global, end, exchange, loop, back, Arms, nil, arm}
use Rattle.table.proofs.Accepted.{Obeys}
use Rattle.table.proofs.Links.{exchange_link, loop_link, arm_link}
use Rattle.table.proofs.Sizes.{measured}
use Rattle.parts.specs.Absent.{takes_part, takes_part_arms, leaves, leaves_arms}
use Rattle.parts.specs.mirror.Grows.{Grows, grows_end, grows_exchange, grows_loop, grows_back, Chain, chain_last, chain_more}
use Rattle.projection.specs.mirror.Reach.{alone, nothing, next_of, reach_of, stay_of}
use Rattle.projection.specs.declared.reach.Reach.{Reach}
use Rattle.projection.proofs.Sets.{set_or, set_none}

-- takes: the roles that take part. away: whether a Back leaves the d nearest Loops around
pub record Reaches (takes : ℕ → Bool) (away : ℕ → Bool) (r : Reach) : Type 0 where
  pub set : r.roles ≡ set_of takes base.roles
  pub far : (d : ℕ) → away d ≡ ltb d r.out

-- r is what the tree reaches, and what the arms reach
abbrev pub TreeReach : Global ℕ → Reach → Type 0
TreeReach G r = Reaches (λ k. takes_part k G) (λ d. leaves d G) r

abbrev pub ArmsReach : Arms ℕ → Reach → Type 0
ArmsReach cs r = Reaches (λ k. takes_part_arms k cs) (λ d. leaves_arms d cs) r

pub reach_end : TreeReach end nothing
unfolding takes_part leaves
reach_end = record { set = sym (set_none base.roles); far = λ d. sym (le-ltb d 0 (omega arith)) }

pub reach_nil : ArmsReach nil nothing
unfolding takes_part leaves
reach_nil = record { set = sym (set_none base.roles); far = λ d. sym (le-ltb d 0 (omega arith)) }

leb_next : (d k : ℕ) → leb d k ≡ ltb d (k + 1)
leb_next d k = go (ltb d (k + 1)) refl
  where
    go : (b : Bool) → ltb d (k + 1) ≡ b → leb d k ≡ b
    go true e = le-leb d k (omega (arith, ltb-true d (k + 1) e))
    go false e = lt-leb d k (omega (arith, ltb-false d (k + 1) e))

pub reach_back : (k : ℕ) → TreeReach (back k) (record { roles = 0; out = k + 1 })
unfolding takes_part leaves
reach_back k = record { set = sym (set_none base.roles); far = λ d. leb_next d k }

ltb_less : (d o : ℕ) → ltb (suc d) o ≡ ltb d (o - 1)
ltb_less d o = go (ltb d (o - 1)) refl
  where
    go : (b : Bool) → ltb d (o - 1) ≡ b → ltb (suc d) o ≡ b
    go true e = lt-ltb (suc d) o (omega (arith, ltb-true d (o - 1) e))
    go false e = le-ltb (suc d) o (omega (arith, ltb-false d (o - 1) e))

pub reach_loop : (B : Global ℕ) (r : Reach) (o : ℕ) → TreeReach B r → o ≡ r.out - 1 → TreeReach (loop B) (record { roles = r.roles; out = o })
unfolding takes_part leaves
reach_loop B r o h e = record { set = h.set; far = λ d. rw e (h.far (suc d) ∙ ltb_less d r.out) }

-- two sets together
join_set : (p q : ℕ → Bool) (a b : ℕ) → a ≡ set_of p base.roles → b ≡ set_of q base.roles → bit_or a b ≡ set_of (λ k. p k || q k) base.roles
join_set p q a b ea eb = ap₂ bit_or ea eb ∙ set_or p q 8

pub reach_exchange : (s q : ℕ) (cs : Arms ℕ) (r : Reach) (a b : ℕ) → ArmsReach cs r → a ≡ set_of (λ k. eqb k s) base.roles → b ≡ set_of (λ k. eqb k q) base.roles
    → TreeReach (exchange s q cs) (record { roles = bit_or (bit_or a b) r.roles; out = r.out })
unfolding takes_part leaves
reach_exchange s q cs r a b h ea eb = record {
  set =
      join_set (λ k. eqb k s || eqb k q) (λ k. takes_part_arms k cs) (bit_or a b) r.roles (join_set (λ k. eqb k s) (λ k. eqb k q) a b ea eb)
      h.set;
  far = h.far;
}

ltb_max : (d a b : ℕ) → (ltb d a || ltb d b) ≡ ltb d (max a b)
ltb_max d a b = go (ltb d a) (ltb d b) refl refl
  where
    go : (x y : Bool) → ltb d a ≡ x → ltb d b ≡ y → (x || y) ≡ ltb d (max a b)
    go true y e f = sym (lt-ltb d (max a b) (omega (arith, ltb-true d a e)))
    go false true e f = sym (lt-ltb d (max a b) (omega (arith, ltb-true d b f)))
    go false false e f = sym (le-ltb d (max a b) (omega (arith, ltb-false d a e, ltb-false d b f)))

pub reach_arm : (l : ℕ) (G : Global ℕ) (cs : Arms ℕ) (r q : Reach) (o : ℕ) → TreeReach G r → ArmsReach cs q → o ≡ max r.out q.out
    → ArmsReach (arm l G cs) (record { roles = bit_or r.roles q.roles; out = o })
unfolding takes_part leaves
reach_arm l G cs r q o h g e = record {
  set = join_set (λ k. takes_part k G) (λ k. takes_part_arms k cs) r.roles q.roles h.set g.set;
  far = λ d. rw e (ap₂ (λ (x y : Bool). x || y) (h.far d) (g.far d) ∙ ltb_max d r.out q.out);
}

-- ---- the rows of a table

-- no more Loops stand over a row than rows
loops_few : (n : ℕ) (t : List ℕ) (i : ℕ) → loops t (over n t i) ≤ n
unfolding loops over
loops_few zero t i = omega arith
loops_few (suc n) t zero = omega arith
loops_few (suc n) t (suc i) = let p = namer t (suc i) in go (is_loop (row t p)) (loops t (over n t p)) (loops_few n t p)
  where
    go : (b : Bool) (m : ℕ) → m ≤ n → one b + m ≤ suc n
    go true m h = omega arith
    go false m h = omega arith

-- a next arm that is there
pub next_some : (at : ℕ → Reach) (n : ℕ) → 0 < n → next_of at n ≡ at n
next_some at zero h = absurd (omega arith)
next_some at (suc n) h = refl

-- row i of a table that obeys the rules, where what the higher rows reach is known
module _ (t : List ℕ) (n : ℕ) (o : Obeys base t n) (at : ℕ → Reach) (i : ℕ)
    (tree : (j : ℕ) (G : Global ℕ) → i < j → Grows t j G → TreeReach G (at j))
    (chain : (j : ℕ) (cs : Arms ℕ) → i < j → Chain t j cs → ArmsReach cs (at j)) where
  depth_few : (d : ℕ) → i < rows_of t → word t i 0 ≡ 4 → word t i 1 ≡ d → d < 256
  depth_few d l k e =
      let h : leb (loops t (above t i)) d ≡ false = rw (k, e) at (o.bound i l) in
      let few = (measured base t n o.sizes).few in
      omega (arith, leb-false (loops t (above t i)) d h, loops_few (rows_of t) t i)

  pub row_tree : {G : Global ℕ} → Grows t i G → TreeReach G (reach_of at (row t i))
  row_tree (grows_end l k) = rw k reach_end
  row_tree (grows_exchange {p = p} {q = q} {f = f} {cs = cs} l k a b c g) =
      let up = (exchange_link t i (word t i 1) (word t i 2) f (rw (k, c) at (o.links i l))).up in
      rw (k, a, b, c) (reach_exchange p q cs (at f) (alone p) (alone q) (chain f cs up g) refl refl)
  row_tree (grows_loop {b = b} {G = B} l k a g) =
      let up = (loop_link t i b (word t i 2) (word t i 3) (rw (k, a) at (o.links i l))).up in
      rw (k, a) (reach_loop B (at b) ((at b).out - 1) (tree b B up g) refl)
  row_tree (grows_back {d = d} l k a) =
      let few = depth_few d l k a in
      let e : min (d + 1) 65535 ≡ d + 1 = omega arith in
      rw (k, a, e) (reach_back d)

  pub row_chain : {cs : Arms ℕ} → Chain t i cs → ArmsReach cs (reach_of at (row t i))
  row_chain (chain_last {l = m} {c = c} {G = G} l k a b z g) =
      let up = (arm_link t i (word t i 1) c 0 (rw (k, b, z) at (o.links i l))).1.up in
      rw (k, b, z) (reach_arm m G nil (at c) nothing (max (at c).out 0) (tree c G up g) reach_nil refl)
  row_chain (chain_more {l = m} {c = c} {n = f} {G = G} {cs = cs} l k a b e h g gs) =
      let (_, u, v) = arm_link t i (word t i 1) c f (rw (k, b, e) at (o.links i l)) in
      let up = ⊎_elim {C = i < f} (λ z. absurd (omega arith)) (λ x. x.up) v in
      rw (k, b, e, next_some at f h) (reach_arm m G cs (at c) (at f) (max (at c).out (at f).out) (tree c G u.up g) (chain f cs up gs) refl)

-- ---- the roles that stay in a Loop

pub loop_stay : (B : Global ℕ) (r : Reach) → TreeReach (loop B) r → stay_of r ≡ set_of (λ k. takes_part k B || leaves 1 B) base.roles
unfolding takes_part leaves
loop_stay B r h = rw (h.far 0) (go (ltb 0 r.out))
  where
    go : (b : Bool) → cond b (set_of (λ k. true) 8) r.roles ≡ set_of (λ k. takes_part k B || b) base.roles
    go true = simp or-true
    go false = simp or-false h.set
