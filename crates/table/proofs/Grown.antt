-- One induction over the rows of a table that obeys the rules: what holds of each row's tree where it holds of the trees below it. And the rows
-- over a row: those over the row that names it, after that row. Assumes nothing.
use Prim.Native.Nat.{ℕ, zero, suc, ◌+◌, ◌≤◌, ◌<◌}
use mathlib.Core.Bool.{Bool, true, false, true≢false}
use mathlib.Core.List.{List, ◌∷◌}
use mathlib.Core.Logic.{⊎_elim}
use mathlib.Core.Path.{◌≡◌, refl, sym, ◌∙◌, ap}
use native.Mathlib.Omega.{arith}
use Rattle.words.specs.Rows.{rows_of, word}
use Rattle.table.specs.Limits.{Limits}
use Rattle.table.specs.Rows.{Row, End, Exchange, Arm, Loop, Back, Other, row, is_arm, links}
use Rattle.table.specs.Above.{times, namer, above}
use Rattle.table.specs.Tree.{Global, end, exchange, loop, back, Arms, nil, arm, grow_tree, grow_arms, grow_next, tree_at, chain_at, tree_of}
use Rattle.table.specs.mirror.Names.{near_link, far_link, Rising}
use Rattle.table.proofs.Accepted.{Obeys}
use Rattle.table.proofs.Links.{Link, exchange_link, arm_link, loop_link, named_once, namer_is, near_named, far_named, rising}
use Rattle.table.proofs.Rows.{arm_row}
use Rattle.table.proofs.Sizes.{measured}
use Rattle.table.proofs.Walk.{above_more}

-- what has to be shown of each kind of row, for P of a row and its tree, and Q of an Arm and the arms from it on
pub record Cases {A : Type 0} (t : List ℕ) (P : ℕ → Global A → Type 0) (Q : ℕ → Arms A → Type 0) : Type 0 where
  pub ended : (i a b c : ℕ) → i < rows_of t → row t i ≡ End a b c → P i end
  pub exchanged : (i s r f : ℕ) (cs : Arms A) → i < rows_of t → row t i ≡ Exchange s r f → Link t true i f → Q f cs → P i (exchange s r cs)
  pub looped : (i b x y : ℕ) (G : Global A) → i < rows_of t → row t i ≡ Loop b x y → Link t false i b → P b G → P i (loop G)
  pub backed : (i d x y : ℕ) → i < rows_of t → row t i ≡ Back d x y → P i (back d)
  pub last : (i l c : ℕ) (G : Global A) → i < rows_of t → row t i ≡ Arm l c 0 → Link t false i c → P c G → Q i (arm l G nil)
  pub more : (i l c n : ℕ) (G : Global A) (cs : Arms A) → i < rows_of t → row t i ≡ Arm l c n → Link t false i c → Link t true i n
      → P c G → Q n cs → Q i (arm l G cs)

module _ {A : Type 0} (lim : Limits) (t : List ℕ) (roles : ℕ) (o : Obeys lim t roles) (P : ℕ → Global A → Type 0) (Q : ℕ → Arms A → Type 0)
    (cases : Cases t P Q) where
  -- a row's tree, from the trees and chains of higher rows
  at_tree : (i : ℕ) (tree : ℕ → Global A) (chain : ℕ → Arms A) → i < rows_of t
      → ((j : ℕ) → Link t false i j → P j (tree j)) → ((j : ℕ) → Link t true i j → Q j (chain j))
      → (r : Row) → row t i ≡ r → is_arm r ≡ false → P i (grow_tree tree chain r)
  unfolding grow_tree
  at_tree i tree chain l p q (End a b c) e x = cases.ended i a b c l e
  at_tree i tree chain l p q (Exchange s r f) e x =
      let k = exchange_link t i s r f (rw e at (o.links i l)) in
      cases.exchanged i s r f (chain f) l e k (q f k)
  at_tree i tree chain l p q (Arm a c n) e x = absurd (true≢false x)
  at_tree i tree chain l p q (Loop b x y) e z =
      let k = loop_link t i b x y (rw e at (o.links i l)) in
      cases.looped i b x y (tree b) l e k (p b k)
  at_tree i tree chain l p q (Back d x y) e z = cases.backed i d x y l e
  at_tree i tree chain l p q Other e x = absurd (true≢false (rw e at (o.kinds i l)))

  -- the arms from an Arm on
  at_arms : (i : ℕ) (tree : ℕ → Global A) (chain : ℕ → Arms A) → i < rows_of t
      → ((j : ℕ) → Link t false i j → P j (tree j)) → ((j : ℕ) → Link t true i j → Q j (chain j))
      → (r : Row) → row t i ≡ r → is_arm r ≡ true → Q i (grow_arms tree chain r)
  unfolding grow_arms grow_next
  at_arms i tree chain l p q (End a b c) e x = absurd (true≢false (sym x))
  at_arms i tree chain l p q (Exchange s r f) e x = absurd (true≢false (sym x))
  at_arms i tree chain l p q (Arm a c zero) e x =
      let k = arm_link t i a c 0 (rw e at (o.links i l)) in
      cases.last i a c (tree c) l e k.1 (p c k.1)
  at_arms i tree chain l p q (Arm a c (suc n)) e x =
      let k = arm_link t i a c (suc n) (rw e at (o.links i l)) in
      ⊎_elim
      (λ z. absurd (omega arith))
      (λ m. cases.more i a c (suc n) (tree c) (chain (suc n)) l e k.1 m (p c k.1) (q (suc n) m))
      k.2
  at_arms i tree chain l p q (Loop b y z) e x = absurd (true≢false (sym x))
  at_arms i tree chain l p q (Back d y z) e x = absurd (true≢false (sym x))
  at_arms i tree chain l p q Other e x = absurd (true≢false (sym x))

  -- as many links may be followed as there are rows from i on, so none is cut
  pub grown : (n : ℕ) → ((i : ℕ) → i < rows_of t → rows_of t ≤ n + i → is_arm (row t i) ≡ false → P i (tree_at n t i))
      × ((i : ℕ) → i < rows_of t → rows_of t ≤ n + i → is_arm (row t i) ≡ true → Q i (chain_at n t i))
  unfolding tree_at
  grown zero = (λ i l h x. absurd (omega arith), λ i l h x. absurd (omega arith))
  grown (suc n) =
      let (p, q) = grown n in (
        λ i l h x.
            at_tree i (λ j. tree_at n t j) (λ j. chain_at n t j) l
            (λ j k. let u = k.up in p j k.inside (omega arith) k.is)
            (λ j k. let u = k.up in q j k.inside (omega arith) k.is) (row t i) refl x,
        λ i l h x.
            at_arms i (λ j. tree_at n t j) (λ j. chain_at n t j) l
            (λ j k. let u = k.up in p j k.inside (omega arith) k.is)
            (λ j k. let u = k.up in q j k.inside (omega arith) k.is) (row t i) refl x,
      )

  -- row 0 is no Arm, and there is a row 0
  pub tree_of_lem : P 0 (tree_of t)
  unfolding tree_of
  tree_of_lem =
      let m = measured lim t roles o.sizes in
      (grown (rows_of t)).0 0 m.some (omega arith) (start (is_arm (row t 0)) refl)
    where
      start : (b : Bool) → is_arm (row t 0) ≡ b → is_arm (row t 0) ≡ false
      start false e = e
      start true e =
          let m = measured lim t roles o.sizes in
          let k = arm_link t 0 (word t 0 1) (word t 0 2) (word t 0 3) (rw (arm_row t 0 e) at (o.links 0 m.some)) in
          let z = k.0 in
          absurd (omega arith)

-- ---- the rows over a row

module _ (lim : Limits) (t : List ℕ) (roles : ℕ) (o : Obeys lim t roles) where
  pub namer_below : Rising t
  namer_below = rising t o.links o.once

  -- the rows over a row that a link of row i leads to
  module _ (arm : Bool) (i j : ℕ) (l : i < rows_of t) (k : Link t arm i j) where
    above_named : namer t j ≡ i → above t j ≡ i ∷ above t i
    above_named e = let u = k.up in above_more t namer_below j (omega arith) k.inside ∙ ap (λ p. p ∷ above t p) e

    namer_linked : 0 < times j (links (row t i)) → namer t j ≡ i
    namer_linked h = let u = k.up in namer_is t j i (named_once t j (omega arith) (o.once j k.inside)) l h

    pub namer_near : near_link (row t i) ≡ j → namer t j ≡ i
    namer_near e = let u = k.up in namer_linked (near_named t i j (omega arith) e)

    pub namer_far : far_link (row t i) ≡ j → namer t j ≡ i
    namer_far e = let u = k.up in namer_linked (far_named t i j (omega arith) e)

    pub above_near : near_link (row t i) ≡ j → above t j ≡ i ∷ above t i
    above_near e = above_named (namer_near e)

    pub above_far : far_link (row t i) ≡ j → above t j ≡ i ∷ above t i
    above_far e = above_named (namer_far e)
