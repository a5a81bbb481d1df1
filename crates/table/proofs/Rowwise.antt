-- The tree of each row of a table that obeys the rules, from the trees of the rows that its links lead to, with no count of links: what code that
-- goes from row to row is proved against. Assumes nothing.
use Prim.Native.Nat.{ℕ, zero, suc, ◌+◌, ◌≤◌, ◌<◌}
use mathlib.Core.Bool.{true, false}
use mathlib.Core.List.{List}
use mathlib.Core.Logic.{◌≢◌, ⊎_elim}
use mathlib.Core.Path.{◌≡◌, refl, sym, ap, ap₂}
use native.Mathlib.Omega.{arith}
use Rattle.words.specs.Rows.{rows_of}
use Rattle.table.specs.Limits.{Limits}
use Rattle.table.specs.Rows.{End, Exchange, Arm, Loop, Back, row, is_arm}
use Rattle.table.specs.Tree.{Global, end, exchange, loop, back, Arms, nil, arm, grow_tree, grow_arms, grow_next, tree_at, chain_at, tree_of}
use Rattle.table.proofs.Accepted.{Obeys}
use Rattle.table.proofs.Links.{Link, exchange_link, arm_link, loop_link}
use Rattle.table.proofs.Grown.{Cases, grown}

-- the tree of a row, and the arms from an Arm on
unfoldable pub tree_from : {A : Type 0} → List ℕ → ℕ → Global A
tree_from t i = tree_at (rows_of t) t i

unfoldable pub chain_from : {A : Type 0} → List ℕ → ℕ → Arms A
chain_from t i = chain_at (rows_of t) t i

-- a tree that is row i's whenever enough links are followed
abbrev Tree : {A : Type 0} → List ℕ → ℕ → Global A → Type 0
Tree t i G = (m : ℕ) → rows_of t ≤ m + i → G ≡ tree_at m t i

abbrev Chain : {A : Type 0} → List ℕ → ℕ → Arms A → Type 0
Chain t i cs = (m : ℕ) → rows_of t ≤ m + i → cs ≡ chain_at m t i

module _ {A : Type 0} (t : List ℕ) where
  at_end : (i a b c : ℕ) → i < rows_of t → row t i ≡ End a b c → Tree {A = A} t i end
  unfolding tree_at grow_tree
  at_end i a b c l e zero h = absurd (omega arith)
  at_end i a b c l e (suc m) h = rw e

  at_exchange : (i s r f : ℕ) (cs : Arms A) → i < rows_of t → row t i ≡ Exchange s r f → Link t true i f → Chain t f cs → Tree t i (exchange s r cs)
  unfolding tree_at grow_tree
  at_exchange i s r f cs l e k q zero h = absurd (omega arith)
  at_exchange i s r f cs l e k q (suc m) h = let u = k.up in rw e (ap (exchange s r) (q m (omega arith)))

  at_loop : (i b x y : ℕ) (G : Global A) → i < rows_of t → row t i ≡ Loop b x y → Link t false i b → Tree t b G → Tree t i (loop G)
  unfolding tree_at grow_tree
  at_loop i b x y G l e k p zero h = absurd (omega arith)
  at_loop i b x y G l e k p (suc m) h = let u = k.up in rw e (ap loop (p m (omega arith)))

  at_back : (i d x y : ℕ) → i < rows_of t → row t i ≡ Back d x y → Tree {A = A} t i (back d)
  unfolding tree_at grow_tree
  at_back i d x y l e zero h = absurd (omega arith)
  at_back i d x y l e (suc m) h = rw e

  at_last : (i l c : ℕ) (G : Global A) → i < rows_of t → row t i ≡ Arm l c 0 → Link t false i c → Tree t c G → Chain t i (arm l G nil)
  unfolding tree_at grow_arms grow_next
  at_last i l c G h e k p zero g = absurd (omega arith)
  at_last i l c G h e k p (suc m) g = let u = k.up in rw e (ap (λ G. arm l G nil) (p m (omega arith)))

  next_is : (n : ℕ) (chain : ℕ → Arms A) → 0 < n → grow_next chain n ≡ chain n
  unfolding grow_next
  next_is zero chain h = absurd (omega arith)
  next_is (suc n) chain h = refl

  at_more : (i l c n : ℕ) (G : Global A) (cs : Arms A) → i < rows_of t → row t i ≡ Arm l c n → Link t false i c → Link t true i n
      → Tree t c G → Chain t n cs → Chain t i (arm l G cs)
  unfolding tree_at grow_arms
  at_more i l c n G cs h e k j p q zero g = absurd (omega arith)
  at_more i l c n G cs h e k j p q (suc m) g =
      let u = k.up in
      let v = j.up in
      rw (e, next_is n (λ i. chain_at m t i) (omega arith)) (ap₂ (arm l) (p m (omega arith)) (q m (omega arith)))

  enough : Cases t (Tree {A = A} t) (Chain t)
  enough = record { ended = at_end; exchanged = at_exchange; looped = at_loop; backed = at_back; last = at_last; more = at_more }

-- the tree of a row, by its kind
module _ {A : Type 0} (lim : Limits) (t : List ℕ) (roles : ℕ) (o : Obeys lim t roles) where
  tree_is : (i : ℕ) → i < rows_of t → is_arm (row t i) ≡ false → Tree {A = A} t i (tree_from t i)
  unfolding tree_from
  tree_is i l x = (grown lim t roles o (Tree t) (Chain t) (enough t) (rows_of t)).0 i l (omega arith) x

  chain_is : (i : ℕ) → i < rows_of t → is_arm (row t i) ≡ true → Chain {A = A} t i (chain_from t i)
  unfolding chain_from
  chain_is i l x = (grown lim t roles o (Tree t) (Chain t) (enough t) (rows_of t)).1 i l (omega arith) x

  pub from_start : tree_of {A = A} t ≡ tree_from t 0
  unfolding tree_of tree_from
  from_start = refl

  pub from_end : (i a b c : ℕ) → i < rows_of t → row t i ≡ End a b c → tree_from {A = A} t i ≡ end
  unfolding tree_from
  from_end i a b c l e = sym (at_end t i a b c l e (rows_of t) (omega arith))

  pub from_exchange : (i s r f : ℕ) → i < rows_of t → row t i ≡ Exchange s r f → tree_from {A = A} t i ≡ exchange s r (chain_from t f)
  unfolding tree_from
  from_exchange i s r f l e =
      let k = exchange_link t i s r f (rw e at (o.links i l)) in
      sym (at_exchange t i s r f (chain_from t f) l e k (chain_is f k.inside k.is) (rows_of t) (omega arith))

  pub from_loop : (i b x y : ℕ) → i < rows_of t → row t i ≡ Loop b x y → tree_from {A = A} t i ≡ loop (tree_from t b)
  unfolding tree_from
  from_loop i b x y l e =
      let k = loop_link t i b x y (rw e at (o.links i l)) in
      sym (at_loop t i b x y (tree_from t b) l e k (tree_is b k.inside k.is) (rows_of t) (omega arith))

  pub from_back : (i d x y : ℕ) → i < rows_of t → row t i ≡ Back d x y → tree_from {A = A} t i ≡ back d
  unfolding tree_from
  from_back i d x y l e = sym (at_back t i d x y l e (rows_of t) (omega arith))

  pub from_last : (i l c : ℕ) → i < rows_of t → row t i ≡ Arm l c 0 → chain_from {A = A} t i ≡ arm l (tree_from t c) nil
  unfolding chain_from
  from_last i l c h e =
      let k = (arm_link t i l c 0 (rw e at (o.links i h))).1 in
      sym (at_last t i l c (tree_from t c) h e k (tree_is c k.inside k.is) (rows_of t) (omega arith))

  pub from_arm : (i l c n : ℕ) → i < rows_of t → row t i ≡ Arm l c n → n ≢ 0 → chain_from {A = A} t i ≡ arm l (tree_from t c) (chain_from t n)
  unfolding chain_from
  from_arm i l c n h e z =
      let (_, k, j) = arm_link t i l c n (rw e at (o.links i h)) in
      ⊎_elim
      (λ q. absurd (z q))
      (λ m.
      sym (at_more t i l c n (tree_from t c) (chain_from t n) h e k m (tree_is c k.inside k.is) (chain_is n m.inside m.is)
      (rows_of t) (omega arith)))
      j
