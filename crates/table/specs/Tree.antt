-- The tree that a table stands for, and the running tree of a protocol: the same tree, some of whose exchanges are in flight.
-- A is the type of payloads. Assumes nothing.
use Rattle.std.specs.Prelude.{ℕ, zero, suc, ◌+◌, List}
use Rattle.words.specs.Rows.{rows_of}
use Rattle.table.specs.Rows.{Row, End, Exchange, Arm, Loop, Back, Other, row}

mutual
  pub data Global (A : Type 0) : Type 0 where
    end : Global A
    -- sender, receiver, arms: an exchange that is unsent
    exchange : ℕ → ℕ → Arms A → Global A
    -- sender, receiver, label, payload, chosen continuation: an exchange in flight
    flight : ℕ → ℕ → ℕ → A → Global A → Global A
    loop : Global A → Global A
    -- depth: 0 for the innermost Loop
    back : ℕ → Global A

  pub data Arms (A : Type 0) : Type 0 where
    nil : Arms A
    -- label, continuation, the arms after it
    arm : ℕ → Global A → Arms A → Arms A

-- a row's tree, given the trees and the chains of the rows that its links lead to; an Arm is no tree by itself
unfoldable pub grow_tree : {A : Type 0} → (ℕ → Global A) → (ℕ → Arms A) → Row → Global A
grow_tree tree chain (End a b c) = end
grow_tree tree chain (Exchange s r f) = exchange s r (chain f)
grow_tree tree chain (Arm l c n) = end
grow_tree tree chain (Loop b x y) = loop (tree b)
grow_tree tree chain (Back d x y) = back d
grow_tree tree chain Other = end

-- the arms from the next arm on: none for 0
unfoldable pub grow_next : {A : Type 0} → (ℕ → Arms A) → ℕ → Arms A
grow_next chain zero = nil
grow_next chain (suc n) = chain (suc n)

-- the arms of a chain, from a row that is an Arm on
unfoldable pub grow_arms : {A : Type 0} → (ℕ → Global A) → (ℕ → Arms A) → Row → Arms A
unfolding grow_next
grow_arms tree chain (End a b c) = nil
grow_arms tree chain (Exchange s r f) = nil
grow_arms tree chain (Arm l c n) = arm l (tree c) (grow_next chain n)
grow_arms tree chain (Loop b x y) = nil
grow_arms tree chain (Back d x y) = nil
grow_arms tree chain Other = nil

-- row i's tree, and the arms of the chain that starts at row i; n bounds how many links are followed
unfoldable mutual
  unfolding grow_tree grow_arms

  pub tree_at : {A : Type 0} → ℕ → List ℕ → ℕ → Global A
  tree_at zero t i = end
  tree_at (suc n) t i = grow_tree (λ j. tree_at n t j) (λ j. chain_at n t j) (row t i)

  pub chain_at : {A : Type 0} → ℕ → List ℕ → ℕ → Arms A
  chain_at zero t i = nil
  chain_at (suc n) t i = grow_arms (λ j. tree_at n t j) (λ j. chain_at n t j) (row t i)

-- links lead to higher rows, so no path has more links than the table has rows
unfoldable pub tree_of : {A : Type 0} → List ℕ → Global A
unfolding tree_at
tree_of t = tree_at (rows_of t) t 0

-- the rows of a tree: one for each end, exchange, arm, loop and back
unfoldable mutual
  pub rows_in : {A : Type 0} → Global A → ℕ
  rows_in end = 1
  rows_in (exchange p q cs) = suc (rows_in_arms cs)
  rows_in (flight p q l v G) = suc (rows_in G)
  rows_in (loop G) = suc (rows_in G)
  rows_in (back k) = 1

  pub rows_in_arms : {A : Type 0} → Arms A → ℕ
  rows_in_arms nil = 0
  rows_in_arms (arm l G cs) = suc (rows_in G + rows_in_arms cs)
