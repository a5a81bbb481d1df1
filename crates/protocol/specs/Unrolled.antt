-- The step rules of the global protocol: a loop's body with each of its backs replaced by the loop. Assumes nothing.
use Rattle.std.specs.Prelude.{ℕ, zero, suc, List, [], ◌∷◌}
use Rattle.table.specs.Tree.{Global, end, exchange, flight, loop, back, Arms, nil, arm}

-- the k-th of these trees, or g where they are fewer
unfoldable pub nth : {A : Type 0} → ℕ → List (Global A) → Global A → Global A
nth k [] g = g
nth zero (h ∷ σ) g = h
nth (suc k) (h ∷ σ) g = nth k σ g

-- what stands for a back of depth k, d Loops inside those that the trees σ stand for: the tree of number k - d, or `stays` where the
-- back belongs to one of the d Loops or to one further out
unfoldable pub back_to : {A : Type 0} → ℕ → ℕ → List (Global A) → Global A → Global A
unfolding nth
back_to zero k σ stays = nth k σ stays
back_to (suc d) zero σ stays = stays
back_to (suc d) (suc k) σ stays = back_to d k σ stays

-- a tree, d Loops inside those that σ stands for, with their backs replaced. σ's trees are closed, so nothing in them moves
unfoldable mutual
  unfolding back_to

  pub close : {A : Type 0} → Global A → ℕ → List (Global A) → Global A
  close end d σ = end
  close (exchange p q cs) d σ = exchange p q (close_arms cs d σ)
  close (flight p q l v G) d σ = flight p q l v (close G d σ)
  close (loop B) d σ = loop (close B (suc d) σ)
  close (back k) d σ = back_to d k σ (back k)

  pub close_arms : {A : Type 0} → Arms A → ℕ → List (Global A) → Arms A
  close_arms nil d σ = nil
  close_arms (arm l G cs) d σ = arm l (close G d σ) (close_arms cs d σ)

-- the body of a loop with each of its backs replaced by the loop
unfoldable pub unrolled : {A : Type 0} → Global A → Global A
unfolding close
unrolled B = close B 0 (loop B ∷ [])
