-- 'Rows are numbered in the order met: exchange, arm, continuation, next arm.' The rows of a protocol's tree, as the customer's paper has them in 'The global table'.
-- That the table so laid stands for the tree again is proofs/Standing.laid_stands. Assumes nothing.
use Rattle.std.specs.Prelude.{ℕ, suc, ◌+◌, List, [], ◌∷◌, ◌++◌, ◌≢◌}
use Rattle.table.specs.Tree.{Global, end, exchange, flight, loop, back, Arms, nil, arm, rows_in}

-- the rows of a tree whose first row is row n
unfoldable mutual
  unfolding rows_in

  pub laid : Global ℕ → ℕ → List ℕ
  laid end n = 0 ∷ 0 ∷ 0 ∷ 0 ∷ []
  laid (exchange p q cs) n = 1 ∷ p ∷ q ∷ suc n ∷ laid_arms cs (suc n)
  -- a table has no row for an exchange in flight, and no text says one
  laid (flight p q l v G) n = 0 ∷ 0 ∷ 0 ∷ 0 ∷ laid G (suc n)
  laid (loop G) n = 3 ∷ suc n ∷ 0 ∷ 0 ∷ laid G (suc n)
  laid (back k) n = 4 ∷ k ∷ 0 ∷ 0 ∷ []

  -- the arms of a chain whose first arm is row n
  pub laid_arms : Arms ℕ → ℕ → List ℕ
  laid_arms nil n = []
  laid_arms (arm l G cs) n =
      let behind = suc n + rows_in G in
      2 ∷ l ∷ suc n ∷ arm_behind cs behind ∷ (laid G (suc n) ++ laid_arms cs behind)

  -- the row of the first of these arms, which stands at row n: 0 for none
  pub arm_behind : Arms ℕ → ℕ → ℕ
  arm_behind nil n = 0
  arm_behind (arm l G cs) n = n

-- The trees that a table can hold: every exchange has an arm, and nothing is in flight
mutual
  pub data Armed : Global ℕ → Type 0 where
    armed_end : Armed end
    armed_exchange : {p q : ℕ} {cs : Arms ℕ} → cs ≢ nil → ArmedArms cs → Armed (exchange p q cs)
    armed_loop : {G : Global ℕ} → Armed G → Armed (loop G)
    armed_back : {k : ℕ} → Armed (back k)

  pub data ArmedArms : Arms ℕ → Type 0 where
    armed_nil : ArmedArms nil
    armed_one : {l : ℕ} {G : Global ℕ} {cs : Arms ℕ} → Armed G → ArmedArms cs → ArmedArms (arm l G cs)
