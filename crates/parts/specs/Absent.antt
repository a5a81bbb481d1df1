-- The customer's paper, 'Parts: projection and merge': who takes part below a Loop, and whether a Back below it leaves it. Assumes nothing.
use Rattle.std.specs.Prelude.{ℕ, suc, Bool, false, ◌||◌, eqb, leb}
use Rattle.table.specs.Tree.{Global, end, exchange, flight, loop, back, Arms, nil, arm}

-- role r is in an exchange of the tree
unfoldable mutual
  pub takes_part : {A : Type 0} → ℕ → Global A → Bool
  takes_part r end = false
  takes_part r (exchange p q cs) = eqb r p || eqb r q || takes_part_arms r cs
  takes_part r (flight p q l v G) = eqb r p || eqb r q || takes_part r G
  takes_part r (loop B) = takes_part r B
  takes_part r (back k) = false

  pub takes_part_arms : {A : Type 0} → ℕ → Arms A → Bool
  takes_part_arms r nil = false
  takes_part_arms r (arm l G cs) = takes_part r G || takes_part_arms r cs

-- a Back of the tree belongs to a Loop that is neither in the tree nor one of the d nearest around it
unfoldable mutual
  pub leaves : {A : Type 0} → ℕ → Global A → Bool
  leaves d end = false
  leaves d (exchange p q cs) = leaves_arms d cs
  leaves d (flight p q l v G) = leaves d G
  leaves d (loop B) = leaves (suc d) B
  leaves d (back k) = leb d k

  pub leaves_arms : {A : Type 0} → ℕ → Arms A → Bool
  leaves_arms d nil = false
  leaves_arms d (arm l G cs) = leaves d G || leaves_arms d cs
