-- The customer's paper, 'Parts: projection and merge': the part of a role. Assumes nothing.
use Rattle.std.specs.Prelude.{ℕ, Bool, true, false, cond, ◌||◌, List, eqb}
use Rattle.std.proofs.Math.Option.{Option, none, some, bind}
use Rattle.table.specs.Tree.{Global, end, exchange, flight, loop, back, Arms, nil, arm, tree_of}
use Rattle.parts.specs.Part.{Part, p_end, p_send, p_receive, p_loop, p_back, PartArms, p_nil, p_arm, rising}
use Rattle.parts.specs.Absent.{takes_part, leaves}
use Rattle.parts.specs.Merge.{merge}

-- P merged with the parts of these arms, from the first arm on
unfoldable pub merge_from : Part → PartArms → Option Part
unfolding bind
merge_from P p_nil = some P
merge_from P (p_arm l Q qs) = bind (merge P Q) (λ M. merge_from M qs)

-- the merge of the arms' parts
unfoldable pub merge_all : PartArms → Option Part
unfolding merge_from
merge_all p_nil = none
merge_all (p_arm l P ps) = merge_from P ps

-- the part of role r in an exchange from p to q whose arms have the parts ps
unfoldable pub part_exchange : ℕ → ℕ → ℕ → PartArms → Option Part
unfolding rising merge_all
part_exchange r p q ps =
    cond (eqb r p) (some (p_send q (rising ps))) (cond (eqb r q) (some (p_receive p (rising ps))) (merge_all ps))

-- the part of role r
unfoldable mutual
  unfolding bind takes_part leaves part_exchange

  pub part : {A : Type 0} → ℕ → Global A → Option Part
  part r end = some p_end
  part r (exchange p q cs) = bind (part_arms r cs) (λ ps. part_exchange r p q ps)
  -- a table's tree has nothing in flight
  part r (flight p q l v G) = none
  part r (loop B) = cond (takes_part r B || leaves 1 B) (bind (part r B) (λ P. some (p_loop P))) (some p_end)
  part r (back k) = some (p_back k)

  -- the arms' parts, in the order of the chain
  pub part_arms : {A : Type 0} → ℕ → Arms A → Option PartArms
  part_arms r nil = some p_nil
  part_arms r (arm l G cs) = bind (part r G) (λ P. bind (part_arms r cs) (λ ps. some (p_arm l P ps)))

-- the part of role r in row 0. No payload stands in a table's tree, so any type of payloads gives the same part
unfoldable pub part_of : List ℕ → ℕ → Option Part
unfolding tree_of part
part_of t r = let tree : Global ℕ = tree_of t in part r tree

-- there is a part
abbrev pub present : Option Part → Bool
present none = false
present (some P) = true
