-- The customer's paper, 'Parts: projection and merge', as it first stood: two sends merge only if they are the same type throughout. Kept for
-- the theorem that no table accepted before gets a different part. Assumes nothing.
use Rattle.std.specs.Prelude.{ℕ, cond, ◌||◌, List, ◌≡◌, eqb}
use Rattle.std.proofs.Math.Option.{Option, none, some, bind}
use Rattle.std.proofs.Math.Decide.{ℕ_discrete}
use Rattle.table.specs.Tree.{Global, end, exchange, flight, loop, back, Arms, nil, arm, tree_of}
use Rattle.parts.specs.Part.{Part, p_end, p_send, p_receive, p_loop, p_back, Part-discrete, PartArms, p_nil, p_arm, insert, rising, arm_of, without}
use Rattle.parts.specs.Absent.{takes_part, leaves}
use Rattle.parts.specs.Merge.{only_if, merge_shared}

-- two parts are the same type throughout
abbrev pub same : (P Q : Part) → Dec (P ≡ Q)
same P Q = Part-discrete ℕ_discrete P Q

unfoldable mutual
  unfolding bind only_if merge_shared insert arm_of without

  pub merge_before : Part → Part → Option Part
  -- end with end
  merge_before p_end p_end = some p_end
  merge_before p_end (p_send q qs) = none
  merge_before p_end (p_receive q qs) = none
  merge_before p_end (p_loop Q) = none
  merge_before p_end (p_back j) = none
  -- two sends: only if they are the same type throughout
  merge_before (p_send p ps) p_end = none
  merge_before (p_send p ps) (p_send q qs) = only_if (same (p_send p ps) (p_send q qs)) (some (p_send p ps))
  merge_before (p_send p ps) (p_receive q qs) = none
  merge_before (p_send p ps) (p_loop Q) = none
  merge_before (p_send p ps) (p_back j) = none
  -- two receives from the same role
  merge_before (p_receive p ps) p_end = none
  merge_before (p_receive p ps) (p_send q qs) = none
  merge_before (p_receive p ps) (p_receive q qs) = only_if (ℕ_discrete p q) (bind (merge_arms_before ps qs) (λ ms. some (p_receive p ms)))
  merge_before (p_receive p ps) (p_loop Q) = none
  merge_before (p_receive p ps) (p_back j) = none
  -- loop with loop, by merging bodies
  merge_before (p_loop P) p_end = none
  merge_before (p_loop P) (p_send q qs) = none
  merge_before (p_loop P) (p_receive q qs) = none
  merge_before (p_loop P) (p_loop Q) = bind (merge_before P Q) (λ M. some (p_loop M))
  merge_before (p_loop P) (p_back j) = none
  -- back with back of the same depth
  merge_before (p_back k) p_end = none
  merge_before (p_back k) (p_send q qs) = none
  merge_before (p_back k) (p_receive q qs) = none
  merge_before (p_back k) (p_loop Q) = none
  merge_before (p_back k) (p_back j) = only_if (ℕ_discrete k j) (some (p_back k))

  -- all labels of either, shared labels merged
  pub merge_arms_before : PartArms → PartArms → Option PartArms
  merge_arms_before p_nil qs = some qs
  merge_arms_before (p_arm l P ps) qs =
      bind (merge_shared (λ Q. merge_before P Q) P (arm_of l qs)) (λ M. bind (merge_arms_before ps (without l qs)) (λ ms. some (insert l M ms)))

-- ---- the parts that this gave

unfoldable pub merge_from_before : Part → PartArms → Option Part
unfolding bind
merge_from_before P p_nil = some P
merge_from_before P (p_arm l Q qs) = bind (merge_before P Q) (λ M. merge_from_before M qs)

unfoldable pub merge_all_before : PartArms → Option Part
unfolding merge_from_before
merge_all_before p_nil = none
merge_all_before (p_arm l P ps) = merge_from_before P ps

unfoldable pub part_exchange_before : ℕ → ℕ → ℕ → PartArms → Option Part
unfolding rising merge_all_before
part_exchange_before r p q ps =
    cond (eqb r p) (some (p_send q (rising ps))) (cond (eqb r q) (some (p_receive p (rising ps))) (merge_all_before ps))

unfoldable mutual
  unfolding bind takes_part leaves part_exchange_before

  pub part_before : {A : Type 0} → ℕ → Global A → Option Part
  part_before r end = some p_end
  part_before r (exchange p q cs) = bind (part_arms_before r cs) (λ ps. part_exchange_before r p q ps)
  part_before r (flight p q l v G) = none
  part_before r (loop B) = cond (takes_part r B || leaves 1 B) (bind (part_before r B) (λ P. some (p_loop P))) (some p_end)
  part_before r (back k) = some (p_back k)

  pub part_arms_before : {A : Type 0} → ℕ → Arms A → Option PartArms
  part_arms_before r nil = some p_nil
  part_arms_before r (arm l G cs) = bind (part_before r G) (λ P. bind (part_arms_before r cs) (λ ps. some (p_arm l P ps)))

unfoldable pub part_of_before : List ℕ → ℕ → Option Part
unfolding tree_of part_before
part_of_before t r = let tree : Global ℕ = tree_of t in part_before r tree
