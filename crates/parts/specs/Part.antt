-- The customer's paper, 'Parts: projection and merge': parts as trees. Assumes nothing.
use Rattle.std.specs.Prelude.{ℕ, cond, leb, eqb}
use Rattle.std.proofs.Math.Option.{Option, none, some}

mutual
  pub data Part : Type 0 where
    p_end : Part
    -- peer, arms
    p_send p_receive : ℕ → PartArms → Part
    p_loop : Part → Part
    -- depth, as a global Back's
    p_back : ℕ → Part
    deriving Discrete as Part-discrete

  -- the arms of an action
  pub data PartArms : Type 0 where
    p_nil : PartArms
    -- label, continuation, the arms after it
    p_arm : ℕ → Part → PartArms → PartArms

-- an arm put in its place: arms stand in rising label order
unfoldable pub insert : ℕ → Part → PartArms → PartArms
insert l P p_nil = p_arm l P p_nil
insert l P (p_arm k Q qs) = cond (leb l k) (p_arm l P (p_arm k Q qs)) (p_arm k Q (insert l P qs))

-- the same arms in rising label order
unfoldable pub rising : PartArms → PartArms
unfolding insert
rising p_nil = p_nil
rising (p_arm l P ps) = insert l P (rising ps)

-- the part of the arm with that label
unfoldable pub arm_of : ℕ → PartArms → Option Part
arm_of l p_nil = none
arm_of l (p_arm k Q qs) = cond (eqb l k) (some Q) (arm_of l qs)

-- the arms but the one with that label
unfoldable pub without : ℕ → PartArms → PartArms
without l p_nil = p_nil
without l (p_arm k Q qs) = cond (eqb l k) qs (p_arm k Q (without l qs))
