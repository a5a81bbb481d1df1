-- Arms in rising label order, throughout a part. Assumes nothing.
use Rattle.std.specs.Prelude.{ℕ, ◌<◌}
use Rattle.parts.specs.Part.{Part, p_end, p_send, p_receive, p_loop, p_back, PartArms, p_nil, p_arm}

-- R holds of every label
pub data Labels (R : ℕ → Type 0) : PartArms → Type 0 where
  no_label : Labels R p_nil
  label : {l : ℕ} {P : Part} {ps : PartArms} → R l → Labels R ps → Labels R (p_arm l P ps)

-- every label is above k
abbrev pub Above : ℕ → PartArms → Type 0
Above k ps = Labels (λ l. k < l) ps

mutual
  pub data Rising : Part → Type 0 where
    r_end : Rising p_end
    r_send : {q : ℕ} {ps : PartArms} → RisingArms ps → Rising (p_send q ps)
    r_receive : {q : ℕ} {ps : PartArms} → RisingArms ps → Rising (p_receive q ps)
    r_loop : {P : Part} → Rising P → Rising (p_loop P)
    r_back : {k : ℕ} → Rising (p_back k)

  pub data RisingArms : PartArms → Type 0 where
    r_nil : RisingArms p_nil
    r_arm : {l : ℕ} {P : Part} {ps : PartArms} → Above l ps → Rising P → RisingArms ps → RisingArms (p_arm l P ps)
