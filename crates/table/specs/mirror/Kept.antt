-- What the rules of the table give its tree, each as a family over the tree: no Back leaves it, nothing is in flight, exchanges are between
-- two roles and have arms of different labels, roles and labels are in range, each Back is guarded. Assumes nothing.
use Rattle.std.specs.Prelude.{ℕ, suc, ◌≤◌, ◌<◌, ◌≢◌}
use Rattle.table.specs.Tree.{Global, end, exchange, flight, loop, back, Arms, nil, arm}

mutual
  -- every back is to a loop inside, or to one of d around
  pub data Inside {A : Type 0} : ℕ → Global A → Type 0 where
    i_end : {d : ℕ} → Inside d end
    i_exchange : {d p q : ℕ} {cs : Arms A} → InsideArms d cs → Inside d (exchange p q cs)
    i_flight : {d p q l : ℕ} {v : A} {G : Global A} → Inside d G → Inside d (flight p q l v G)
    i_loop : {d : ℕ} {G : Global A} → Inside (suc d) G → Inside d (loop G)
    i_back : {d k : ℕ} → k < d → Inside d (back k)

  pub data InsideArms {A : Type 0} : ℕ → Arms A → Type 0 where
    i_nil : {d : ℕ} → InsideArms d nil
    i_arm : {d l : ℕ} {G : Global A} {cs : Arms A} → Inside d G → InsideArms d cs → InsideArms d (arm l G cs)

mutual
  -- nothing is in flight
  pub data Static {A : Type 0} : Global A → Type 0 where
    t_end : Static end
    t_exchange : {p q : ℕ} {cs : Arms A} → StaticArms cs → Static (exchange p q cs)
    t_loop : {G : Global A} → Static G → Static (loop G)
    t_back : {k : ℕ} → Static (back k)

  pub data StaticArms {A : Type 0} : Arms A → Type 0 where
    t_nil : StaticArms nil
    t_arm : {l : ℕ} {G : Global A} {cs : Arms A} → Static G → StaticArms cs → StaticArms (arm l G cs)

-- one of these arms has the label l
pub data HasLabel {A : Type 0} : ℕ → Arms A → Type 0 where
  has_here : {l : ℕ} {G : Global A} {cs : Arms A} → HasLabel l (arm l G cs)
  has_there : {l k : ℕ} {G : Global A} {cs : Arms A} → HasLabel l cs → HasLabel l (arm k G cs)

mutual
  -- each exchange is between two roles and has an arm, and no label stands twice in it
  pub data Good {A : Type 0} : Global A → Type 0 where
    g_end : Good end
    g_exchange : {p q : ℕ} {cs : Arms A} → p ≢ q → cs ≢ nil → GoodArms cs → Good (exchange p q cs)
    g_flight : {p q l : ℕ} {v : A} {G : Global A} → Good G → Good (flight p q l v G)
    g_loop : {G : Global A} → Good G → Good (loop G)
    g_back : {k : ℕ} → Good (back k)

  pub data GoodArms {A : Type 0} : Arms A → Type 0 where
    g_nil : GoodArms nil
    g_arm : {l : ℕ} {G : Global A} {cs : Arms A} → ¬ HasLabel l cs → Good G → GoodArms cs → GoodArms (arm l G cs)

mutual
  -- every sender and receiver is one of so many roles, and every label one of so many labels
  pub data Ranged {A : Type 0} (roles labels : ℕ) : Global A → Type 0 where
    r_end : Ranged roles labels end
    r_exchange : {p q : ℕ} {cs : Arms A} → p < roles → q < roles → RangedArms roles labels cs → Ranged roles labels (exchange p q cs)
    r_flight : {p q l : ℕ} {v : A} {G : Global A}
        → p < roles → q < roles → l < labels → Ranged roles labels G → Ranged roles labels (flight p q l v G)
    r_loop : {G : Global A} → Ranged roles labels G → Ranged roles labels (loop G)
    r_back : {k : ℕ} → Ranged roles labels (back k)

  pub data RangedArms {A : Type 0} (roles labels : ℕ) : Arms A → Type 0 where
    r_nil : RangedArms roles labels nil
    r_arm : {l : ℕ} {G : Global A} {cs : Arms A}
        → l < labels → Ranged roles labels G → RangedArms roles labels cs → RangedArms roles labels (arm l G cs)

mutual
  -- of the loops around, the n innermost stand with no exchange before this tree: no back is to one of those
  pub data Guarded {A : Type 0} : ℕ → Global A → Type 0 where
    u_end : {n : ℕ} → Guarded n end
    u_exchange : {n p q : ℕ} {cs : Arms A} → GuardedArms cs → Guarded n (exchange p q cs)
    u_flight : {n p q l : ℕ} {v : A} {G : Global A} → Guarded 0 G → Guarded n (flight p q l v G)
    u_loop : {n : ℕ} {G : Global A} → Guarded (suc n) G → Guarded n (loop G)
    u_back : {n k : ℕ} → n ≤ k → Guarded n (back k)

  pub data GuardedArms {A : Type 0} : Arms A → Type 0 where
    u_nil : GuardedArms nil
    u_arm : {l : ℕ} {G : Global A} {cs : Arms A} → Guarded 0 G → GuardedArms cs → GuardedArms (arm l G cs)
