-- The customer's paper, 'Parts: projection and merge': how a part is stored in rows of four words. Assumes nothing.
use Rattle.std.specs.Prelude.{ℕ, suc, ◌+◌, ◌-◌, List, [], ◌∷◌, ◌++◌, get_or, length, replicate}
use Rattle.std.proofs.Math.Option.{Option, none, some}
use Rattle.parts.specs.Part.{Part, p_end, p_send, p_receive, p_loop, p_back, PartArms, p_nil, p_arm}

-- how many rows a part has
unfoldable mutual
  pub size : Part → ℕ
  size p_end = 1
  size (p_send q ps) = suc (size_arms ps)
  size (p_receive q ps) = suc (size_arms ps)
  size (p_loop P) = suc (size P)
  size (p_back k) = 1

  pub size_arms : PartArms → ℕ
  size_arms p_nil = 0
  size_arms (p_arm l P ps) = suc (size P + size_arms ps)

abbrev pub four : ℕ → ℕ → ℕ → ℕ → List ℕ
four a b c d = a ∷ b ∷ c ∷ d ∷ []

-- the row of the next arm, which comes after the continuation; 0 for none
unfoldable pub next_arm : ℕ → PartArms → ℕ
next_arm i p_nil = 0
next_arm i (p_arm l P ps) = i

-- the words of a part whose first row is row i, in the order met: an action, its first arm, that arm's whole continuation, then
-- the next arm. around: the rows of the Loops around it, nearest first
unfoldable mutual
  unfolding size next_arm

  pub layout : ℕ → List ℕ → Part → List ℕ
  layout i around p_end = four 0 0 0 0
  layout i around (p_send q ps) = four 5 q (suc i) 0 ++ layout_arms (suc i) around ps
  layout i around (p_receive q ps) = four 6 q (suc i) 0 ++ layout_arms (suc i) around ps
  layout i around (p_loop P) = four 3 (suc i) 0 0 ++ layout (suc i) (i ∷ around) P
  layout i around (p_back k) = four 4 (get_or around k 0) 0 0

  pub layout_arms : ℕ → List ℕ → PartArms → List ℕ
  layout_arms i around p_nil = []
  layout_arms i around (p_arm l P ps) =
      four 2 l (suc i) (next_arm (suc i + size P) ps) ++ layout (suc i) around P ++ layout_arms (suc i + size P) around ps

-- a role's block of n words: its part from row 0 on, then zeros
unfoldable pub block : ℕ → Part → List ℕ
unfolding layout
block n P = let ws = layout 0 [] P in ws ++ replicate (n - length ws) 0

-- a role's block over the table t: as long as the table
unfoldable pub block_of : List ℕ → Option Part → List ℕ
unfolding block
block_of t none = []
block_of t (some P) = block (length t) P
