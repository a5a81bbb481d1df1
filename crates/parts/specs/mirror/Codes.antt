-- A part as the code works on it: one word a row in the order met, kind + 8 × argument, and the word 1 behind the last arm of an
-- action. A Back keeps its depth. Equal parts have equal words. Assumes nothing.
use Rattle.std.specs.Prelude.{ℕ, ◌+◌, ◌*◌, List, [], ◌∷◌, ◌++◌}
use Rattle.parts.specs.Part.{Part, p_end, p_send, p_receive, p_loop, p_back, PartArms, p_nil, p_arm}

-- the word of a kind and its argument: a peer, a label or a depth
abbrev pub code : ℕ → ℕ → ℕ
code kind x = kind + x * 8

unfoldable mutual
  pub codes : Part → List ℕ
  codes p_end = code 0 0 ∷ []
  codes (p_send q ps) = code 5 q ∷ codes_arms ps
  codes (p_receive q ps) = code 6 q ∷ codes_arms ps
  codes (p_loop P) = code 3 0 ∷ codes P
  codes (p_back k) = code 4 k ∷ []

  pub codes_arms : PartArms → List ℕ
  codes_arms p_nil = code 1 0 ∷ []
  codes_arms (p_arm l P ps) = code 2 l ∷ codes P ++ codes_arms ps
