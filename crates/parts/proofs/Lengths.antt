-- How long a part's rows and block are. Assumes nothing.
use Prim.Native.Nat.{ℕ, suc, ◌+◌, ◌*◌, ◌-◌, ◌<◌, ◌≤◌}
use mathlib.Core.List.{List, [], ◌∷◌}
use mathlib.Core.Path.{◌≡◌, refl}
use native.Mathlib.Omega.{arith}
use lib.ListN.{length, replicate, length-append, length-replicate}
use Rattle.parts.specs.Part.{Part, p_end, p_send, p_receive, p_loop, p_back, PartArms, p_nil, p_arm}
use Rattle.parts.specs.Layout.{size, size_arms, layout, layout_arms, block}

-- four words a row
mutual
  unfolding size layout

  pub length_layout : (P : Part) (i : ℕ) (around : List ℕ) → length (layout i around P) ≡ size P * 4
  length_layout p_end i around = refl
  length_layout (p_send q ps) i around = omega (arith, length_layout_arms ps (suc i) around)
  length_layout (p_receive q ps) i around = omega (arith, length_layout_arms ps (suc i) around)
  length_layout (p_loop P) i around = omega (arith, length_layout P (suc i) (i ∷ around))
  length_layout (p_back k) i around = refl

  pub length_layout_arms : (ps : PartArms) (i : ℕ) (around : List ℕ) → length (layout_arms i around ps) ≡ size_arms ps * 4
  length_layout_arms p_nil i around = refl
  length_layout_arms (p_arm l P ps) i around =
      omega
      (arith, length-append (layout (suc i) around P) (layout_arms (suc i + size P) around ps), length_layout P (suc i) around, length_layout_arms ps (suc i + size P) around)

-- a block has the length it is given
pub length_block : (n : ℕ) (P : Part) → size P * 4 ≤ n → length (block n P) ≡ n
unfolding block
length_block n P h =
    let ws = layout 0 [] P in
    omega (arith, length-append ws (replicate (n - length ws) 0), length-replicate {A = ℕ} (n - length ws) 0, length_layout P 0 [])

pub size_pos : (P : Part) → 0 < size P
unfolding size
size_pos p_end = omega arith
size_pos (p_send q ps) = omega arith
size_pos (p_receive q ps) = omega arith
size_pos (p_loop P) = omega arith
size_pos (p_back k) = omega arith
