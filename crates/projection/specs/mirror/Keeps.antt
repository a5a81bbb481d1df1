-- What is promised of the roles kept for each Loop. Assumes nothing.
use Rattle.std.specs.Prelude.{ℕ, ◌||◌, List, ◌≡◌, get_or}
use Rattle.words.specs.Below.{set_of}
use Rattle.table.specs.Limits.{base}
use Rattle.table.specs.Tree.{Global, loop}
use Rattle.parts.specs.Absent.{takes_part, leaves}
use Rattle.parts.specs.mirror.Grows.{Grows}

-- each Loop's place has the set of the roles whose part in it is a Loop
pub record Keeps (t kept : List ℕ) : Type 0 where
  pub keeps : (i : ℕ) (B : Global ℕ) → Grows t i (loop B) → get_or kept i 0 ≡ set_of (λ k. takes_part k B || leaves 1 B) base.roles
