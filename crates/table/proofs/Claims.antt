-- Small tables that a wrong check could miss, and what the definitions say of them: one computation. Assumes nothing.
use Prim.Native.Nat.{ℕ}
use mathlib.Core.List.{List, [], ◌∷◌, map}
use mathlib.Core.Path.{◌≡◌, refl}
use Rattle.words.specs.Below.{lowest, sum}
use Rattle.table.specs.Limits.{base}
use Rattle.table.specs.Above.{times, over, chain_over, has_label, loops, only_loops}
use Rattle.table.specs.Rules.{breaks}
use Rattle.table.specs.Check.{says, tested, check_of}

-- rows of four words
rows : List (ℕ × ℕ × ℕ × ℕ) → List ℕ
rows [] = []
rows (r ∷ rs) = r.0 ∷ r.1 ∷ r.2 ∷ r.3 ∷ rows rs

-- 8 names the lowest arm over all chains: the inner chain's arm in row 5, though the outer chain is met first and repeats in row 7
inner_chain : List ℕ
unfolding rows
inner_chain =
    rows
    ((1, 0, 1, 1)
    ∷ (2, 0, 2, 7)
    ∷ (1, 0, 1, 3)
    ∷ (2, 1, 4, 5)
    ∷ (0, 0, 0, 0)
    ∷ (2, 1, 6, 0)
    ∷ (0, 0, 0, 0)
    ∷ (2, 0, 8, 0)
    ∷ (0, 0, 0, 0)
    ∷ [])

-- a Back's depth is no field: one that is far too deep is 9, at the Back
deep_back : List ℕ
unfolding rows
deep_back = rows ((1, 0, 1, 1) ∷ (2, 5, 2, 0) ∷ (4, 65535, 0, 0) ∷ [])

-- 7 names the row that two links name, not one that names it
named_twice : List ℕ
unfolding rows
named_twice = rows ((1, 0, 1, 1) ∷ (2, 5, 3, 2) ∷ (2, 6, 3, 0) ∷ (0, 0, 0, 0) ∷ [])

-- a 9 comes before a 10, though the unguarded Back has the lower row
unbound_later : List ℕ
unfolding rows
unbound_later = rows ((1, 0, 1, 1) ∷ (2, 0, 2, 4) ∷ (3, 3, 0, 0) ∷ (4, 0, 0, 0) ∷ (2, 1, 5, 0) ∷ (4, 0, 0, 0) ∷ [])

claims : map (λ t. check_of base t 2) (inner_chain ∷ deep_back ∷ named_twice ∷ unbound_later ∷ []) ≡ says 8 5 ∷ says 9 2 ∷ says 7 3 ∷ says 9 5 ∷ []
unfolding inner_chain deep_back named_twice unbound_later check_of tested breaks lowest sum times over chain_over has_label loops only_loops
claims = refl
