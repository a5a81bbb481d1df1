-- Document 01, 'The global table': the rows over a row, found by the row that names it, going up. Assumes nothing.
use Rattle.std.specs.Prelude.{ℕ, zero, suc, ◌+◌, Bool, false, cond, ◌&&◌, ◌||◌, List, [], ◌∷◌, ltb, eqb}
use Rattle.words.specs.Rows.{rows_of}
use Rattle.words.specs.Below.{lowest, sum, one}
use Rattle.table.specs.Rows.{Row, End, Exchange, Arm, Loop, Back, Other, row, is_loop, label, links}

-- how often i stands in a list
unfoldable pub times : ℕ → List ℕ → ℕ
times i [] = 0
times i (j ∷ js) = one (eqb i j) + times i js

-- how many links name row i
abbrev pub times_named : List ℕ → ℕ → ℕ
times_named t i = sum (λ p. times i (links (row t p))) (rows_of t)

-- the row that names row i: the lowest one with a link to it; the number of rows where none has
abbrev pub namer : List ℕ → ℕ → ℕ
namer t i = lowest (λ p. ltb 0 (times i (links (row t p)))) (rows_of t)

-- the rows over row i, nearest first, up to row 0; n bounds how many
unfoldable pub over : ℕ → List ℕ → ℕ → List ℕ
over zero t i = []
over (suc n) t zero = []
over (suc n) t (suc i) = let p = namer t (suc i) in p ∷ over n t p

abbrev pub above : List ℕ → ℕ → List ℕ
above t i = over (rows_of t) t i

-- p is the arm before i in i's chain
abbrev pub arm_before : Row → ℕ → Bool
arm_before (End a b c) i = false
arm_before (Exchange s r f) i = false
arm_before (Arm l c n) i = eqb n i
arm_before (Loop b x y) i = false
arm_before (Back d x y) i = false
arm_before Other i = false

-- the arms before row i in its chain, nearest first, of the rows ps over it
unfoldable pub chain_over : List ℕ → ℕ → List ℕ → List ℕ
chain_over t i [] = []
chain_over t i (p ∷ ps) = let more = p ∷ chain_over t p ps in cond (arm_before (row t p) i) more []

abbrev pub earlier_arms : List ℕ → ℕ → List ℕ
earlier_arms t i = chain_over t i (above t i)

-- one of these arms has the label l
unfoldable pub has_label : List ℕ → ℕ → List ℕ → Bool
has_label t l [] = false
has_label t l (p ∷ ps) = eqb (label (row t p)) l || has_label t l ps

-- how many of these rows are Loops
unfoldable pub loops : List ℕ → List ℕ → ℕ
loops t [] = 0
loops t (p ∷ ps) = one (is_loop (row t p)) + loops t ps

-- the first d + 1 of these rows are Loops: going up from a Back of depth d, only Loops are met until its own Loop. False where there
-- are fewer rows
unfoldable pub only_loops : List ℕ → ℕ → List ℕ → Bool
only_loops t d [] = false
only_loops t zero (p ∷ ps) = is_loop (row t p)
only_loops t (suc d) (p ∷ ps) = is_loop (row t p) && only_loops t d ps
