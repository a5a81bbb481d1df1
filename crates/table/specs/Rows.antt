-- Document 01, 'The global table': what a row's four words say. Assumes nothing.
use Rattle.std.specs.Prelude.{ℕ, zero, suc, Bool, true, false, List, [], ◌∷◌}
use Rattle.words.specs.Rows.{word}

-- the first word decides what the other three hold
pub data Row : Type 0 where
  -- three unused words
  End : ℕ → ℕ → ℕ → Row
  -- sender, receiver, first arm
  Exchange : ℕ → ℕ → ℕ → Row
  -- label, continuation, next arm (0 for none)
  Arm : ℕ → ℕ → ℕ → Row
  -- body, two unused words
  Loop : ℕ → ℕ → ℕ → Row
  -- depth, two unused words
  Back : ℕ → ℕ → ℕ → Row
  -- a kind above 4
  Other : Row

abbrev pub row_of : ℕ → ℕ → ℕ → ℕ → Row
row_of zero a b c = End a b c
row_of (suc zero) a b c = Exchange a b c
row_of (suc (suc zero)) a b c = Arm a b c
row_of (suc (suc (suc zero))) a b c = Loop a b c
row_of (suc (suc (suc (suc zero)))) a b c = Back a b c
row_of (suc (suc (suc (suc (suc k))))) a b c = Other

-- row i of a table
abbrev pub row : List ℕ → ℕ → Row
row t i = row_of (word t i 0) (word t i 1) (word t i 2) (word t i 3)

abbrev pub is_arm : Row → Bool
is_arm (End a b c) = false
is_arm (Exchange s r f) = false
is_arm (Arm l c n) = true
is_arm (Loop b x y) = false
is_arm (Back d x y) = false
is_arm Other = false

abbrev pub is_loop : Row → Bool
is_loop (End a b c) = false
is_loop (Exchange s r f) = false
is_loop (Arm l c n) = false
is_loop (Loop b x y) = true
is_loop (Back d x y) = false
is_loop Other = false

-- an Arm's label
abbrev pub label : Row → ℕ
label (End a b c) = 0
label (Exchange s r f) = 0
label (Arm l c n) = l
label (Loop b x y) = 0
label (Back d x y) = 0
label Other = 0

-- the next arm, where there is one
abbrev pub next : ℕ → List ℕ
next zero = []
next (suc n) = suc n ∷ []

-- the rows that a row's links lead to
abbrev pub links : Row → List ℕ
links (End a b c) = []
links (Exchange s r f) = f ∷ []
links (Arm l c n) = c ∷ next n
links (Loop b x y) = b ∷ []
links (Back d x y) = []
links Other = []
