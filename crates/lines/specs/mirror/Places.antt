-- How the reader goes from byte to byte. What comes of it is what a line means (proofs/Reading.antt). Assumes nothing.
use Rattle.std.specs.Prelude.{ℕ, ◌+◌, ◌-◌, ◌*◌, ◌^◌, Bool, true, false, cond, ◌&&◌, List, [], ◌∷◌, ltb, eqb}
use Rattle.lines.specs.Line.{is_digit}
use Rattle.lines.specs.declared.read.Place.{Place}
use Rattle.lines.specs.declared.read.Place.TheVariants.{Letter, Blank, Number, Wrong}

-- one digit more behind the digits of n
unfoldable pub digit_of : ℕ → ℕ → Place
digit_of n b = cond (is_digit b && ltb (n * 10 + (b - 48)) (2 ^ 32)) (Number (n * 10 + (b - 48))) Wrong

unfoldable pub step_of : Place → ℕ → Place
step_of Letter b = cond (eqb b 32) Blank Wrong
step_of Blank b = digit_of 0 b
step_of (Number n) b = cond (eqb b 32) Blank (digit_of n b)
step_of Wrong b = Wrong

-- the number that ends at a blank, if there is one
unfoldable pub ended_of : Place → ℕ → List ℕ
ended_of Letter b = []
ended_of Blank b = []
ended_of (Number n) b = cond (eqb b 32) (n ∷ []) []
ended_of Wrong b = []

-- a line may end here
abbrev pub whole_of : Place → Bool
whole_of Letter = true
whole_of Blank = false
whole_of (Number n) = true
whole_of Wrong = false
