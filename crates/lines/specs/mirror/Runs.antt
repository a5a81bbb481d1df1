-- How bytes are taken up to a newline at once. What comes of it is how they are cut (proofs/Cutting.antt). Assumes nothing.
use Rattle.std.specs.Prelude.{ℕ, List, [], ◌∷◌, eqb}
use Rattle.std.specs.List.{position_or_len}
use Rattle.lines.specs.Input.{longer}

-- a line with these bytes more
unfoldable pub lengthened : ℕ → List ℕ → List ℕ → List ℕ
lengthened room line [] = line
lengthened room line (b ∷ bs) = lengthened room (longer room line b) bs

-- how many bytes stand before the first newline
abbrev pub run : List ℕ → ℕ
run bs = position_or_len (λ b. eqb b 10) bs
