-- How bytes are cut into lines: a newline ends a line, each line stands behind a front, and a line is kept as far as its room goes.
-- Assumes nothing.
use Rattle.std.specs.Prelude.{ℕ, ◌-◌, ◌^◌, ◌<◌, cond, List, [], ◌∷◌, ◌++◌, eqb, length, take, Option, Result, Ok, IfSome, ⊤}
use Rattle.std.specs.Borrow.{Bor}
use Rattle.std.specs.Fn.{Mut, CalledAt}
use Rattle.std.specs.List.{FoldsTo}

-- a line with one byte more
abbrev pub longer : ℕ → List ℕ → ℕ → List ℕ
longer room line b = take room (line ++ (b ∷ []))

-- the lines that end among these bytes, where the first of them is begun
unfoldable pub ended : ℕ → List ℕ → List ℕ → List ℕ → List (List ℕ)
ended room front line [] = []
ended room front line (b ∷ bs) = cond (eqb b 10) (line ∷ ended room front front bs) (ended room front (longer room line b) bs)

-- the line that is begun behind them
unfoldable pub begun : ℕ → List ℕ → List ℕ → List ℕ → List ℕ
begun room front line [] = line
begun room front line (b ∷ bs) = cond (eqb b 10) (begun room front front bs) (begun room front (longer room line b) bs)

-- each of the lines was taken, one behind another: `took` says what one line makes of what answers them
abbrev pub Taken : {S : Type 0} → (S → List ℕ → S → Type 0) → S → List (List ℕ) → S → Type 0
Taken took s lines t = FoldsTo took s lines t

-- a closure was called at each of the lines, one behind another, and refused none
abbrev pub Answered : {F E : Type 0} → Mut F (Bor (List ℕ) × Unit {0}) (Result ⊤ E) → F → List (List ℕ) → F → Type 0
Answered {F} {E} g f lines f' = FoldsTo (λ p x q. CalledAt g p x (Ok tt) q) f lines f'

-- the lines of an input whose first line is begun: those that end, and the last one if it has a byte behind its front
unfoldable pub lines_of : ℕ → List ℕ → List ℕ → List ℕ → List (List ℕ)
lines_of room front line bs =
    let last = begun room front line bs in
    ended room front line bs ++ cond (eqb (length last) (length front)) [] (last ∷ [])

-- where the bytes of an input are known, and no more than are counted in 64 bits, each of its lines was taken
abbrev pub AllTaken : {S : Type 0} → (S → List ℕ → S → Type 0) → ℕ → List ℕ → List ℕ → S → Option (List ℕ) → S → Type 0
AllTaken took room front line s known t = IfSome known (λ bs. length bs < 2 ^ 64 - 1 → Taken took s (lines_of room front line bs) t)

-- where the bytes of an input are known, and no more than are counted in 64 bits, each of its lines is answered
abbrev pub AllAnswered : {F E : Type 0} → Mut F (Bor (List ℕ) × Unit {0}) (Result ⊤ E) → ℕ → List ℕ → List ℕ → F → Option (List ℕ) → Type 0
AllAnswered {F} {E} g room front line f known = IfSome known (λ bs. length bs < 2 ^ 64 - 1 → (last : F) × Answered g f (lines_of room front line bs) last)
