-- Rows of four words in a list of words. Assumes nothing.
use Rattle.std.specs.Prelude.{ℕ, ◌+◌, ◌*◌, ◌/◌, cond, List, [], ◌∷◌, ltb, get_or, length, set}

-- the k-th word of row i; 0 past the end
abbrev pub word : List ℕ → ℕ → ℕ → ℕ
word ws i k = get_or ws (i * 4 + k) 0

-- the four words of row i
abbrev pub row_words : List ℕ → ℕ → List ℕ
row_words ws i = word ws i 0 ∷ word ws i 1 ∷ word ws i 2 ∷ word ws i 3 ∷ []

-- how many rows the words make
abbrev pub rows_of : List ℕ → ℕ
rows_of ws = length ws / 4

-- the words with these four for row i, where that row is wholly inside
unfoldable pub put_row : List ℕ → ℕ → ℕ → ℕ → ℕ → ℕ → List ℕ
put_row ws i a b c d =
    cond (ltb i (rows_of ws)) (set (set (set (set ws (i * 4) a) (i * 4 + 1) b) (i * 4 + 2) c) (i * 4 + 3) d) ws
