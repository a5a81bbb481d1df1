-- Texts as they are typed, for the keywords and the examples. Assumes nothing.
use Rattle.std.specs.Prelude.{ℕ, List, [] as []ᴸ, ◌∷◌ as ◌∷ᴸ◌, ◌++◌}
use Prim.Native.Char.{Char, code}
use Prim.Native.String.{String, [], ◌∷◌}

-- the byte of an ASCII character
abbrev pub byte_of : Char → ℕ
byte_of c = code c

-- the bytes of a text of such characters
unfoldable pub ascii : String → List ℕ
ascii [] = []ᴸ
ascii (c ∷ s) = byte_of c ∷ᴸ ascii s

-- lines, a newline behind each
unfoldable pub ascii_lines : List String → List ℕ
unfolding ascii
ascii_lines []ᴸ = []ᴸ
ascii_lines (s ∷ᴸ ss) = ascii s ++ (byte_of "\n" ∷ᴸ ascii_lines ss)
