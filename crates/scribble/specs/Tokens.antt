-- The words of a text. The customer says 'word' both of a text and of a table; here a word of a text is a token, and a word is one of a table's numbers.
-- As the customer's grammar is read: white space is free, `//` comments are skipped, names are letters, digits and `_` in any order, keywords are reserved. Assumes nothing.
use Rattle.std.specs.Prelude.{ℕ, zero, suc, ◌+◌, Bool, true, false, cond, ◌&&◌, ◌||◌, List, [], ◌∷◌, leb, eqb, length, take, drop}
use Prim.Native.Char.{Char}
use Rattle.scribble.specs.Ascii.{byte_of, ascii}

-- what a token is
pub data Sort : Type 0 where
  -- letters, digits and `_`, and no keyword
  a_name : Sort
  -- the keywords
  module_word global_word protocol_word role_word choice_word at_word or_word rec_word continue_word from_word to_word : Sort
  -- { } ( ) , ; .
  open_mark close_mark left_mark right_mark comma_mark semi_mark dot_mark : Sort
  -- any other byte: it stands in no text of the grammar. So `/*` begins with a faulty token
  other_byte : Sort
  -- behind the last byte: so a text that breaks off has a faulty token like any other
  end_of_text : Sort

-- sorts as numbers, so that two can be compared
abbrev pub sort_number : Sort → ℕ
sort_number a_name = 0
sort_number module_word = 1
sort_number global_word = 2
sort_number protocol_word = 3
sort_number role_word = 4
sort_number choice_word = 5
sort_number at_word = 6
sort_number or_word = 7
sort_number rec_word = 8
sort_number continue_word = 9
sort_number from_word = 10
sort_number to_word = 11
sort_number open_mark = 12
sort_number close_mark = 13
sort_number left_mark = 14
sort_number right_mark = 15
sort_number comma_mark = 16
sort_number semi_mark = 17
sort_number dot_mark = 18
sort_number other_byte = 19
sort_number end_of_text = 20

abbrev pub same_sort : Sort → Sort → Bool
same_sort a b = eqb (sort_number a) (sort_number b)

-- two names are written with the same bytes
unfoldable pub spelled_alike : List ℕ → List ℕ → Bool
spelled_alike [] [] = true
spelled_alike [] (c ∷ cs) = false
spelled_alike (b ∷ bs) [] = false
spelled_alike (b ∷ bs) (c ∷ cs) = eqb b c && spelled_alike bs cs

-- a token: its sort, the place of its first byte (0 for the first of the text), its bytes
pub data Token : Type 0 where
  token : Sort → ℕ → List ℕ → Token

abbrev pub sort : Token → Sort
sort (token k b s) = k

abbrev pub start : Token → ℕ
start (token k b s) = b

abbrev pub bytes : Token → List ℕ
bytes (token k b s) = s

-- white space: space, tab, carriage return, newline
unfoldable pub is_blank : ℕ → Bool
is_blank b = eqb b (byte_of " ") || eqb b (byte_of "\t") || eqb b (byte_of "\r") || eqb b (byte_of "\n")

abbrev pub from_to : Char → Char → ℕ → Bool
from_to low high b = leb (byte_of low) b && leb b (byte_of high)

-- a byte of a name: `0` to `9`, `A` to `Z`, `_`, `a` to `z`
unfoldable pub in_name : ℕ → Bool
in_name b = from_to "0" "9" b || from_to "A" "Z" b || eqb b (byte_of "_") || from_to "a" "z" b

-- the next byte is `/`
abbrev pub slash : List ℕ → Bool
slash [] = false
slash (b ∷ bs) = eqb b (byte_of "/")

-- how many bytes stand before the first token: white space, and comments from `//` to the end of the line
unfoldable mutual
  unfolding is_blank

  pub gap : List ℕ → ℕ
  gap [] = 0
  gap (b ∷ bs) =
      let blank = suc (gap bs) in
      let remark = suc (comment bs) in
      let other = cond (eqb b (byte_of "/") && slash bs) remark 0 in
      cond (is_blank b) blank other

  -- inside a comment
  pub comment : List ℕ → ℕ
  comment [] = 0
  comment (b ∷ bs) =
      let over = suc (gap bs) in
      let more = suc (comment bs) in
      cond (eqb b (byte_of "\n")) over more

-- how many bytes of a name stand at the front
unfoldable pub name_length : List ℕ → ℕ
unfolding in_name
name_length [] = 0
name_length (b ∷ bs) = let more = suc (name_length bs) in cond (in_name b) more 0

-- how many bytes the token at the front has: all bytes of a name or keyword, else one; 0 at the end of the text
unfoldable pub extent : List ℕ → ℕ
unfolding name_length in_name
extent [] = 0
extent (b ∷ bs) = let name = name_length (b ∷ bs) in cond (in_name b) name 1

-- keywords and marks: how each is written, and what it is
pub record Reserved : Type 0 where
  pub spelling : List ℕ
  pub reserved_as : Sort

abbrev reserve : List ℕ → Sort → Reserved
reserve s k = record { spelling = s; reserved_as = k }

unfoldable pub reserved_words : List Reserved
unfolding ascii
reserved_words =
    reserve (ascii "module") module_word ∷
    reserve (ascii "global") global_word ∷
    reserve (ascii "protocol") protocol_word ∷
    reserve (ascii "role") role_word ∷
    reserve (ascii "choice") choice_word ∷
    reserve (ascii "at") at_word ∷
    reserve (ascii "or") or_word ∷
    reserve (ascii "rec") rec_word ∷
    reserve (ascii "continue") continue_word ∷
    reserve (ascii "from") from_word ∷
    reserve (ascii "to") to_word ∷
    reserve (ascii "{") open_mark ∷
    reserve (ascii "}") close_mark ∷
    reserve (ascii "(") left_mark ∷
    reserve (ascii ")") right_mark ∷
    reserve (ascii ",") comma_mark ∷
    reserve (ascii ";") semi_mark ∷
    reserve (ascii ".") dot_mark ∷ []

-- the sort of the one that is spelled so, or else the other sort
unfoldable pub reserved_sort : List Reserved → Sort → List ℕ → Sort
unfolding spelled_alike
reserved_sort [] other s = other
reserved_sort (f ∷ fs) other s = let later = reserved_sort fs other s in cond (spelled_alike f.spelling s) f.reserved_as later

-- what these bytes are
unfoldable pub sort_of : List ℕ → Sort
unfolding reserved_sort reserved_words in_name
sort_of [] = end_of_text
sort_of (b ∷ bs) = reserved_sort reserved_words (cond (in_name b) a_name other_byte) (b ∷ bs)

-- the tokens of the bytes bs, which stand behind `at` bytes; n bounds how many
unfoldable pub tokens_from : ℕ → ℕ → List ℕ → List Token
unfolding gap extent sort_of
tokens_from zero at bs = []
tokens_from (suc n) at bs =
    let g = gap bs in
    let behind = drop g bs in
    let k = extent behind in
    let spelled = take k behind in
    let w = token (sort_of spelled) (at + g) spelled in
    let more = w ∷ tokens_from n (at + g + k) (drop k behind) in
    cond (eqb k 0) (w ∷ []) more

-- the tokens of a text; the last is its end. A text has no more tokens than bytes, beside its end
unfoldable pub tokens_of : List ℕ → List Token
unfolding tokens_from
tokens_of text = tokens_from (suc (length text)) 0 text

unfoldable pub newlines : List ℕ → ℕ
newlines [] = 0
newlines (b ∷ bs) = let later = newlines bs in cond (eqb b (byte_of "\n")) (suc later) later

-- the line of a place: one more than the newlines before it
unfoldable pub line_of : List ℕ → ℕ → ℕ
unfolding newlines
line_of text at = suc (newlines (take at text))
