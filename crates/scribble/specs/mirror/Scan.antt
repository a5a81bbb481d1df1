-- How the scanner goes from byte to byte and from token to token. Assumes nothing.
use Rattle.std.specs.Prelude.{ℕ, ◌+◌, Bool, true, false, cond, not, ◌&&◌, ◌||◌, List, [], ◌∷◌, ◌≡◌, eqb, take, drop}
use Rattle.scribble.specs.Ascii.{byte_of}
use Rattle.scribble.specs.Tokens.{Sort, sort_number, a_name, open_mark, close_mark, left_mark, right_mark, comma_mark, semi_mark, dot_mark, other_byte, is_blank, slash, gap, comment, extent, reserved_words, reserved_sort, sort_of}

-- there is a byte of the gap at the front; r: in a comment
unfoldable pub goes_on : Bool → List ℕ → Bool
unfolding is_blank
goes_on r [] = false
goes_on r (b ∷ bs) = r || is_blank b || (eqb b (byte_of "/") && slash bs)

-- behind that byte in a comment
unfoldable pub in_comment : Bool → ℕ → Bool
unfolding is_blank
in_comment true b = not (eqb b (byte_of "\n"))
in_comment false b = not (is_blank b)

-- how many bytes of the gap are left
unfoldable pub gap_left : Bool → List ℕ → ℕ
unfolding gap
gap_left true bs = comment bs
gap_left false bs = gap bs

-- what a byte is that no name has
unfoldable pub mark_of : ℕ → Sort
mark_of b =
    cond (eqb (byte_of "{") b) open_mark
    (cond (eqb (byte_of "}") b) close_mark
    (cond (eqb (byte_of "(") b) left_mark
    (cond (eqb (byte_of ")") b) right_mark
    (cond (eqb (byte_of ",") b) comma_mark (cond (eqb (byte_of ";") b) semi_mark (cond (eqb (byte_of ".") b) dot_mark other_byte))))))

-- what a name is: the first eleven reserved words are the keywords
unfoldable pub keyword_of : List ℕ → Sort
unfolding reserved_sort reserved_words
keyword_of s = reserved_sort (take 11 reserved_words) a_name s

-- the first token at `at` or behind it
pub record IsNext (text : List ℕ) (at sort start end : ℕ) : Type 0 where
  pub starts : start ≡ at + gap (drop at text)
  pub ends : end ≡ start + extent (drop start text)
  pub sorted : sort ≡ sort_number (sort_of (take (extent (drop start text)) (drop start text)))
