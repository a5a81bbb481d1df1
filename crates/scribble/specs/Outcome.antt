-- What comes back for a text. No reader is named here: the tokens make a text of the grammar, or a first one stands where no text of the grammar goes on.
-- That every text has an answer, and one only, is proofs/Answering.antt and proofs/Single.antt. Assumes nothing.
use Rattle.std.specs.Prelude.{ℕ, true, false, cond, List, [], ◌∷◌, ◌++◌, ◌≡◌, ltb, length, drop}
use Rattle.table.specs.Limits.{Limits}
use Rattle.table.specs.Numbers.{ACCEPTED, ROOM}
use Rattle.scribble.specs.Tokens.{Token, start, tokens_of, line_of}
use Rattle.scribble.specs.Grammar.{SyntaxTree, IsText}
use Rattle.scribble.specs.Meaning.{roles_of, table_of}
use Rattle.scribble.specs.Refusals.{TEXT, MANY, blame, faults_of, shown_before, Finding, faultless, faulty, deciding}

-- 'Read a text of at most 65,536 bytes'
abbrev pub longest_text : ℕ
longest_text = 65536

-- every token stands at this place
pub data AllAt (at : ℕ) : List Token → Type 0 where
  none_at : AllAt at []
  one_at : {w : Token} {ws : List Token} → start w ≡ at → AllAt at ws → AllAt at (w ∷ ws)

-- the tokens are read as this syntax tree, and this is found
pub data ReadAs (lim : Limits) : List Token → SyntaxTree → Finding → Type 0 where
  -- they make a text of the grammar: its deciding fault, if it has one
  whole : {ws : List Token} {t : SyntaxTree} → IsText ws t → ReadAs lim ws t (deciding (faults_of lim t))
  -- 20 TEXT: no text of the grammar goes on with the token w. 'After a TEXT fault nothing later is judged; an earlier fault wins': the tokens before w begin some
  -- text t, all of whose further tokens stand at w's place, and of t's faults those count that are shown before w
  cut : {ws : List Token} {t : SyntaxTree} (before rest more : List Token) (w : Token)
      → ws ≡ before ++ (w ∷ rest)
      → IsText (before ++ more) t → AllAt (start w) more
      → ((after : List Token) (u : SyntaxTree) → IsText (before ++ (w ∷ after)) u → ⊥)
      → ReadAs lim ws t (deciding (blame (start w) TEXT (start w) ∷ shown_before (start w) (faults_of lim t)))

-- what comes back: the number, the line, and 'accepted, it gives roles and words'
pub record TextOutcome : Type 0 where
  pub number : ℕ
  pub line : ℕ
  pub roles : ℕ
  pub words : List ℕ

abbrev pub text_outcome : ℕ → ℕ → ℕ → List ℕ → TextOutcome
text_outcome n l r ws = record { number = n; line = l; roles = r; words = ws }

abbrev pub refused_text : ℕ → ℕ → TextOutcome
refused_text n l = text_outcome n l 0 []

abbrev pub accepted_text : ℕ → List ℕ → TextOutcome
accepted_text roles words = text_outcome ACCEPTED 0 roles words

-- a fault with its line; 'last 3, line 0, when the room is shorter than the table'
abbrev pub outcome_of : List ℕ → ℕ → SyntaxTree → Finding → TextOutcome
outcome_of text room t (faulty at num) = refused_text num (line_of text at)
outcome_of text room t faultless = cond (ltb room (length (table_of t))) (refused_text ROOM 0) (accepted_text (length (roles_of t)) (table_of t))

-- what comes back for a text, with a room of so many words
pub data ReadsTo (lim : Limits) (text : List ℕ) (room : ℕ) : TextOutcome → Type 0 where
  -- '24 MANY at line 1 for a longer text, before all else'
  text_too_long : ltb longest_text (length text) ≡ true → ReadsTo lim text room (refused_text MANY 1)
  read : {t : SyntaxTree} {j : Finding} → ltb longest_text (length text) ≡ false → ReadAs lim (tokens_of text) t j → ReadsTo lim text room (outcome_of text room t j)

-- the room afterwards: the table's words, 'and the rest of the room stays'. 'A refusal writes nothing', since it has no words
unfoldable pub room_after : TextOutcome → List ℕ → List ℕ
room_after a room = a.words ++ drop (length a.words) room
