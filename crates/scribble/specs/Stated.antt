-- What is proved of reading a text, for any limits; the proof is proofs/Stated.reading_holds. Assumes nothing.
use Rattle.std.specs.Prelude.{ℕ, ◌≤◌, List, [], ◌≢◌, ◌≡◌, length}
use Rattle.table.specs.Limits.{Limits}
use Rattle.table.specs.Numbers.{ACCEPTED, ROOM}
use Rattle.table.specs.Tree.{tree_of}
use Rattle.scribble.specs.Tokens.{Token, tokens_of}
use Rattle.scribble.specs.Grammar.{SyntaxTree, IsText}
use Rattle.scribble.specs.Meaning.{roles_of, meant, table_of}
use Rattle.scribble.specs.Refusals.{TEXT, MANY, faults_of}
use Rattle.scribble.specs.Outcome.{longest_text, TextOutcome, accepted_text, ReadsTo, room_after}

-- what an accepted text is
pub record AcceptedText (lim : Limits) (text : List ℕ) (room : ℕ) (a : TextOutcome) : Type 0 where
  pub short : length text ≤ longest_text
  pub tree : SyntaxTree
  pub of_the_grammar : IsText (tokens_of text) tree
  pub no_fault : faults_of lim tree ≡ []
  pub fits : length (table_of tree) ≤ room
  pub gives : a ≡ accepted_text (length (roles_of tree)) (table_of tree)
  -- what the supplier wrote is what is checked: the table stands for the protocol that the text says
  pub stands_for : tree_of a.words ≡ meant tree

-- the numbers that come back
pub data TextNumber : ℕ → Type 0 where
  text_accepted : TextNumber ACCEPTED
  short_room : TextNumber ROOM
  faulty_text : {n : ℕ} → TEXT ≤ n → n ≤ MANY → TextNumber n

pub record ReadingHolds (lim : Limits) : Type 0 where
  -- 'The grammar is written on its own, its reading proved unique'
  pub one_tree : {ws : List Token} {t t' : SyntaxTree} → IsText ws t → IsText ws t' → t ≡ t'
  -- every text has an answer for every room, and one only
  pub some_outcome : (text : List ℕ) (room : ℕ) → (a : TextOutcome) × ReadsTo lim text room a
  pub one_outcome : (text : List ℕ) (room : ℕ) {a a' : TextOutcome} → ReadsTo lim text room a → ReadsTo lim text room a' → a ≡ a'
  pub numbers : (text : List ℕ) (room : ℕ) {a : TextOutcome} → ReadsTo lim text room a → TextNumber a.number
  -- a text is accepted exactly when it is short enough, of the grammar and without fault, and its table fits the room
  pub accepted : (text : List ℕ) (room : ℕ) {a : TextOutcome} → ReadsTo lim text room a → a.number ≡ ACCEPTED → AcceptedText lim text room a
  pub accepts : (text : List ℕ) (room : ℕ) (t : SyntaxTree) → length text ≤ longest_text → IsText (tokens_of text) t → faults_of lim t ≡ [] → length (table_of t) ≤ room
      → ReadsTo lim text room (accepted_text (length (roles_of t)) (table_of t))
  -- 'A refusal writes nothing'
  pub writes_nothing : (text : List ℕ) (room : List ℕ) {a : TextOutcome} → ReadsTo lim text (length room) a → a.number ≢ ACCEPTED → room_after a room ≡ room
