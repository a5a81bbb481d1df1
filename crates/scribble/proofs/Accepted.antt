-- A text is accepted exactly when it is one of the grammar without fault and its table fits the room; the table then stands for the protocol that the text says. Assumes nothing.
use Prim.Native.Nat.{ℕ, ◌≤◌}
use mathlib.Core.Bool.{Bool, true, false, cond}
use mathlib.Core.List.{List, []}
use mathlib.Core.Logic.{◌≢◌}
use mathlib.Core.Path.{◌≡◌, refl, sym, subst, ap, ◌∙◌}
use native.Mathlib.Omega.{arith}
use lib.Dec.{ltb}
use lib.ListN.{length}
use borrow.Author.Tests.{ltb-false, le-ltb}
use Rattle.table.specs.Limits.{Limits}
use Rattle.table.specs.Numbers.{ACCEPTED, ROOM}
use Rattle.table.specs.Tree.{tree_of}
use Rattle.scribble.specs.Tokens.{Token, tokens_of}
use Rattle.scribble.specs.Grammar.{SyntaxTree, IsText}
use Rattle.scribble.specs.Meaning.{roles_of, meant, table_of}
use Rattle.scribble.specs.Refusals.{MANY, faults_of, Finding, faultless, faulty, deciding, Fault}
use Rattle.scribble.specs.Outcome.{longest_text, ReadAs, whole, cut, TextOutcome, refused_text, accepted_text, outcome_of, ReadsTo, text_too_long, read, room_after}
use Rattle.scribble.specs.Stated.{AcceptedText, TextNumber, text_accepted, short_room, faulty_text}
use Rattle.scribble.proofs.Numbers.{InRange, found_number, some_fault, in_range}
use Rattle.scribble.proofs.Tabled.{deciding_none}
use Rattle.scribble.proofs.Standing.{stands}

-- the room test, by cases
fitted : (lim : Limits) (text : List ℕ) (room : ℕ) (t : SyntaxTree) → length text ≤ longest_text → IsText (tokens_of text) t → faults_of lim t ≡ []
    → tree_of (table_of t) ≡ meant t → (u : Bool) → ltb room (length (table_of t)) ≡ u
    → (cond u (refused_text ROOM 0) (accepted_text (length (roles_of t)) (table_of t))).number ≡ ACCEPTED
    → AcceptedText lim text room (cond u (refused_text ROOM 0) (accepted_text (length (roles_of t)) (table_of t)))
fitted lim text room t s h f e true w z = let v : ⊥ = omega arith in absurd v
fitted lim text room t s h f e false w z = record {
  short = s;
  tree = t;
  of_the_grammar = h;
  no_fault = f;
  fits = ltb-false room (length (table_of t)) w;
  gives = refl;
  stands_for = e;
}

module _ (lim : Limits) (text : List ℕ) (room : ℕ) where
  no_number : (n : ℕ) → InRange n → n ≡ ACCEPTED → ⊥
  no_number n r e = let k = in_range n r in omega arith

  -- found, and of number 0: then nothing was found
  read_accepted : {ws : List Token} {t : SyntaxTree} {j : Finding} → length text ≤ longest_text → tokens_of text ≡ ws → ReadAs lim ws t j
      → (k : Finding) → j ≡ k → (outcome_of text room t k).number ≡ ACCEPTED → AcceptedText lim text room (outcome_of text room t k)
  read_accepted {ws} {t} s q r (faulty at n) e z = absurd (no_number n (found_number (subst (λ (x : Finding). ReadAs lim ws t x) e r)) z)
  read_accepted s q (whole {t = t} h) faultless e z =
      fitted lim text room t s (subst (λ (ws : List Token). IsText ws t) (sym q) h) (deciding_none (faults_of lim t) e) (stands lim t e) (ltb room (length (table_of t))) refl z
  read_accepted s q (cut {t = t} before rest more w p h a dead) faultless e z = absurd (some_fault _ _ e)

  -- THEOREM: an answer of number 0 is that of a text of the grammar without faults, whose table fits the room and stands for the protocol that the text says
  pub accepted : {a : TextOutcome} → ReadsTo lim text room a → a.number ≡ ACCEPTED → AcceptedText lim text room a
  accepted (text_too_long e) z = let v : ⊥ = omega arith in absurd v
  accepted (read {j = j} e r) z = read_accepted (ltb-false longest_text (length text) e) refl r j refl z

  -- THEOREM: and every such text is accepted
  pub accepts : (t : SyntaxTree) → length text ≤ longest_text → IsText (tokens_of text) t → faults_of lim t ≡ [] → length (table_of t) ≤ room
      → ReadsTo lim text room (accepted_text (length (roles_of t)) (table_of t))
  unfolding deciding
  accepts t s h f l =
      subst (λ (a : TextOutcome). ReadsTo lim text room a)
      (ap (λ (fs : List Fault). outcome_of text room t (deciding fs)) f
      ∙ ap (λ (u : Bool). cond u (refused_text ROOM 0) (accepted_text (length (roles_of t)) (table_of t))) (le-ltb room (length (table_of t)) l))
      (read (le-ltb longest_text (length text) s) (whole h))

  found_numbers : {ws : List Token} {t : SyntaxTree} {j : Finding} → ReadAs lim ws t j → (k : Finding) → j ≡ k → TextNumber (outcome_of text room t k).number
  found_numbers {ws} {t} r (faulty at n) e = let k = in_range n (found_number (subst (λ (x : Finding). ReadAs lim ws t x) e r)) in faulty_text k.0 k.1
  found_numbers {t = t} r faultless e = by (ltb room (length (table_of t)))
    where
      by : (u : Bool) → TextNumber (cond u (refused_text ROOM 0) (accepted_text (length (roles_of t)) (table_of t))).number
      by true = short_room
      by false = text_accepted

  -- THEOREM: the number is 0, 3, or 20 to 24
  pub numbers : {a : TextOutcome} → ReadsTo lim text room a → TextNumber a.number
  numbers (text_too_long e) = faulty_text {n = MANY} (omega arith) (omega arith)
  numbers (read {j = j} e r) = found_numbers r j refl

-- a refusal has no words
no_words : (text : List ℕ) (room : ℕ) (t : SyntaxTree) (j : Finding) → (outcome_of text room t j).number ≢ ACCEPTED → (outcome_of text room t j).words ≡ []
no_words text room t (faulty at n) z = refl
no_words text room t faultless z = by (ltb room (length (table_of t))) z
  where
    by : (u : Bool) → (cond u (refused_text ROOM 0) (accepted_text (length (roles_of t)) (table_of t))).number ≢ ACCEPTED
        → (cond u (refused_text ROOM 0) (accepted_text (length (roles_of t)) (table_of t))).words ≡ []
    by true z = refl
    by false z = absurd (z refl)

-- THEOREM: a refusal writes nothing
pub writes_nothing : (lim : Limits) (text : List ℕ) (room : List ℕ) {a : TextOutcome} → ReadsTo lim text (length room) a → a.number ≢ ACCEPTED → room_after a room ≡ room
unfolding room_after
writes_nothing lim text room (text_too_long e) z = refl
writes_nothing lim text room (read {t = t} {j = j} e r) z = rw (no_words text (length room) t j z)
