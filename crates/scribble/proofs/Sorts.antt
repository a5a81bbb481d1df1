-- Sorts of tokens are told apart by their numbers. Assumes nothing.
use Prim.Native.Nat.{ℕ}
use mathlib.Core.Bool.{true}
use mathlib.Core.List.{[], ◌∷◌}
use mathlib.Core.Path.{◌≡◌, refl, ap, sym, ◌∙◌}
use lib.ListN.{get_or}
use borrow.Author.Tests.{eqb-true}
use Rattle.scribble.specs.declared.token.Sort.{Sort as Code}
use Rattle.scribble.specs.declared.token.Sort.TheVariants.{Name, Module, Global, Protocol, Role, Choice, At, Or, Rec, Continue, From, To, Open, Close, Left, Right, Comma, Semi, Dot, Other, End}
use Rattle.scribble.specs.mirror.Sorts.{sort_meant}
use Rattle.scribble.specs.Tokens.{Sort, sort_number, same_sort, a_name, module_word, global_word, protocol_word, role_word, choice_word, at_word, or_word, rec_word, continue_word, from_word, to_word, open_mark, close_mark, left_mark, right_mark, comma_mark, semi_mark, dot_mark, other_byte, end_of_text}

-- the sort of a number
sort_at : ℕ → Sort
sort_at n =
    get_or (a_name ∷ module_word ∷ global_word ∷ protocol_word ∷ role_word ∷ choice_word ∷ at_word ∷ or_word ∷ rec_word ∷ continue_word ∷ from_word ∷ to_word
    ∷ open_mark ∷ close_mark ∷ left_mark ∷ right_mark ∷ comma_mark ∷ semi_mark ∷ dot_mark ∷ other_byte ∷ []) n end_of_text

sort_again : (k : Sort) → sort_at (sort_number k) ≡ k
unfolding sort_at
sort_again a_name = refl
sort_again module_word = refl
sort_again global_word = refl
sort_again protocol_word = refl
sort_again role_word = refl
sort_again choice_word = refl
sort_again at_word = refl
sort_again or_word = refl
sort_again rec_word = refl
sort_again continue_word = refl
sort_again from_word = refl
sort_again to_word = refl
sort_again open_mark = refl
sort_again close_mark = refl
sort_again left_mark = refl
sort_again right_mark = refl
sort_again comma_mark = refl
sort_again semi_mark = refl
sort_again dot_mark = refl
sort_again other_byte = refl
sort_again end_of_text = refl

pub same_sort_lem : (a b : Sort) → same_sort a b ≡ true → a ≡ b
same_sort_lem a b e = sym (sort_again a) ∙ (ap sort_at (eqb-true (sort_number a) (sort_number b) e) ∙ sort_again b)

-- the code's sort of a sort
code_of : Sort → Code
code_of a_name = Name
code_of module_word = Module
code_of global_word = Global
code_of protocol_word = Protocol
code_of role_word = Role
code_of choice_word = Choice
code_of at_word = At
code_of or_word = Or
code_of rec_word = Rec
code_of continue_word = Continue
code_of from_word = From
code_of to_word = To
code_of open_mark = Open
code_of close_mark = Close
code_of left_mark = Left
code_of right_mark = Right
code_of comma_mark = Comma
code_of semi_mark = Semi
code_of dot_mark = Dot
code_of other_byte = Other
code_of end_of_text = End

code_again : (k : Code) → code_of (sort_meant k) ≡ k
unfolding code_of
code_again Name = refl
code_again Module = refl
code_again Global = refl
code_again Protocol = refl
code_again Role = refl
code_again Choice = refl
code_again At = refl
code_again Or = refl
code_again Rec = refl
code_again Continue = refl
code_again From = refl
code_again To = refl
code_again Open = refl
code_again Close = refl
code_again Left = refl
code_again Right = refl
code_again Comma = refl
code_again Semi = refl
code_again Dot = refl
code_again Other = refl
code_again End = refl

-- THEOREM: no two sorts of the code stand for one sort, so what `token::next` promises says which sort it answers
pub sort_meant-injective : (a b : Code) → sort_number (sort_meant a) ≡ sort_number (sort_meant b) → a ≡ b
sort_meant-injective a b e = sym (code_again a) ∙ (ap code_of (sym (sort_again (sort_meant a)) ∙ (ap sort_at e ∙ sort_again (sort_meant b))) ∙ code_again b)
