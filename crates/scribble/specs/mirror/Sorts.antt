-- The sorts of the code, and the sorts of specs/Tokens that they stand for. Assumes nothing.
use Rattle.scribble.specs.declared.token.Sort.{Sort as Code}
use Rattle.scribble.specs.declared.token.Sort.TheVariants.{Name, Module, Global, Protocol, Role, Choice, At, Or, Rec, Continue, From, To, Open, Close, Left, Right, Comma, Semi, Dot, Other, End}
use Rattle.std.specs.Prelude.{ℕ, List}
use Rattle.scribble.specs.Tokens.{Sort, Reserved, a_name, module_word, global_word, protocol_word, role_word, choice_word, at_word, or_word, rec_word, continue_word, from_word, to_word, open_mark, close_mark, left_mark, right_mark, comma_mark, semi_mark, dot_mark, other_byte, end_of_text}

-- what a sort of the code stands for; that no two stand for one is proofs/Sorts.sort_meant-injective
abbrev pub sort_meant : Code → Sort
sort_meant Name = a_name
sort_meant Module = module_word
sort_meant Global = global_word
sort_meant Protocol = protocol_word
sort_meant Role = role_word
sort_meant Choice = choice_word
sort_meant At = at_word
sort_meant Or = or_word
sort_meant Rec = rec_word
sort_meant Continue = continue_word
sort_meant From = from_word
sort_meant To = to_word
sort_meant Open = open_mark
sort_meant Close = close_mark
sort_meant Left = left_mark
sort_meant Right = right_mark
sort_meant Comma = comma_mark
sort_meant Semi = semi_mark
sort_meant Dot = dot_mark
sort_meant Other = other_byte
sort_meant End = end_of_text

-- an entry of the code's table of keywords
abbrev pub reserved_as : List ℕ → Code → Reserved
reserved_as word sort = record { spelling = word; reserved_as = sort_meant sort }
