-- What a row that was read says, and the words that it was read from. Assumes nothing.
use Rattle.std.specs.Prelude.{ℕ, List, [], ◌∷◌}
use Rattle.table.specs.Rows.{Row, End, Exchange, Arm, Loop, Back, Other}
use Rattle.table.specs.declared.row.Row as declared
use Rattle.table.specs.declared.row.Row.TheVariants as read

abbrev pub said : declared.Row → Row
said (read.End a b c) = End a b c
said (read.Exchange sender receiver arms) = Exchange sender receiver arms
said (read.Arm label then next) = Arm label then next
said (read.Loop body a b) = Loop body a b
said (read.Back depth a b) = Back depth a b
said (read.Other kind a b c) = Other

-- its four words
abbrev pub four_of : declared.Row → List ℕ
four_of (read.End a b c) = 0 ∷ a ∷ b ∷ c ∷ []
four_of (read.Exchange sender receiver arms) = 1 ∷ sender ∷ receiver ∷ arms ∷ []
four_of (read.Arm label then next) = 2 ∷ label ∷ then ∷ next ∷ []
four_of (read.Loop body a b) = 3 ∷ body ∷ a ∷ b ∷ []
four_of (read.Back depth a b) = 4 ∷ depth ∷ a ∷ b ∷ []
four_of (read.Other kind a b c) = kind ∷ a ∷ b ∷ c ∷ []
