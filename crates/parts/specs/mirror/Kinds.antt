-- A word of a part as the code reads and makes it: its kind, with its argument where the kind has one. Assumes nothing.
use Rattle.std.specs.Prelude.{ℕ, zero, suc, ◌%◌, ◌/◌, cond, ltb, Result, Ok, Err}
use Rattle.parts.specs.mirror.Codes.{code}
use Rattle.parts.specs.declared.Code.{Code}
use Rattle.parts.specs.declared.Code.TheVariants.{End, Mark, Arm, Loop, Back, Send, Receive, Other}
use Rattle.parts.specs.declared.TooLarge.{TooLarge}

-- arguments of words are below this
abbrev pub SMALL : ℕ
SMALL = 8192

-- the kind k with the argument x
abbrev pub kind_with : ℕ → ℕ → Code
kind_with zero x = End
kind_with (suc zero) x = Mark
kind_with (suc (suc zero)) x = Arm x
kind_with (suc (suc (suc zero))) x = Loop
kind_with (suc (suc (suc (suc zero)))) x = Back x
kind_with (suc (suc (suc (suc (suc zero))))) x = Send x
kind_with (suc (suc (suc (suc (suc (suc zero)))))) x = Receive x
kind_with (suc (suc (suc (suc (suc (suc (suc k))))))) x = Other

-- what a word stands for
abbrev pub code_of : ℕ → Code
code_of w = kind_with (w % 8) (w / 8)

abbrev pub kind_of : Code → ℕ
kind_of End = 0
kind_of Mark = 1
kind_of (Arm l) = 2
kind_of Loop = 3
kind_of (Back k) = 4
kind_of (Send q) = 5
kind_of (Receive q) = 6
kind_of Other = 7

abbrev pub argument_of : Code → ℕ
argument_of End = 0
argument_of Mark = 0
argument_of (Arm l) = l
argument_of Loop = 0
argument_of (Back k) = k
argument_of (Send q) = q
argument_of (Receive q) = q
argument_of Other = 0

-- the word that stands for it, where its argument is small
abbrev pub word_of : Code → ℕ
word_of c = code (kind_of c) (argument_of c)

abbrev pub encoded : Code → Result ℕ TooLarge
encoded c = cond (ltb (argument_of c) SMALL) (Ok (word_of c)) (Err (record {}))
