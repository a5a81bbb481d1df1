-- Words that are read and made: each is the other's inverse, for the words that parts have. Assumes nothing.
use Prim.Native.Nat.{ℕ, zero, suc, ◌<◌, ◌%◌, ◌/◌}
use mathlib.Core.Path.{◌≡◌, refl, sym, ◌∙◌, ap}
use native.Mathlib.Omega.{arith}
use borrow.Author.Tests.{lt-ltb}
use Rattle.std.specs.Prelude.{Ok}
use Rattle.parts.specs.declared.Code.{Code}
use Rattle.parts.specs.declared.Code.TheVariants.{End, Mark, Arm, Loop, Back, Send, Receive, Other}
use Rattle.parts.specs.mirror.Codes.{code}
use Rattle.parts.specs.mirror.Kinds.{SMALL, kind_with, code_of, kind_of, argument_of, word_of, encoded}

-- what the word of a kind and an argument stands for
pub code_is : (k x : ℕ) → k < 8 → code_of (code k x) ≡ kind_with k x
code_is k x h =
    let e : code k x % 8 ≡ k = omega arith in
    let f : code k x / 8 ≡ x = omega arith in
    rw (e, f)

-- a word that is made is read back
pub read_back : (c : Code) → code_of (word_of c) ≡ c
read_back End = refl
read_back Mark = refl
read_back (Arm l) = code_is 2 l (omega arith)
read_back Loop = refl
read_back (Back k) = code_is 4 k (omega arith)
read_back (Send q) = code_is 5 q (omega arith)
read_back (Receive q) = code_is 6 q (omega arith)
read_back Other = refl

kind_is_lem : (k x : ℕ) → k < 8 → kind_of (kind_with k x) ≡ k
kind_is_lem zero x h = refl
kind_is_lem (suc zero) x h = refl
kind_is_lem (suc (suc zero)) x h = refl
kind_is_lem (suc (suc (suc zero))) x h = refl
kind_is_lem (suc (suc (suc (suc zero)))) x h = refl
kind_is_lem (suc (suc (suc (suc (suc zero))))) x h = refl
kind_is_lem (suc (suc (suc (suc (suc (suc zero)))))) x h = refl
kind_is_lem (suc (suc (suc (suc (suc (suc (suc zero))))))) x h = refl
kind_is_lem (suc (suc (suc (suc (suc (suc (suc (suc k)))))))) x h = absurd (omega arith)

-- the kind of what a word stands for
pub kind_is : (w : ℕ) → kind_of (code_of w) ≡ w % 8
kind_is w = kind_is_lem (w % 8) (w / 8) (omega arith)

-- a word that stands for an arm, and so for the other kinds with an argument
pub arm_is : (w l : ℕ) → code_of w ≡ Arm l → w ≡ code 2 l
arm_is w l e =
    let k : w % 8 ≡ 2 = sym (kind_is w) ∙ ap kind_of e in
    let x : w / 8 ≡ l = ap argument_of (rw k at e) in
    omega (arith, k, x)

pub small_is : (c : Code) → argument_of c < SMALL → encoded c ≡ Ok (word_of c)
small_is c h = rw (lt-ltb (argument_of c) SMALL h)
