-- Any two answers that meet a call's promise are equal, and so is what they leave of what was lent. Assumes nothing.
use Prim.Native.Nat.{ℕ, min}
use native.Mathlib.Omega.{arith}
use mathlib.Core.Bool.{Bool}
use mathlib.Core.List.{List}
use mathlib.Core.Path.{◌≡◌, refl, sym, ◌∙◌}
use Rattle.lines.specs.Promises.{Puts, Reads, Writes, Narrows, Copies, Least, Cuts}
use Rattle.std.proofs.Common.{Option}

-- numbers
pub one_read : (line old : List ℕ) (n m : Option ℕ) (xs ys : List ℕ) → Reads line old n xs → Reads line old m ys → (n ≡ m) × (xs ≡ ys)
one_read line old n m xs ys a b = (a.0 ∙ sym b.0, a.1 ∙ sym b.1)

-- text
pub one_text : (ns old : List ℕ) (n m : ℕ) (xs ys : List ℕ) → Writes ns old n xs → Writes ns old m ys → (n ≡ m) × (xs ≡ ys)
one_text ns old n m xs ys a b = (a.1 ∙ sym b.1, a.2 ∙ sym b.2)

-- narrow
pub one_narrowed : (bound : ℕ) (ns old : List ℕ) (f g : Bool) (xs ys : List ℕ)
    → Narrows bound ns old f xs → Narrows bound ns old g ys → (f ≡ g) × (xs ≡ ys)
one_narrowed bound ns old f g xs ys a b = (a.0 ∙ sym b.0, a.1 ∙ sym b.1)

-- wide
pub one_put : {A : Type 0} (at : ℕ) (zs old : List A) (n m : ℕ) (xs ys : List A) → Puts at zs old n xs → Puts at zs old m ys → (n ≡ m) × (xs ≡ ys)
one_put at zs old n m xs ys a b = (a.0 ∙ sym b.0, a.1 ∙ sym b.1)

-- copy
pub one_copy : (ns old xs ys : List ℕ) → Copies ns old xs → Copies ns old ys → xs ≡ ys
one_copy ns old xs ys e f = e ∙ sym f

-- what `min` of std answers
pub one_least : (a b n m : ℕ) → Least a b n → Least a b m → n ≡ m
one_least a b n m x y = x.2 ∙ sym y.2

-- and it meets that promise
pub least : (a b : ℕ) → Least a b (min a b)
least a b = (omega arith, omega arith, refl)

-- cut
pub one_cut : {A : Type 0} (xs : List A) (k n m : ℕ) → Cuts xs k n → Cuts xs k m → n ≡ m
one_cut xs k n m x y = x.2 ∙ sym y.2
