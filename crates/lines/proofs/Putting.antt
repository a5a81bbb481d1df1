-- Items copied at a place are those written over the old ones. It serves every type. Assumes nothing.
use Prim.Native.Nat.{ℕ, ◌+◌, ◌-◌, ◌≤◌, min}
use mathlib.Core.Bool.{Bool, true, false}
use mathlib.Core.List.{List, [], ◌++◌, append-nil, append_assoc}
use mathlib.Core.Path.{◌≡◌, refl, sym, ◌∙◌}
use native.Mathlib.Omega.{arith}
use lib.Dec.{ltb}
use borrow.Author.Tests.{ltb-true, ltb-false}
use borrow.Rule.Slice.PartMut.{put_mid}
use lib.ListN.{length, take, drop, drop_of_length-le}
use lib.Seq.{take_all, take_at, drop-drop}
use Rattle.std.proofs.lemmas.List.{take_min}
use Rattle.lines.specs.Over.{overlaid, behind}
use Rattle.lines.specs.Promises.{Puts}

-- from a place past the end nothing is written
pub none_put : {A : Type 0} (at : ℕ) (xs old : List A) → length old ≤ at → Puts at xs old at old
unfolding overlaid behind
none_put at xs old l =
    let e : length old - at ≡ 0 = omega arith in
    let h : length old ≤ at + length xs = omega arith in
    (omega arith, rw (take_all at old l, e, drop_of_length-le old h) (sym (append-nil (old ++ []) ∙ append-nil old)))

-- behind the last item that there is room for stands what stood there
behind_put : {A : Type 0} (at n m : ℕ) (old : List A) (t : Bool) → ltb m (length old - at) ≡ t → n ≡ min (length old - at) m → drop (at + n) old ≡ drop (at + m) old
behind_put at n m old true e f = let g : n ≡ m = omega (arith, ltb-true m (length old - at) e) in rw g
behind_put at n m old false e f =
    let g : length old ≤ at + n = omega (arith, ltb-false m (length old - at) e) in
    let h : length old ≤ at + m = omega (arith, ltb-false m (length old - at) e) in
    rw (drop_of_length-le old g, drop_of_length-le old h)

-- as many items as there is room for are written
pub some_put : {A : Type 0} (at n k : ℕ) (xs old new : List A) → at ≤ length old → n ≡ min (length old - at) (length xs) → k ≡ n → new ≡ take k xs
    → Puts at xs old (at + n) (put_mid at k old new)
unfolding overlaid behind
some_put at n k xs old new l e f g =
    let all : take n xs ≡ take (length old - at) xs = rw e (take_min (length old - at) xs) in
    (omega arith, rw (g, f, all, drop-drop n at old, behind_put at n (length xs) old (ltb (length xs) (length old - at)) refl e) (sym (append_assoc (take at old) (take (length old - at) xs) (drop (at + length xs) old))))

-- what was written at the start stands in front
pub over_front : {A : Type 0} (xs old : List A) → length xs ≤ length old → take (length xs) (overlaid 0 xs old) ≡ xs
unfolding overlaid
over_front xs old l =
    let all : length old - 0 ≡ length old = omega arith in
    let none : 0 + length xs ≡ length xs = omega arith in
    rw (all, none, take_all (length old) xs l) (take_at xs (drop (length xs) old) (length xs) refl)
