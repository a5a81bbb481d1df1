-- Numbers stored one behind another are those written over the old ones. It serves every width. Assumes nothing.
use Prim.Native.Nat.{ℕ, suc, ◌+◌, ◌-◌, ◌≤◌, ◌<◌}
use mathlib.Core.Bool.{Bool, true, false}
use mathlib.Core.List.{List, [], ◌∷◌, ◌++◌, append-nil}
use mathlib.Core.Path.{◌≡◌, refl, sym, ◌∙◌}
use mathlib.Core.Logic.{◌⊎◌, inl, inr}
use native.Mathlib.Nat.{add-zero}
use native.Mathlib.Numerals.{add-one}
use native.Mathlib.Omega.{arith}
use lib.Dec.{ltb}
use borrow.Author.Tests.{ltb-true, ltb-false}
use lib.ListN.{length, get_or, set, take, drop, length-set, length-append, take-append-drop, drop_of_length-le}
use lib.Seq.{sets, length-sets, drop-cons, take-nil, take_all, take-suc-set, drop-set-lt, set_out, append_snoc}
use Rattle.lines.specs.Over.{overlaid, behind}
use Rattle.lines.specs.Promises.{Puts}

-- one store more
pub stored : (xs out : List ℕ) (p i : ℕ) → i < length xs
    → sets (set out p (get_or xs i 0)) (p + 1) (drop (i + 1) xs) ≡ sets out p (drop i xs)
stored xs out p i h = rw (add-one p, add-one i, drop-cons xs i 0 h)

abbrev Order : ℕ → ℕ → Type 0
Order a b = (a < b) ⊎ (b ≤ a)

decide : (a b : ℕ) (t : Bool) → ltb a b ≡ t → Order a b
decide a b true e = inl (ltb-true a b e)
decide a b false e = inr (ltb-false a b e)

-- nothing written
pub none_over : (at : ℕ) (old : List ℕ) → old ≡ overlaid at [] old
unfolding overlaid
none_over at old = rw (take-nil (length old - at), add-zero at, append-nil (take at old), take-append-drop at old)

-- one number written, where there is room and where there is none
one_over : (at x : ℕ) (xs old : List ℕ) → Order at (length old) → overlaid (suc at) xs (set old at x) ≡ overlaid at (x ∷ xs) old
unfolding overlaid
one_over at x xs old (inl l) =
    let e : length old - at ≡ suc (length old - suc at) = omega arith in
    let f : suc at + length xs ≡ at + suc (length xs) = omega arith in
    let g : at < suc at + length xs = omega arith in
    rw (length-set old at x, take-suc-set old at x l, drop-set-lt (suc at + length xs) old at x g, e, f, append_snoc (take at old) x (take (length old - suc at) xs))
one_over at x xs old (inr l) =
    let e : length old - at ≡ 0 = omega arith in
    let f : length old - suc at ≡ 0 = omega arith in
    let g : length old ≤ suc at = omega arith in
    let h : length old ≤ suc at + length xs = omega arith in
    let k : length old ≤ at + suc (length xs) = omega arith in
    rw (set_out old at x l, e, f, take_all at old l, take_all (suc at) old g, drop_of_length-le old h, drop_of_length-le old k)

-- the stores one behind another are what is written over
pub stores : (at : ℕ) (xs old : List ℕ) → sets old at xs ≡ overlaid at xs old
stores at [] old = none_over at old
stores at (x ∷ xs) old = stores (suc at) xs (set old at x) ∙ one_over at x xs old (decide at (length old) (ltb at (length old)) refl)

-- where there is no room, stores change nothing
no_room : (p : ℕ) (xs out : List ℕ) → length out ≤ p → sets out p xs ≡ out
no_room p [] out l = refl
no_room p (x ∷ xs) out l = rw (set_out out p x l) (no_room (suc p) xs out (omega arith))

rest : (xs out : List ℕ) (p i : ℕ) → (i < length xs → length out ≤ p) → Order i (length xs) → sets out p (drop i xs) ≡ out
rest xs out p i f (inl l) = no_room p (drop i xs) out (f l)
rest xs out p i f (inr l) = rw (drop_of_length-le xs l)

-- once all is stored or there is no more room, xs is written over the old ones
pub finished : (xs out old : List ℕ) (p i at : ℕ) → sets out p (drop i xs) ≡ sets old at xs → (i < length xs → length out ≤ p) → out ≡ overlaid at xs old
finished xs out old p i at e f = sym (rest xs out p i f (decide i (length xs) (ltb i (length xs)) refl)) ∙ (e ∙ stores at xs old)

-- from a place past the end nothing is written
pub past_end : (at : ℕ) (xs old : List ℕ) → length old ≤ at → old ≡ overlaid at xs old
past_end at xs old l = sym (no_room at xs old l) ∙ stores at xs old

pub length_over : (at : ℕ) (xs old : List ℕ) → length (overlaid at xs old) ≡ length old
length_over at xs old = rw (← (stores at xs old)) (length-sets old at xs)

-- ys to be written to out' from at' on comes to the same as xs to be written to out from at on
pub record Same (out' : List ℕ) (at' : ℕ) (ys : List ℕ) (out : List ℕ) (at : ℕ) (xs : List ℕ) : Type 0 where
  pub list : sets out' at' ys ≡ sets out at xs
  pub place : behind at' ys out' ≡ behind at xs out

pub start : (out : List ℕ) (at : ℕ) (xs : List ℕ) → Same out at xs out at xs
start out at xs = record { list = refl; place = refl }

pub then : {a b c d e f : List ℕ} {k m n : ℕ} → Same a k b c m d → Same c m d e n f → Same a k b e n f
then p q = record { list = p.list ∙ q.list; place = p.place ∙ q.place }

one_joined : (at x : ℕ) (xs ys out : List ℕ) → Order at (length out)
    → sets (sets (set out at x) (suc at) xs) (behind (suc at) xs (set out at x)) ys ≡ sets (sets out at (x ∷ xs)) (behind at (x ∷ xs) out) ys
unfolding behind
one_joined at x xs ys out (inl l) =
    let e : behind (suc at) xs (set out at x) ≡ behind at (x ∷ xs) out = rw (length-set out at x) (omega arith) in
    rw e
one_joined at x xs ys out (inr l) =
    let long : length (sets (set out at x) (suc at) xs) ≡ length out = length-sets (set out at x) (suc at) xs ∙ length-set out at x in
    no_room _ ys (sets (set out at x) (suc at) xs) (rw long (omega arith)) ∙ sym (no_room _ ys (sets (set out at x) (suc at) xs) (rw long (omega arith)))

joined : (at : ℕ) (xs ys out : List ℕ) → sets (sets out at xs) (behind at xs out) ys ≡ sets out at (xs ++ ys)
unfolding behind
joined at [] ys out =
    let e : behind at [] out ≡ at = omega arith in
    rw e
joined at (x ∷ xs) ys out = sym (one_joined at x xs ys out (decide at (length out) (ltb at (length out)) refl)) ∙ joined (suc at) xs ys (set out at x)

-- once xs is written, ys is left of both
pub written : (at at' : ℕ) (xs ys out out' : List ℕ) → at' ≡ behind at xs out → out' ≡ overlaid at xs out → Same out' at' ys out at (xs ++ ys)
unfolding behind
written at at' xs ys out out' e f =
    let long : length out' ≡ length out = rw f (length_over at xs out) in
    record {
      list = rw (e, f, ← (stores at xs out)) (joined at xs ys out);
      place = rw (long, e, length-append xs ys) (omega arith);
    }

-- one byte more is written
pub byte_written : (bs old : List ℕ) (at i place place' : ℕ) (out : List ℕ) {out' : List ℕ} → i < length bs → Puts place (get_or bs i 0 ∷ []) out place' out'
    → Same out place (drop i bs) old at bs → Same out' place' (drop (i + 1) bs) old at bs
byte_written bs old at i place place' out l p s =
    then (written place place' (get_or bs i 0 ∷ []) (drop (i + 1) bs) out _ p.0 p.1) (rw (drop-cons bs i 0 l, ← (add-one i)) at s)

-- nothing is left
pub all_written : (at at' : ℕ) (xs out old : List ℕ) → Same out at' [] old at xs → (at' ≡ behind at xs old) × (out ≡ overlaid at xs old)
unfolding behind
all_written at at' xs out old s = (omega (arith, s.place), s.list ∙ stores at xs old)

pub bytes_written : (bs old : List ℕ) (at i place : ℕ) (out : List ℕ) → length bs ≤ i → Same out place (drop i bs) old at bs → (place ≡ behind at bs old) × (out ≡ overlaid at bs old)
bytes_written bs old at i place out l s = all_written at place bs out old (rw (drop_of_length-le bs l) at s)

-- nothing to write
pub nothing : (at : ℕ) (old : List ℕ) → (at ≡ behind at [] old) × (old ≡ overlaid at [] old)
unfolding behind
nothing at old = (omega arith, none_over at old)
