-- Bytes up to a newline, taken at once, are those bytes taken one by one. Assumes nothing.
use Prim.Native.Nat.{ℕ, zero, suc, ◌+◌, ◌-◌, ◌≤◌, ◌<◌, min}
use mathlib.Core.Bool.{Bool, true, false, cond, not}
use mathlib.Core.List.{List, [], ◌∷◌, ◌++◌, append_assoc, append-nil}
use mathlib.Core.Path.{◌≡◌, refl, sym, ◌∙◌, ap}
use native.Mathlib.Nat.{sub-zero}
use native.Mathlib.Omega.{arith}
use lib.Dec.{eqb, ltb}
use borrow.Author.Tests.{ltb-true, ltb-false}
use lib.ListN.{length, take, drop, length-append, length-take}
use lib.Seq.{take_all, take_at}
use Rattle.std.proofs.lemmas.List.{length-take-le}
use Rattle.std.specs.Prelude.{Option, Some, None, MatchOption}
use Rattle.lines.specs.Input.{longer, ended, begun}
use Rattle.lines.specs.Over.{overlaid, behind}
use Rattle.lines.specs.mirror.Runs.{lengthened, run}

-- ---- where the first newline stands

run_le : (bs : List ℕ) → run bs ≤ length bs
run_le [] = omega arith
run_le (b ∷ bs) = by (eqb b 10) (run_le bs)
  where
    by : (t : Bool) → run bs ≤ length bs → cond (not t) (1 + run bs) 0 ≤ suc (length bs)
    by true l = omega arith
    by false l = omega (arith, l)

pub found : (bs : List ℕ) (r : Option ℕ) → r ≡ cond (ltb (run bs) (length bs)) (Some (run bs)) None
    → MatchOption r (run bs ≡ length bs) (λ end. (end ≡ run bs) × (end < length bs))
found bs r e = rw e (by (ltb (run bs) (length bs)) refl)
  where
    by : (t : Bool) → ltb (run bs) (length bs) ≡ t → MatchOption (cond t (Some (run bs)) None) (run bs ≡ length bs) (λ end. (end ≡ run bs) × (end < length bs))
    by true f = (refl, ltb-true (run bs) (length bs) f)
    by false f = omega (arith, ltb-false (run bs) (length bs) f, run_le bs)

-- ---- the lines of bytes with a newline, and of bytes without

module _ (room : ℕ) (front : List ℕ) where
  abbrev Ends : List ℕ → List ℕ → Type 0
  Ends line bs = ended room front line bs ≡ lengthened room line (take (run bs) bs) ∷ ended room front front (drop (run bs + 1) bs)

  pub ended-run : (line bs : List ℕ) → run bs < length bs → Ends line bs
  unfolding ended lengthened
  ended-run line [] l = absurd (omega arith)
  ended-run line (b ∷ bs) l = by (eqb b 10) l (λ m. ended-run (longer room line b) bs m)
    where
      by : (t : Bool) → cond (not t) (1 + run bs) 0 < suc (length bs) → (run bs < length bs → Ends (longer room line b) bs)
          → cond t (line ∷ ended room front front bs) (ended room front (longer room line b) bs)
          ≡ lengthened room line (take (cond (not t) (1 + run bs) 0) (b ∷ bs)) ∷ ended room front front (drop (cond (not t) (1 + run bs) 0 + 1) (b ∷ bs))
      by true m more = refl
      by false m more =
          let one : 1 + run bs ≡ suc (run bs) = omega arith in
          let two : suc (run bs) + 1 ≡ suc (run bs + 1) = omega arith in
          rw (one, two) (more (omega (arith, m)))

  pub begun-run : (line bs : List ℕ) → run bs < length bs → begun room front line bs ≡ begun room front front (drop (run bs + 1) bs)
  unfolding begun
  begun-run line [] l = absurd (omega arith)
  begun-run line (b ∷ bs) l = by (eqb b 10) l (λ m. begun-run (longer room line b) bs m)
    where
      by : (t : Bool) → cond (not t) (1 + run bs) 0 < suc (length bs)
          → (run bs < length bs → begun room front (longer room line b) bs ≡ begun room front front (drop (run bs + 1) bs))
          → cond t (begun room front front bs) (begun room front (longer room line b) bs) ≡ begun room front front (drop (cond (not t) (1 + run bs) 0 + 1) (b ∷ bs))
      by true m more = refl
      by false m more =
          let one : 1 + run bs ≡ suc (run bs) = omega arith in
          let two : suc (run bs) + 1 ≡ suc (run bs + 1) = omega arith in
          rw (one, two) (more (omega (arith, m)))

  pub ended-none : (line bs : List ℕ) → run bs ≡ length bs → ended room front line bs ≡ []
  unfolding ended
  ended-none line [] e = refl
  ended-none line (b ∷ bs) e = by (eqb b 10) e (λ f. ended-none (longer room line b) bs f)
    where
      by : (t : Bool) → cond (not t) (1 + run bs) 0 ≡ suc (length bs) → (run bs ≡ length bs → ended room front (longer room line b) bs ≡ [])
          → cond t (line ∷ ended room front front bs) (ended room front (longer room line b) bs) ≡ []
      by true f more = absurd (omega (arith, f))
      by false f more = more (omega (arith, f))

  pub begun-none : (line bs : List ℕ) → run bs ≡ length bs → begun room front line bs ≡ lengthened room line bs
  unfolding begun lengthened
  begun-none line [] e = refl
  begun-none line (b ∷ bs) e = by (eqb b 10) e (λ f. begun-none (longer room line b) bs f)
    where
      by : (t : Bool) → cond (not t) (1 + run bs) 0 ≡ suc (length bs)
          → (run bs ≡ length bs → begun room front (longer room line b) bs ≡ lengthened room (longer room line b) bs)
          → cond t (begun room front front bs) (begun room front (longer room line b) bs) ≡ lengthened room (longer room line b) bs
      by true f more = absurd (omega (arith, f))
      by false f more = more (omega (arith, f))

-- ---- bytes taken at once

take_again : (n : ℕ) (xs ys : List ℕ) → take n (take n xs ++ ys) ≡ take n (xs ++ ys)
take_again zero xs ys = refl
take_again (suc n) [] ys = refl
take_again (suc n) (x ∷ xs) ys = ap (λ (zs : List ℕ). x ∷ zs) (take_again n xs ys)

lengthened_more : (room : ℕ) (line bs : List ℕ) → lengthened room (take room line) bs ≡ take room (line ++ bs)
unfolding lengthened
lengthened_more room line [] = rw (append-nil line)
lengthened_more room line (b ∷ bs) =
    ap (λ (l : List ℕ). lengthened room l bs) (take_again room line (b ∷ [])) ∙ lengthened_more room (line ++ (b ∷ [])) bs
    ∙ ap (take room) (append_assoc line (b ∷ []) bs)

pub lengthened_is : (room : ℕ) (line bs : List ℕ) → length line ≤ room → lengthened room line bs ≡ take room (line ++ bs)
lengthened_is room line bs l = let all : take room line ≡ line = take_all room line l in rw all at (lengthened_more room line bs)

-- ---- bytes put behind a line in its room

take_front : (n : ℕ) (xs ys : List ℕ) → length xs ≤ n → take n (xs ++ ys) ≡ xs ++ take (n - length xs) ys
take_front n [] ys l = rw (sub-zero n)
take_front zero (x ∷ xs) ys l = absurd (omega arith)
take_front (suc n) (x ∷ xs) ys l =
    let e : suc n - suc (length xs) ≡ n - length xs = omega arith in
    rw e (ap (λ (zs : List ℕ). x ∷ zs) (take_front n xs ys (omega arith)))

take_within : (n at : ℕ) (old zs : List ℕ) → n ≤ at → at ≤ length old → take n (take at old ++ zs) ≡ take n old
take_within zero at old zs l m = refl
take_within (suc n) zero old zs l m = absurd (omega arith)
take_within (suc n) (suc at) [] zs l m = absurd (omega arith)
take_within (suc n) (suc at) (x ∷ xs) zs l m = ap (λ (ys : List ℕ). x ∷ ys) (take_within n at xs zs (omega arith) (omega arith))

module _ (at : ℕ) (bs old : List ℕ) (low : at ≤ length old) where
  pub behind_low : (at ≤ behind at bs old) × (behind at bs old ≤ length old)
  unfolding behind
  behind_low = (omega arith, omega (arith, low))

  pub front_stays : (front : ℕ) → front ≤ at → take front (overlaid at bs old) ≡ take front old
  unfolding overlaid
  front_stays front l =
      let some : List ℕ = take (length old - at) bs in
      let rest : List ℕ = drop (at + length bs) old in
      ap (take front) (append_assoc (take at old) some rest) ∙ take_within front at old (some ++ rest) l low

  long : length (take at old) ≡ at
  long = length-take-le at old low

  -- all that the room holds
  abbrev full : List ℕ
  full = take at old ++ take (length old - at) bs

  length_full : length full ≡ at + min (length bs) (length old - at)
  length_full =
      let some = length-take (length old - at) bs in
      rw (length-append (take at old) (take (length old - at) bs), long, some) (omega arith)

  put_full : take (behind at bs old) (overlaid at bs old) ≡ full
  unfolding behind overlaid
  put_full = take_at full (drop (at + length bs) old) (at + min (length bs) (length old - at)) length_full

  lengthened_full : lengthened (length old) (take at old) bs ≡ full
  lengthened_full =
      lengthened_is (length old) (take at old) bs (omega (arith, long)) ∙ rw long at (take_front (length old) (take at old) bs (omega (arith, long)))

  pub line_extended : take (behind at bs old) (overlaid at bs old) ≡ lengthened (length old) (take at old) bs
  line_extended = put_full ∙ sym lengthened_full
