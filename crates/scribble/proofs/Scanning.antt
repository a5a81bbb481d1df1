-- Names and gaps, byte by byte. Assumes nothing.
use Prim.Native.Nat.{ℕ, suc, ◌+◌, ◌≤◌, ◌<◌}
use mathlib.Core.Bool.{Bool, true, false, true≢false, cond, ◌&&◌, ◌||◌}
use mathlib.Core.List.{List, [], ◌∷◌}
use mathlib.Core.Path.{◌≡◌, refl, sym, ◌∙◌, ap}
use native.Mathlib.Numerals.{add-one}
use native.Mathlib.Omega.{arith}
use lib.Dec.{ltb, eqb}
use borrow.Author.Tests.{ltb-true, ltb-false}
use lib.ListN.{length, drop, get_or, get_or-eq_default, drop_of_length-le}
use lib.Seq.{drop-cons}
use Rattle.std.specs.List.{prefix_len}
use Rattle.scribble.specs.Tokens.{is_blank, in_name, name_length, gap, slash}
use Rattle.scribble.specs.mirror.Scan.{goes_on, in_comment, gap_left}

-- a byte that 0 does not stand for is inside
pub inside : (p : ℕ → Bool) (bs : List ℕ) (i : ℕ) → p 0 ≡ false → p (get_or bs i 0) ≡ true → i < length bs
inside p bs i none e = go (ltb i (length bs)) refl
  where
    go : (t : Bool) → ltb i (length bs) ≡ t → i < length bs
    go true l = ltb-true i (length bs) l
    go false l =
        absurd (true≢false (sym e ∙ (ap p (get_or-eq_default bs 0 (ltb-false i (length bs) l)) ∙ none)))

pub name_inside : (bs : List ℕ) (i : ℕ) → in_name (get_or bs i 0) ≡ true → i < length bs
name_inside bs i e = inside (λ b. in_name b) bs i (unfold in_name in refl) e

-- a name is the longest front of bytes of a name
pub name_length_front : (bs : List ℕ) → name_length bs ≡ prefix_len in_name bs
unfolding name_length
name_length_front [] = refl
name_length_front (b ∷ bs) = by (name_length_front bs) (in_name b)
  where
    by : name_length bs ≡ prefix_len in_name bs → (t : Bool) → cond t (suc (name_length bs)) 0 ≡ cond t (1 + prefix_len in_name bs) 0
    by e true = omega arith
    by e false = refl

-- a gap
pub goes_past : (r : Bool) (bs : List ℕ) (i : ℕ) → length bs ≤ i → goes_on r (drop i bs) ≡ false
unfolding goes_on
goes_past r bs i l = rw (drop_of_length-le bs l)

pub goes_inside : (r : Bool) (bs : List ℕ) (i : ℕ) → goes_on r (drop i bs) ≡ true → i < length bs
goes_inside r bs i e = go (ltb i (length bs)) refl
  where
    go : (t : Bool) → ltb i (length bs) ≡ t → i < length bs
    go true l = ltb-true i (length bs) l
    go false l =
        absurd (true≢false (sym e ∙ goes_past r bs i (ltb-false i (length bs) l)))

-- one byte more of a gap
gap_byte : (r t u : Bool) (b : ℕ) (bs : List ℕ) → eqb b 10 ≡ t → is_blank b ≡ u → goes_on r (b ∷ bs) ≡ true
    → gap_left r (b ∷ bs) ≡ suc (gap_left (in_comment r b) bs)
unfolding goes_on gap_left in_comment gap
gap_byte true true u b bs e f g = rw e
gap_byte true false u b bs e f g = rw e
gap_byte false t true b bs e f g = rw f
gap_byte false t false b bs e f g = rw (f, rw f at g)

gap_none : (r : Bool) (bs : List ℕ) → goes_on r bs ≡ false → gap_left r bs ≡ 0
unfolding goes_on gap_left gap
gap_none true [] e = refl
gap_none false [] e = refl
gap_none true (b ∷ bs) e = absurd (true≢false e)
gap_none false (b ∷ bs) e = go (is_blank b) refl e
  where
    go : (u : Bool) → is_blank b ≡ u → is_blank b || (eqb b 47 && slash bs) ≡ false → gap (b ∷ bs) ≡ 0
    go true f g = absurd (true≢false (rw f at g))
    go false f g = rw (f, rw f at g)

pub gap_more : (r : Bool) (bs : List ℕ) (i : ℕ) → goes_on r (drop i bs) ≡ true
    → i + gap_left r (drop i bs) ≡ (i + 1) + gap_left (in_comment r (get_or bs i 0)) (drop (i + 1) bs)
gap_more r bs i e =
    let l = goes_inside r bs i e in
    let d = drop-cons bs i 0 l in
    rw (d, gap_byte r (eqb (get_or bs i 0) 10) (is_blank (get_or bs i 0)) (get_or bs i 0) (drop (suc i) bs) refl refl (rw d at e), add-one i) (omega arith)

pub gap_over : (r : Bool) (bs : List ℕ) (i : ℕ) → goes_on r (drop i bs) ≡ false → i ≡ i + gap_left r (drop i bs)
gap_over r bs i e = rw (gap_none r (drop i bs) e) (omega arith)
