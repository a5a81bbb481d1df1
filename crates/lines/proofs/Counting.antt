-- What `numbers` stores and answers, from what it has read. Assumes nothing.
use Prim.Native.Nat.{ℕ, suc, ◌+◌, ◌≤◌, ◌<◌}
use mathlib.Core.Bool.{Bool, true, false, cond}
use mathlib.Core.List.{List, [], ◌∷◌, append-nil}
use mathlib.Core.Path.{◌≡◌, refl, ◌∙◌, ap}
use native.Mathlib.Numerals.{add-one}
use native.Mathlib.Omega.{arith}
use lib.Dec.{leb, eqb}
use borrow.Author.Tests.{le-leb, lt-leb}
use lib.ListN.{length, get_or, drop, drop_of_length-le}
use lib.Seq.{drop-cons}
use Rattle.std.proofs.Common.{Option, None}
use Rattle.std.specs.Bool.{then_some}
use Rattle.lines.specs.declared.read.Place.{Place}
use Rattle.lines.specs.declared.read.Place.TheVariants.{Letter}
use Rattle.lines.specs.Line.{part, parts, is_empty, is_number, values, value, well_formed, numbers_of, count_of}
use Rattle.lines.specs.Over.{overlaid, behind}
use Rattle.lines.specs.mirror.Places.{step_of, ended_of, whole_of}
use Rattle.lines.proofs.Reading.{to_store, last, read_line}
use Rattle.lines.proofs.Stores.{Same, written, all_written, nothing}

-- what is left to store of the bytes behind the letter, from byte i of them on, comes to the same as all of it, and so does where the
-- reader ends
pub record Left (bs : List ℕ) (old : List ℕ) (out : List ℕ) (at : ℕ) (place : Place) (i : ℕ) : Type 0 where
  pub stores : Same out at (to_store place (drop i bs)) old 0 (to_store Letter bs)
  pub ends : last place (drop i bs) ≡ last Letter bs

pub begun : (bs old : List ℕ) → Left bs old old 0 Letter 0
begun bs old = record { stores = record { list = refl; place = refl }; ends = refl }

-- one byte more
pub read_on : (bs old out out' : List ℕ) (at at' : ℕ) (p p' : Place) (i : ℕ) → i < length bs
    → at' ≡ behind at (ended_of p (get_or bs i 0)) out → out' ≡ overlaid at (ended_of p (get_or bs i 0)) out → p' ≡ step_of p (get_or bs i 0)
    → Left bs old out at p i → Left bs old out' at' p' (i + 1)
unfolding to_store last
read_on bs old out out' at at' p p' i l e f g left =
    let here = rw (drop-cons bs i 0 l) at left.stores in
    let one = written at at' (ended_of p (get_or bs i 0)) (to_store p' (drop (suc i) bs)) out out' e f in
    rw (add-one i) record {
      stores = record { list = one.list ∙ (rw g here.list); place = one.place ∙ (rw g here.place) };
      ends = rw g (rw (drop-cons bs i 0 l) at left.ends);
    }

few : (t : Bool) (v : ℕ) (vs : List ℕ) (n : ℕ) → length vs ≤ n → length (cond t (v ∷ vs) []) ≤ suc n
few true v vs n l = omega arith
few false v vs n l = omega arith

fewer : (t : Bool) (q : List ℕ) (qs : List (List ℕ)) (n : ℕ) → length qs ≤ n → length (cond t (q ∷ qs) qs) ≤ suc n
fewer true q qs n l = omega arith
fewer false q qs n l = omega arith

few_behind : (t : Bool) (vs : List ℕ) (n : ℕ) → length vs ≤ n → length (cond t vs []) ≤ suc n
few_behind true vs n l = omega arith
few_behind false vs n l = omega arith

few_values : (ps : List (List ℕ)) → length (values ps) ≤ length ps
unfolding values
few_values [] = omega arith
few_values (p ∷ ps) = few (is_number p) (value p) (values ps) (length ps) (few_values ps)

few_parts : (bs : List ℕ) → length (parts bs) ≤ length bs
unfolding parts
few_parts [] = omega arith
few_parts (b ∷ bs) = fewer (eqb b 32) (part bs) (parts bs) (length bs) (few_parts bs)

pub few_numbers : (line : List ℕ) → length (numbers_of line) ≤ length line
unfolding numbers_of
few_numbers [] = omega arith
few_numbers (letter ∷ bs) = few_behind (is_empty (part bs)) (values (parts bs)) (length bs) (omega (arith, few_values (parts bs), few_parts bs))

-- what is read behind the letter is what the line means
means : (letter : ℕ) (bs : List ℕ)
    → (to_store Letter bs ≡ numbers_of (letter ∷ bs)) × (whole_of (last Letter bs) ≡ well_formed (letter ∷ bs))
unfolding numbers_of well_formed
means letter bs = read_line bs

-- at the line's end its last number is stored
pub line_read : (letter : ℕ) (bs old out out' : List ℕ) (at at' : ℕ) (p : Place) (i : ℕ) → length bs ≤ i → suc (length bs) ≤ length old
    → at' ≡ behind at (ended_of p 32) out → out' ≡ overlaid at (ended_of p 32) out → Left bs old out at p i
    → (at' ≡ length (numbers_of (letter ∷ bs))) × (out' ≡ overlaid 0 (numbers_of (letter ∷ bs)) old) × (whole_of p ≡ well_formed (letter ∷ bs))
unfolding to_store last behind
line_read letter bs old out out' at at' p i l room e f left =
    let here = rw (drop_of_length-le bs l) at left.stores in
    let one = written at at' (ended_of p 32) [] out out' e f in
    let plain = append-nil (ended_of p 32) in
    let all = all_written 0 at' (to_store Letter bs) out' old record {
      list = one.list ∙ rw plain here.list;
      place = one.place ∙ rw plain here.place;
    } in
    let are = (means letter bs).0 in
    let place = rw are at all.0 in (
      omega (arith, place, few_numbers (letter ∷ bs)),
      rw are at all.1,
      ap whole_of (rw (drop_of_length-le bs l) at left.ends) ∙ (means letter bs).1,
    )

-- what `numbers` promises
abbrev Read : List ℕ → List ℕ → Option ℕ → List ℕ → Type 0
Read line old r out = (r ≡ count_of line (length old)) × (out ≡ cond (leb (length line) (length old)) (overlaid 0 (numbers_of line) old) old)

pub no_letter : (line old : List ℕ) → length line ≡ 0 → Read line old None old
unfolding count_of numbers_of well_formed
no_letter [] old e = rw (le-leb 0 (length old) (omega arith)) (refl, (nothing 0 old).1)
no_letter (b ∷ bs) old e = absurd (omega arith)

pub too_long : (line old : List ℕ) → length old < length line → Read line old None old
unfolding count_of
too_long line old l = rw (lt-leb (length line) (length old) l) (refl, refl)

line_answered : (line old out : List ℕ) (at : ℕ) (w : Bool) → length line ≤ length old → w ≡ well_formed line
    → at ≡ length (numbers_of line) → out ≡ overlaid 0 (numbers_of line) old → Read line old (then_some w at) out
unfolding count_of
line_answered line old out at true l w e f = rw (le-leb (length line) (length old) l, ← w, e) (refl, f)
line_answered line old out at false l w e f = rw (le-leb (length line) (length old) l, ← w) (refl, f)

-- at the line's end its last number is stored, and what is answered says whether the line may end here
pub line_done : (line bs old out out' : List ℕ) (letter at at' i : ℕ) (p : Place) (w : Bool) (r : Option ℕ) → line ≡ letter ∷ bs → length line ≤ length old → length bs ≤ i
    → at' ≡ behind at (ended_of p 32) out → out' ≡ overlaid at (ended_of p 32) out → Left bs old out at p i → w ≡ whole_of p → r ≡ then_some w at'
    → Read line old r out'
line_done line bs old out out' letter at at' i p w r e room l f g left h k =
    let fits : suc (length bs) ≤ length old = rw e at room in
    let read = line_read letter bs old out out' at at' p i l fits f g left in
    rw (e, k) (line_answered (letter ∷ bs) old out' at' w fits (h ∙ read.2) read.0 read.1)
