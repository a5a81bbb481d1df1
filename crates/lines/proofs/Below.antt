-- A list of numbers that are all below a bound, from its start on. Assumes nothing.
use Prim.Native.Nat.{ℕ, zero, suc, ◌+◌, ◌≤◌, ◌<◌}
use mathlib.Core.Bool.{Bool, true, false}
use mathlib.Core.List.{List, [], ◌∷◌}
use mathlib.Core.Path.{◌≡◌, refl, sym, ◌∙◌}
use native.Mathlib.Omega.{arith}
use lib.Dec.{leb, ltb}
use borrow.Author.Tests.{lt-ltb, le-ltb, ltb-true, le-leb, lt-leb, leb-true, leb-false}
use lib.ListN.{length, get_or}
use Rattle.std.specs.List.{list_all}
use Rattle.words.proofs.Below.{and_both}
use Rattle.lines.specs.Over.{overlaid, all_below, fits, narrowed}

-- none is wider than the widest, said by a fold: all are below the number behind that
one_at_most : (n widest : ℕ) (t : Bool) → leb n widest ≡ t → leb n widest ≡ ltb n (widest + 1)
one_at_most n widest true e = rw (e, lt-ltb n (widest + 1) (omega (arith, leb-true n widest e)))
one_at_most n widest false e = rw (e, le-ltb n (widest + 1) (omega (arith, leb-false n widest e)))

at_most : (widest : ℕ) (ns : List ℕ) → list_all (λ n. leb n widest) ns ≡ all_below (widest + 1) ns
unfolding all_below
at_most widest [] = refl
at_most widest (n ∷ ns) = rw (one_at_most n widest (leb n widest) refl, at_most widest ns)

-- what the test for that answered
pub all_of : (widest m : ℕ) (ns : List ℕ) (t : Bool) {r : Bool} → m ≡ widest → r ≡ list_all (λ n. leb n m) ns → r ≡ t → all_below (widest + 1) ns ≡ t
all_of widest m ns t e f g = sym (at_most widest ns) ∙ (rw (← e) (sym f ∙ g))

-- each of them is below the bound
pub each_below : (bound : ℕ) (ns : List ℕ) (i : ℕ) → all_below bound ns ≡ true → i < length ns → get_or ns i 0 < bound
unfolding all_below
each_below bound [] i e l = absurd (omega arith)
each_below bound (n ∷ ns) zero e l = ltb-true n bound (and_both (ltb n bound) (all_below bound ns) e).0
each_below bound (n ∷ ns) (suc i) e l = each_below bound ns i (and_both (ltb n bound) (all_below bound ns) e).1 (omega arith)

-- what `fits` and `narrowed` say of an answer and of what is left
abbrev Narrowed : ℕ → List ℕ → List ℕ → Bool → List ℕ → Type 0
Narrowed bound ns old r new = (r ≡ fits bound ns old) × (new ≡ narrowed bound ns old)

pub no_room : (bound : ℕ) (ns old : List ℕ) → length old < length ns → Narrowed bound ns old false old
unfolding fits narrowed
no_room bound ns old l = rw (lt-leb (length ns) (length old) l) (refl, refl)

pub too_wide : (bound : ℕ) (ns old : List ℕ) → length ns ≤ length old → all_below bound ns ≡ false → Narrowed bound ns old false old
unfolding fits narrowed
too_wide bound ns old l e = rw (le-leb (length ns) (length old) l, e) (refl, refl)

pub all_fit : (bound : ℕ) (ns old new : List ℕ) → length ns ≤ length old → all_below bound ns ≡ true → new ≡ overlaid 0 ns old → Narrowed bound ns old true new
unfolding fits narrowed
all_fit bound ns old new l e h = rw (le-leb (length ns) (length old) l, e) (refl, h)
