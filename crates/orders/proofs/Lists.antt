-- Parts of lists of numbers, and a state read from its numbers. Assumes nothing.
use Prim.Native.Nat.{ℕ, suc, ◌+◌, ◌-◌, ◌^◌, ◌≤◌, ◌<◌}
use mathlib.Core.Bool.{Bool, true, false, cond, ◌&&◌, and-false, and-true}
use mathlib.Core.List.{List, [], ◌∷◌, ◌++◌, append-nil}
use mathlib.Core.Path.{◌≡◌, refl, sym, ◌∙◌, ap}
use native.Mathlib.Omega.{arith}
use lib.Dec.{ltb, eqb}
use lib.ListN.{length, get_or, take, drop, length-drop, drop_of_length-le}
use lib.Seq.{take_all, take-add, drop-drop}
use Rattle.std.proofs.Common.{Option, Some, None, get_or-drop}
use Rattle.std.specs.List.{IsSplitAt}
use borrow.Author.Tests.{lt-ltb, le-leb, eq-eqb, ne_eqb, eqb-true, eqb-false}
use Rattle.table.specs.Limits.{base}
use Rattle.session.specs.declared.Session.{Session}
use Rattle.lines.specs.Over.{overlaid, all_below, fits, narrowed}
use Rattle.orders.specs.Orders.{is_state, state_of}

-- what is left behind a place
pub all_behind : (n : ℕ) (l : List ℕ) → take (length l - n) (drop n l) ≡ drop n l
all_behind n l = take_all (length l - n) (drop n l) (rw (length-drop n l) (omega arith))

-- ---- written over

-- all of them, and what stood behind
pub over_start : (ns old : List ℕ) → length ns ≤ length old → overlaid 0 ns old ≡ ns ++ drop (length ns) old
unfolding overlaid
over_start ns old l =
    let all : length old - 0 ≡ length old = omega arith in
    let none : 0 + length ns ≡ length ns = omega arith in
    rw (all, none, take_all (length old) ns l)

-- as many as there were
pub over_all : (ns old : List ℕ) → length ns ≡ length old → overlaid 0 ns old ≡ ns
over_all ns old e =
    let long : length old ≤ length ns = omega arith in
    over_start ns old (omega arith) ∙ rw (drop_of_length-le old long) (append-nil ns)

pub narrowed_is : (bound : ℕ) (ns old : List ℕ) → length ns ≤ length old → all_below bound ns ≡ true → narrowed bound ns old ≡ overlaid 0 ns old
unfolding narrowed fits
narrowed_is bound ns old l e = rw (le-leb (length ns) (length old) l, e)

narrowed_all : (bound : ℕ) (ns old : List ℕ) → length ns ≡ length old → all_below bound ns ≡ true → narrowed bound ns old ≡ ns
narrowed_all bound ns old l e = narrowed_is bound ns old (omega arith) e ∙ over_all ns old l

pub fits_below : (bound : ℕ) (ns old : List ℕ) → length ns ≤ length old → fits bound ns old ≡ all_below bound ns
unfolding fits
fits_below bound ns old l = rw (le-leb (length ns) (length old) l)

-- ---- a state's numbers

below_append : (bound : ℕ) (xs ys : List ℕ) → all_below bound (xs ++ ys) ≡ (all_below bound xs && all_below bound ys)
unfolding all_below
below_append bound [] ys = refl
below_append bound (x ∷ xs) ys = by_test (ltb x bound) (below_append bound xs ys)
  where
    by_test : (t : Bool) → all_below bound (xs ++ ys) ≡ (all_below bound xs && all_below bound ys)
        → (t && all_below bound (xs ++ ys)) ≡ ((t && all_below bound xs) && all_below bound ys)
    by_test true e = e
    by_test false e = refl

-- an array of as many numbers as there are, all of them below the bound
array_below : (bound n : ℕ) (ns old : List ℕ) (r : Bool) → length ns ≡ n → length old ≡ n → r ≡ fits bound ns old → all_below bound ns ≡ r
array_below bound n ns old r e f g = sym (fits_below bound ns old (omega arith)) ∙ sym g

pub array_none : (bound n : ℕ) (ns old : List ℕ) (r : Bool) → length ns ≡ n → length old ≡ n → r ≡ fits bound ns old → r ≡ false
    → (eqb (length ns) n && all_below bound ns) ≡ false
array_none bound n ns old r e f g h = rw (array_below bound n ns old r e f g, h) (and-false (eqb (length ns) n))

pub array_some : (bound n : ℕ) (ns old new : List ℕ) (r : Bool) → length ns ≡ n → length old ≡ n → r ≡ fits bound ns old → r ≡ true → new ≡ narrowed bound ns old
    → (length ns ≡ n) × (all_below bound ns ≡ true) × (new ≡ ns)
array_some bound n ns old new r e f g h k =
    let below : all_below bound ns ≡ true = array_below bound n ns old r e f g ∙ h in
    (e, below, k ∙ narrowed_all bound ns old (omega arith) below)

-- a number of 32 bits is below 2 ^ 32
pub all_words : (ns : List ℕ) → ((i : ℕ) → get_or ns i 0 < 2 ^ 32) → all_below (2 ^ 32) ns ≡ true
unfolding all_below
all_words [] f = refl
all_words (n ∷ ns) f = rw (lt-ltb n (2 ^ 32) (f 0)) (all_words ns (λ i. f (suc i)))

last_first : (e h c l : Bool) → (e && (h && (c && l))) ≡ (h && (c && (l && e)))
last_first e false c l = and-false e
last_first e true false l = and-false e
last_first e true true false = and-false e
last_first true true true true = refl
last_first false true true true = refl

pub too_few : (ns : List ℕ) → length ns < 584 → is_state base ns ≡ false
unfolding is_state
too_few ns l = rw (ne_eqb (length ns) 584 (λ e. omega arith))

-- numbers that are split into those of the heads, the counts, the labels and the payloads
module _ (ns hs bs cs ds ls ps : List ℕ) (x : IsSplitAt ns 8 hs bs) (y : IsSplitAt bs 64 cs ds) (z : IsSplitAt ds 256 ls ps) where
  same_long : eqb (length ns) 584 ≡ eqb (length ps) 256
  same_long = by (eqb (length ps) 256) refl
    where
      by : (t : Bool) → eqb (length ps) 256 ≡ t → eqb (length ns) 584 ≡ t
      by true e = eq-eqb (length ns) 584 (omega (arith, eqb-true (length ps) 256 e, x.4, y.4, z.4))
      by false e = ne_eqb (length ns) 584 (λ f. eqb-false (length ps) 256 e (omega (arith, f, x.4, y.4, z.4)))

  labels_are : ls ≡ take 256 (drop 72 ns)
  labels_are = z.1 ∙ rw (y.2, x.2, drop-drop 64 8 ns)

  payloads_are : ps ≡ drop 328 ns
  payloads_are = z.2 ∙ rw (y.2, x.2, drop-drop 64 8 ns, drop-drop 256 72 ns)

  bytes : all_below 256 (take 320 (drop 8 ns)) ≡ (all_below 256 cs && all_below 256 ls)
  bytes =
      let split : take 320 (drop 8 ns) ≡ cs ++ ls = take-add 64 256 (drop 8 ns) ∙ rw (z.1, y.1, y.2, x.2) in
      rw split (below_append 256 cs ls)

  parts : is_state base ns ≡ (all_below 65536 hs && (all_below 256 cs && (all_below 256 ls && eqb (length ps) 256)))
  unfolding is_state
  parts =
      rw (same_long, ← (x.1), bytes) (last_first (eqb (length ps) 256) (all_below 65536 hs) (all_below 256 cs) (all_below 256 ls))

  pub not_heads : (eqb (length hs) 8 && all_below 65536 hs) ≡ false → is_state base ns ≡ false
  not_heads e = let f : all_below 65536 hs ≡ false = rw (eq-eqb (length hs) 8 x.3) at e in parts ∙ rw f

  pub not_counts : (eqb (length cs) 64 && all_below 256 cs) ≡ false → is_state base ns ≡ false
  not_counts e = let f : all_below 256 cs ≡ false = rw (eq-eqb (length cs) 64 y.3) at e in parts ∙ rw f (and-false (all_below 65536 hs))

  pub not_labels : (eqb (length ls) 256 && all_below 256 ls) ≡ false → is_state base ns ≡ false
  not_labels e =
      let f : all_below 256 ls ≡ false = rw (eq-eqb (length ls) 256 z.3) at e in
      parts ∙ rw (f, and-false (all_below 256 cs)) (and-false (all_below 65536 hs))

  pub not_payloads : ((i : ℕ) → get_or ns i 0 < 2 ^ 32) → (eqb (length ps) 256 && all_below (2 ^ 32) ps) ≡ false → is_state base ns ≡ false
  not_payloads small e =
      let words : all_below (2 ^ 32) ps ≡ true = all_words ps (λ i. rw payloads_are (rw (get_or-drop 328 ns i 0) (small (328 + i)))) in
      let f : eqb (length ps) 256 ≡ false = sym (and-true (eqb (length ps) 256)) ∙ (rw words at e) in
      parts ∙ rw (f, and-false (all_below 256 ls), and-false (all_below 256 cs)) (and-false (all_below 65536 hs))

  -- the state that they are
  pub state_read : (h c l p : List ℕ) → (length hs ≡ 8) × (all_below 65536 hs ≡ true) × (h ≡ hs) → (length cs ≡ 64) × (all_below 256 cs ≡ true) × (c ≡ cs)
      → (length ls ≡ 256) × (all_below 256 ls ≡ true) × (l ≡ ls) → (length ps ≡ 256) × (all_below (2 ^ 32) ps ≡ true) × (p ≡ ps)
      → ◌≡◌ {A = Option Session} (Some (record { heads = h; counts = c; labels = l; payloads = p })) (cond (is_state base ns) (Some (state_of base ns)) None)
  state_read h c l p eh ec el ep =
      let all : is_state base ns ≡ true = parts ∙ rw (eh.1, ec.1, el.1) (eq-eqb (length ps) 256 ep.0) in
      let heads : h ≡ take 8 ns = eh.2 ∙ x.1 in
      let counts : c ≡ take 64 (drop 8 ns) = ec.2 ∙ rw y.1 (rw x.2) in
      let labels : l ≡ take 256 (drop 72 ns) = el.2 ∙ labels_are in
      let payloads : p ≡ take 256 (drop 328 ns) = ep.2 ∙ (payloads_are ∙ sym (take_all 256 (drop 328 ns) (rw (← payloads_are) (omega (arith, ep.0))))) in
      rw (all, heads, counts, labels, payloads)

-- all but the first
pub over_rest : (n : ℕ) (hs zs : List ℕ) → length hs ≡ length zs → overlaid 1 hs (n ∷ zs) ≡ n ∷ hs
unfolding overlaid
over_rest n hs zs e =
    let all : length (n ∷ zs) - 1 ≡ length hs = omega arith in
    let few : length (n ∷ zs) ≤ 1 + length hs = omega arith in
    rw (all, take_all (length hs) hs (omega arith), drop_of_length-le (n ∷ zs) few) (ap (λ (l : List ℕ). n ∷ l) (append-nil hs))
