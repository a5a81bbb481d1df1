-- An answer's numbers one behind another, and their text. Assumes nothing.
use Prim.Native.Nat.{ℕ, zero, suc, ◌+◌, ◌-◌, ◌*◌, ◌/◌, ◌%◌, ◌≤◌, ◌<◌, min}
use mathlib.Core.Bool.{Bool, true, false, cond}
use mathlib.Core.List.{List, [], ◌∷◌, ◌++◌}
use mathlib.Core.Path.{◌≡◌, refl, sym, ◌∙◌, ap}
use native.Mathlib.Omega.{arith}
use lib.Dec.{ltb}
use lib.ListN.{length, take, drop, length-append, length-take}
use lib.Seq.{take_all, take_at, take-append-le, length-take-le}
use Rattle.lines.specs.Over.{overlaid, behind}
use Rattle.lines.specs.Text.{digits_of, decimal, text_of}
use Rattle.lines.proofs.Stores.{length_over}
use Rattle.orders.specs.Lines.{worded}
use Rattle.lines.proofs.Putting.{over_front}
use Rattle.orders.proofs.Lists.{over_start}

-- ---- the numbers

-- the first n of xs and then ys
pub both_put : (xs ys old one two : List ℕ) (n r : ℕ) → n ≤ length xs → length xs + length ys ≤ length old
    → one ≡ overlaid 0 xs old → two ≡ overlaid n ys one → r ≡ behind n ys one → take r two ≡ take n xs ++ ys
unfolding behind overlaid
both_put xs ys old one two n r l room e f g =
    let long : length one ≡ length old = rw e (length_over 0 xs old) in
    let front : take n one ≡ take n xs = rw (e, over_start xs old (omega arith)) (take-append-le n xs (drop (length xs) old) l) in
    let all : take (length one - n) ys ≡ ys = take_all (length one - n) ys (omega arith) in
    let two_is : two ≡ (take n xs ++ ys) ++ drop (n + length ys) one = f ∙ opened one front all in
    let count : length (take n xs ++ ys) ≡ r = rw (length-append (take n xs) ys, length-take-le n xs l) (omega arith) in
    rw two_is (take_at (take n xs ++ ys) (drop (n + length ys) one) r count)
  where
    opened : (one : List ℕ) → take n one ≡ take n xs → take (length one - n) ys ≡ ys → overlaid n ys one ≡ (take n xs ++ ys) ++ drop (n + length ys) one
    opened one h i = rw (h, i)

-- ---- the text

digits_long : (k n : ℕ) → length (digits_of k n) ≤ k
unfolding digits_of
digits_long zero n = omega arith
digits_long (suc k) n = by (ltb n 10) (digits_long k (n / 10))
  where
    by : (b : Bool) → length (digits_of k (n / 10)) ≤ k → length (cond b ((48 + n) ∷ []) (digits_of k (n / 10) ++ ((48 + n % 10) ∷ []))) ≤ suc k
    by true l = omega arith
    by false l = simp length-append (omega arith)

decimal_long : (n : ℕ) → length (decimal n) ≤ 10
unfolding decimal
decimal_long n = digits_long 10 n

-- a number has at most ten digits, and one byte behind it
text_long : (ns : List ℕ) → length (text_of ns) ≤ length ns * 11
unfolding text_of
text_long [] = omega arith
text_long (n ∷ []) = simp length-append (omega (arith, decimal_long n))
text_long (n ∷ m ∷ ns) = simp length-append (omega (arith, decimal_long n, text_long (m ∷ ns)))

worded_some : (ns : List ℕ) → 0 < length ns → worded ns ≡ text_of ns
unfolding worded
worded_some [] l = absurd (omega arith)
worded_some (n ∷ ns) l = refl

pub text_put : (ns old out : List ℕ) (r : ℕ) → 0 < length ns → length ns * 11 ≤ length old
    → r ≡ min (length (text_of ns)) (length old) → out ≡ overlaid 0 (text_of ns) old → (take r out ≡ worded ns) × (r ≡ length (worded ns))
text_put ns old out r some room e f =
    let all : length (text_of ns) ≤ length old = omega (arith, text_long ns) in
    let long : r ≡ length (text_of ns) = omega arith in
    let is = worded_some ns some in (rw (long, f, is) (over_front (text_of ns) old all), long ∙ sym (ap length is))

-- the numbers told, and the words behind them, as text
module _ (ts ws old one two : List ℕ) (r : ℕ) (some : 0 < length ts) (room : length ts + length ws ≤ length old)
    (e : one ≡ overlaid 0 ts old) (f : two ≡ overlaid (length ts) ws one) (g : r ≡ behind (length ts) ws one) where
  put : take r two ≡ ts ++ ws
  put = both_put ts ws old one two (length ts) r (omega arith) room e f g ∙ rw (take_all (length ts) ts (omega arith))

  long : length (ts ++ ws) ≡ length ts + length ws
  long = length-append ts ws

  pub put_room : r ≤ length two
  unfolding behind
  put_room =
      let l : length two ≡ length one = rw f (length_over (length ts) ws one) in
      let m : length one ≡ length old = rw e (length_over 0 ts old) in
      omega (arith, l, m, g)

  pub put_text : (text out : List ℕ) (c : ℕ) → (length ts + length ws) * 11 ≤ length text → c ≡ min (length (text_of (take r two))) (length text)
      → out ≡ overlaid 0 (text_of (take r two)) text → (take c out ≡ worded (ts ++ ws)) × (c ≡ length (worded (ts ++ ws)))
  put_text text out c big h i = text_put (ts ++ ws) text out c (omega (arith, long)) (rw long big) (rw put at h) (rw put at i)

-- how much they are
pub fits_told : (ts ws told tables : List ℕ) (shown : ℕ) → ts ≡ told → ws ≡ take shown tables → 0 < length told → length ts ≤ 9 → shown ≤ 8192
    → (0 < length ts) × (length ts + length ws ≤ 8201)
fits_told ts ws told tables shown e f some few short =
    let less : length told ≤ 9 = rw e at few in
    rw (e, f, length-take shown tables) (some, omega (arith, less))
