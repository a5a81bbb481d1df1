-- Where parts and arm lists end, word by word. Assumes nothing.
use Prim.Native.Nat.{ℕ, zero, suc, ◌+◌, ◌-◌, ◌≤◌, ◌<◌, min}
use mathlib.Core.List.{List, [], ◌∷◌, ◌++◌, append_assoc}
use mathlib.Core.Path.{◌≡◌, refl, ◌∙◌, ap}
use native.Mathlib.Omega.{arith}
use native.Mathlib.Nat.{add-zero}
use lib.ListN.{length, get_or, take, drop}
use lib.Seq.{drop-cons}
use Rattle.std.specs.Prelude.{true, false, Option, Some, None}
use Rattle.std.proofs.lemmas.List.{drop_all, take_all, length-append, length-drop, length-take-le}
use Rattle.merge.specs.mirror.Merging.{MOST, kids, one_more, ends, words_for, copy_of, put_on, behind_of}
use Rattle.merge.proofs.Puts.{put_sets}

-- what ends after i words more
abbrev pub passed : ℕ → Option ℕ → Option ℕ
passed i None = None
passed i (Some k) = Some (i + k)

passed_one : (i : ℕ) (e : Option ℕ) → passed i (one_more e) ≡ passed (i + 1) e
passed_one i None = refl
passed_one i (Some k) = let f : i + (k + 1) ≡ i + 1 + k = omega arith in ap (λ (n : ℕ). Some n) f

-- one word passed
pub ends_turn : (ws : List ℕ) (owed i k : ℕ) → i < length ws → 0 < owed → k ≡ kids (get_or ws i 0)
    → passed i (ends (drop i ws) owed) ≡ passed (i + 1) (ends (drop (i + 1) ws) (owed - 1 + k))
unfolding ends
ends_turn ws zero i k l p e = absurd (omega arith)
ends_turn ws (suc m) i k l p e =
    let f : suc i ≡ i + 1 = omega arith in
    let g : suc m - 1 ≡ m = omega arith in
    rw (drop-cons ws i 0 l, ← e, f, g) (passed_one i (ends (drop (i + 1) ws) (m + k)))

pub ends_done : (ws : List ℕ) (i : ℕ) → passed i (ends ws 0) ≡ Some i
unfolding ends
ends_done [] i = rw add-zero
ends_done (w ∷ ws) i = rw add-zero

pub ends_out : (ws : List ℕ) (i owed : ℕ) → length ws ≤ i → 0 < owed → passed i (ends (drop i ws) owed) ≡ None
unfolding ends
ends_out ws i zero l p = absurd (omega arith)
ends_out ws i (suc m) l p = rw (drop_all i ws l)

-- ---- copies, and the places behind

words_are : (s : List ℕ) (a at x y r : ℕ) → x ≡ length s - a → y ≡ MOST - at → r ≡ min x y → take (a + r - a) (drop a s) ≡ words_for s a at
words_are s a at x y r ex ey er =
    let e : a + r - a ≡ r = omega arith in
    rw (e, er, ex, ey)

many : (s : List ℕ) (a at x y r : ℕ) → x ≡ length s - a → y ≡ MOST - at → r ≡ min x y → length (words_for s a at) ≡ r
many s a at x y r ex ey er =
    rw (← ex, ← ey, ← er) (length-take-le r (drop a s) (omega (arith, length-drop a s)))

-- nothing is copied
pub copy_nothing : (s : List ℕ) (a : ℕ) (o : List ℕ) (at x y r : ℕ) → x ≡ length s - a → y ≡ MOST - at → r ≡ min x y → r ≡ 0
    → (record { ok = false; end = a; at = at } ≡ (copy_of s a o at).res) × (o ≡ (copy_of s a o at).out)
unfolding copy_of ends
copy_nothing s a o at x y r ex ey er z =
    let e : min (length s - a) (MOST - at) ≡ 0 = rw (← ex, ← ey, ← er) z in
    rw (e, add-zero, add-zero) (refl, refl)

-- what ends there is copied
pub copy_some : (s : List ℕ) (a : ℕ) (o : List ℕ) (at x y r k : ℕ) (o' : List ℕ) → x ≡ length s - a → y ≡ MOST - at → r ≡ min x y
    → Some k ≡ ends (take (a + r - a) (drop a s)) 1
    → o' ≡ (put_on (length (take k (take (a + r - a) (drop a s)))) (take k (take (a + r - a) (drop a s))) 0 o at).out
    → (record { ok = true; end = a + k; at = at + k } ≡ (copy_of s a o at).res) × (o' ≡ (copy_of s a o at).out)
unfolding copy_of
copy_some s a o at x y r k o' ex ey er e p =
    let w = words_are s a at x y r ex ey er in
    let f = rw w at e in
    rw (← f) (refl, p ∙ rw (w, put_sets (take k (words_for s a at)) o at))

-- nothing ends there
pub copy_none : (s : List ℕ) (a : ℕ) (o : List ℕ) (at x y r : ℕ) (o' : List ℕ) → x ≡ length s - a → y ≡ MOST - at → r ≡ min x y
    → None ≡ ends (take (a + r - a) (drop a s)) 1
    → o' ≡ (put_on (length (take (a + r - a) (drop a s))) (take (a + r - a) (drop a s)) 0 o at).out
    → (record { ok = false; end = a + r; at = at + r } ≡ (copy_of s a o at).res) × (o' ≡ (copy_of s a o at).out)
unfolding copy_of
copy_none s a o at x y r o' ex ey er e p =
    let w = words_are s a at x y r ex ey er in
    let f = rw w at e in
    rw (← f, many s a at x y r ex ey er) (refl, p ∙ rw (w, put_sets (words_for s a at) o at))

pub behind_end : (s : List ℕ) (a : ℕ) → length s ≤ a → a ≡ behind_of s a
unfolding behind_of ends
behind_end s a l = rw (drop_all a s l) (omega arith)

rest_is : (s : List ℕ) (a : ℕ) → take (length s - a) (drop a s) ≡ drop a s
rest_is s a = take_all (length s - a) (drop a s) (omega (arith, length-drop a s))

pub behind_some : (s : List ℕ) (a k : ℕ) → Some k ≡ ends (take (length s - a) (drop a s)) 1 → a + k ≡ behind_of s a
unfolding behind_of
behind_some s a k e = rw (← (rw (rest_is s a) at e))

pub behind_none : (s : List ℕ) (a : ℕ) → a < length s → None ≡ ends (take (length s - a) (drop a s)) 1 → length s ≡ behind_of s a
unfolding behind_of
behind_none s a l e = rw (← (rw (rest_is s a) at e)) (omega arith)

-- ---- the words of parts

one_passed : (n : ℕ) (e : Option ℕ) → one_more (passed n e) ≡ passed (suc n) e
one_passed n None = refl
one_passed n (Some k) = let f : n + k + 1 ≡ suc n + k = omega arith in ap (λ (m : ℕ). Some m) f

both_passed : (i j n : ℕ) (e : Option ℕ) → n ≡ i + j → passed i (passed j e) ≡ passed n e
both_passed i j n None h = refl
both_passed i j n (Some k) h = let f : i + (j + k) ≡ n + k = omega arith in ap (λ (m : ℕ). Some m) f

-- the words are one part or arm list: behind them one fewer is owed than before them
pub data Owes : List ℕ → Type 0 where
  leaf : (w : ℕ) → kids w ≡ 0 → Owes (w ∷ [])
  one : (w : ℕ) (ws : List ℕ) → kids w ≡ 1 → Owes ws → Owes (w ∷ ws)
  two : (w : ℕ) (u v : List ℕ) → kids w ≡ 2 → Owes u → Owes v → Owes (w ∷ u ++ v)

-- before other words
owed : {ws : List ℕ} → Owes ws → (rest : List ℕ) (m : ℕ) → ends (ws ++ rest) (suc m) ≡ passed (length ws) (ends rest m)
unfolding ends
owed (leaf w k) rest m = rw (k, add-zero) (one_is (ends rest m))
  where
    one_is : (e : Option ℕ) → one_more e ≡ passed 1 e
    one_is None = refl
    one_is (Some k) = let f : k + 1 ≡ 1 + k = omega arith in ap (λ (n : ℕ). Some n) f
owed (one w ws k f) rest m =
    let e : m + 1 ≡ suc m = omega arith in
    rw (k, e, owed f rest m) (one_passed (length ws) (ends rest m))
owed (two w u v k f g) rest m =
    let e : m + 2 ≡ suc (suc m) = omega arith in
    rw (k, e, append_assoc u v rest, owed f (v ++ rest) (suc m), owed g rest m, both_passed (length u) (length v) (length (u ++ v)) (ends rest m) (length-append u v))
    (one_passed (length (u ++ v)) (ends rest m))

pub ends_there : {ws : List ℕ} → Owes ws → (rest : List ℕ) → ends (ws ++ rest) 1 ≡ Some (length ws)
ends_there {ws} f rest = owed f rest 0 ∙ ends_done rest (length ws)
