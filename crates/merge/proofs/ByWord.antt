-- A copy word by word, and the place behind a part found word by word, as a loop over the words finds them: the mirrors' `copy_of` and
-- `behind_of` are these, for any words. Assumes nothing.
use Prim.Native.Nat.{ℕ, zero, suc, ◌+◌, ◌-◌, ◌≤◌, ◌<◌, min}
use mathlib.Core.Bool.{cond}
use mathlib.Core.List.{List, [], ◌∷◌}
use mathlib.Core.Logic.{◌⊎◌, inl, inr, ⊎_elim}
use mathlib.Core.Path.{◌≡◌, refl, sym, ◌∙◌}
use native.Mathlib.Nat.{add-zero}
use native.Mathlib.Omega.{arith}
use lib.Dec.{ltb, eqb}
use lib.ListN.{length, get_or, set, drop}
use lib.Seq.{get_or-take, get_or-drop}
use borrow.Author.Tests.{lt-ltb, le-ltb, ne_eqb}
use Rattle.std.specs.Prelude.{Option, Some, None}
use Rattle.std.proofs.lemmas.List.{length-drop, length-take-le}
use Rattle.parts.proofs.Words.{Stands, stands_at_lem}
use Rattle.merge.specs.mirror.Merging.{MOST, kids, Copy, one_more, ends, copied, words_for, copy_of, place_behind, behind_of}
use Rattle.merge.proofs.Puts.{least}

-- owed parts or arm lists are still to come, and n words are left
abbrev pub stopped : ℕ → ℕ → List ℕ → ℕ → Copy
stopped owed a o at = record { res = record { ok = eqb owed 0; end = a; at = at }; out = o }

pub copy_on : ℕ → List ℕ → ℕ → List ℕ → ℕ → ℕ → Copy
copy_on zero s a o at owed = stopped owed a o at
copy_on (suc n) s a o at zero = stopped zero a o at
copy_on (suc n) s a o at (suc m) =
    cond (ltb at MOST) (copy_on n s (a + 1) (set o at (get_or s a 0)) (at + 1) (m + kids (get_or s a 0))) (stopped (suc m) a o at)

pub behind_on : ℕ → List ℕ → ℕ → ℕ → ℕ
behind_on zero s x owed = x
behind_on (suc n) s x zero = x
behind_on (suc n) s x (suc m) = behind_on n s (x + 1) (m + kids (get_or s x 0))

-- ---- copies

-- the words that may be copied
abbrev Fits : ℕ → ℕ → ℕ → Type 0
Fits k n at = (k ≤ n) × (0 < k → at + k ≤ MOST) × ((k ≡ n) ⊎ (MOST ≤ at + k))

one_copied : (a : ℕ) (o : List ℕ) (at w : ℕ) (ws : List ℕ) (e : Option ℕ) → copied (a + 1) (set o at w) (at + 1) ws e ≡ copied a o at (w ∷ ws) (one_more e)
one_copied a o at w ws None =
    let x : a + 1 + length ws ≡ a + suc (length ws) = omega arith in
    let y : at + 1 + length ws ≡ at + suc (length ws) = omega arith in
    let z : at + 1 ≡ suc at = omega arith in
    rw (x, y, z)
one_copied a o at w ws (Some k) =
    let k₁ : k + 1 ≡ suc k = omega arith in
    let x : a + 1 + k ≡ a + suc k = omega arith in
    let y : at + 1 + k ≡ at + suc k = omega arith in
    let z : at + 1 ≡ suc at = omega arith in
    rw (x, y, k₁, z)

copies : (ws : List ℕ) (n : ℕ) (s : List ℕ) (a : ℕ) (o : List ℕ) (at owed : ℕ) → Stands s a ws → Fits (length ws) n at
    → copy_on n s a o at owed ≡ copied a o at ws (ends ws owed)
unfolding copy_on ends
copies [] zero s a o at zero h f = rw (add-zero, add-zero)
copies [] (suc n) s a o at zero h f = rw (add-zero, add-zero)
copies (w ∷ ws) zero s a o at zero h f = rw (add-zero, add-zero)
copies (w ∷ ws) (suc n) s a o at zero h f = rw (add-zero, add-zero)
copies [] zero s a o at (suc m) h f = rw (ne_eqb (suc m) 0 (λ e. omega arith), add-zero, add-zero)
copies [] (suc n) s a o at (suc m) h f =
    let l : MOST ≤ at = ⊎_elim (λ e. absurd (omega arith)) (λ (l : MOST ≤ at + 0). omega arith) f.2 in
    rw (le-ltb at MOST l, ne_eqb (suc m) 0 (λ e. omega arith), add-zero, add-zero)
copies (w ∷ ws) zero s a o at (suc m) h f = absurd (omega (arith, f.0))
copies (w ∷ ws) (suc n) s a o at (suc m) h f =
    let x : suc a ≡ a + 1 = omega arith in
    let g : Fits (length ws) n (at + 1) =
    (omega (arith, f.0), λ p. omega (arith, f.1 (omega arith)), ⊎_elim (λ e. inl (omega arith)) (λ (l : MOST ≤ at + suc (length ws)). inr (omega arith)) f.2) in
    rw (lt-ltb at MOST (omega (arith, f.1 (omega arith))), h.0)
    (copies ws n s (a + 1) (set o at w) (at + 1) (m + kids w) (rw x at h.1) g ∙ one_copied a o at w ws (ends ws (m + kids w)))

pub copy_by_word : (s : List ℕ) (a : ℕ) (o : List ℕ) (at : ℕ) → copy_on (length s - a) s a o at 1 ≡ copy_of s a o at
unfolding copy_of
copy_by_word s a o at =
    let r = min (length s - a) (MOST - at) in
    let n : length (words_for s a at) ≡ r = length-take-le r (drop a s) (omega (arith, length-drop a s)) in
    let h = stands_at_lem s a (words_for s a at) (λ i l. sym (get_or-drop a s i 0) ∙ sym (get_or-take r (drop a s) i 0 (omega (arith, n)))) in
    let f : Fits r (length s - a) at =
    (omega arith, λ p. omega arith, ⊎_elim inl (λ (e : r ≡ MOST - at). inr (omega arith)) (least (length s - a) (MOST - at) r refl)) in
    copies (words_for s a at) (length s - a) s a o at 1 h (rw n f)

-- ---- places behind

abbrev place : ℕ → List ℕ → Option ℕ → ℕ
place a ws (Some k) = a + k
place a ws None = a + length ws

one_placed : (a w : ℕ) (ws : List ℕ) (e : Option ℕ) → place (a + 1) ws e ≡ place a (w ∷ ws) (one_more e)
one_placed a w ws None = omega arith
one_placed a w ws (Some k) = omega arith

places : (ws : List ℕ) (n : ℕ) (s : List ℕ) (a owed : ℕ) → Stands s a ws → length ws ≡ n → behind_on n s a owed ≡ place a ws (ends ws owed)
unfolding behind_on ends
places [] zero s a zero h e = rw add-zero
places [] (suc n) s a zero h e = absurd (omega arith)
places (w ∷ ws) zero s a zero h e = absurd (omega arith)
places (w ∷ ws) (suc n) s a zero h e = rw add-zero
places [] zero s a (suc m) h e = rw add-zero
places [] (suc n) s a (suc m) h e = absurd (omega arith)
places (w ∷ ws) zero s a (suc m) h e = absurd (omega arith)
places (w ∷ ws) (suc n) s a (suc m) h e =
    let x : suc a ≡ a + 1 = omega arith in
    rw h.0 (places ws n s (a + 1) (m + kids w) (rw x at h.1) (omega arith) ∙ one_placed a w ws (ends ws (m + kids w)))

pub behind_by_word : (s : List ℕ) (a : ℕ) → behind_on (length s - a) s a 1 ≡ behind_of s a
unfolding behind_of
behind_by_word s a =
    let n = length-drop a s in
    let h = stands_at_lem s a (drop a s) (λ i l. sym (get_or-drop a s i 0)) in
    places (drop a s) (length s - a) s a 1 h n ∙ same (ends (drop a s) 1)
  where
    same : (e : Option ℕ) → place a (drop a s) e ≡ place_behind s a e
    same None = omega (arith, length-drop a s)
    same (Some k) = refl
