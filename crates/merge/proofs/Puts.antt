-- Words that are put as far as there is room: a write to a part of the slice leaves what the mirror leaves word by word. Assumes nothing.
use Prim.Native.Nat.{ℕ, zero, suc, ◌+◌, ◌-◌, ◌≤◌, ◌<◌, min}
use mathlib.Core.List.{List, [], ◌∷◌, append_assoc}
use mathlib.Core.Logic.{◌⊎◌, inl, inr, ⊎_elim}
use mathlib.Core.Path.{◌≡◌, refl, sym, ◌∙◌}
use native.Mathlib.Nat.{add-zero, suc-add, zero-add}
use native.Mathlib.Numerals.{add-one}
use native.Mathlib.Omega.{arith}
use lib.ListN.{length, get_or, set, take, drop, replicate, length-set, length-replicate, drop_of_length-le}
use lib.Seq.{sets, sets-eq, get_or-take, drop-cons}
use lib.Dec.{ltb, leb}
use mathlib.Core.Bool.{Bool, true, false}
use borrow.Author.Tests.{lt-ltb, le-ltb, ltb-false, leb-true, leb-false}
use borrow.Rule.Slice.PartMut.{put_mid}
use Rattle.std.proofs.lemmas.List.{length-drop, drop-drop, get_or_past, set_past, length-take-le}
use Rattle.parts.proofs.Words.{Stands, stands_at_lem}
use Rattle.merge.specs.mirror.Merging.{Put, put_on, put_same}

pub mid_is : (at k : ℕ) (o ws : List ℕ) → k ≡ length ws → at + k ≤ length o → put_mid at k o ws ≡ sets o at ws
mid_is at k o ws e l = rw (sets-eq ws o at (omega arith), drop-drop k at o, e, append_assoc (take at o) ws (drop (at + length ws) o))

-- all that is put, or all that fits
abbrev pub Fills : ℕ → ℕ → List ℕ → ℕ → Type 0
Fills c n o at = (c ≤ n) × (0 < c → at + c ≤ length o) × ((c ≡ n) ⊎ (length o ≤ at + c))

pub least : (n l k : ℕ) → k ≡ min n l → (k ≡ n) ⊎ (k ≡ l)
least n l k e = go (leb n l) refl
  where
    go : (b : Bool) → leb n l ≡ b → (k ≡ n) ⊎ (k ≡ l)
    go true h = inl (omega (arith, leb-true n l h))
    go false h = inr (omega (arith, leb-false n l h))

pub fills_min : (n c k : ℕ) (o : List ℕ) (at : ℕ) → k ≡ length o - at → c ≡ min n k → Fills c n o at
fills_min n c k o at e f = (omega arith, λ p. omega arith, ⊎_elim inl (λ (h : c ≡ k). inr (omega arith)) (least n k c f))

no_room : (n : ℕ) (s : List ℕ) (i : ℕ) (o : List ℕ) (at : ℕ) → length o ≤ at → put_on n s i o at ≡ record { end = at; out = o }
unfolding put_on
no_room zero s i o at l = refl
no_room (suc n) s i o at l = rw (le-ltb at (length o) l)

pub put_some : (ws s : List ℕ) (n i : ℕ) (o : List ℕ) (at : ℕ) → Stands s i ws → Fills (length ws) n o at
    → put_on n s i o at ≡ record { end = at + length ws; out = sets o at ws }
unfolding put_on
put_some [] s zero i o at h f = rw add-zero
put_some [] s (suc n) i o at h f =
    let l : length o ≤ at = ⊎_elim (λ e. absurd (omega arith)) (λ l. omega arith) f.2 in
    rw (le-ltb at (length o) l, add-zero)
put_some (w ∷ ws) s zero i o at h f = absurd (omega (arith, f.0))
put_some (w ∷ ws) s (suc n) i o at h f =
    let x : i + 1 ≡ suc i = omega arith in
    let y : at + 1 ≡ suc at = omega arith in
    let z : suc at + length ws ≡ at + suc (length ws) = omega arith in
    let g : Fills (length ws) n (set o at w) (suc at) =
    (omega (arith, f.0), λ p. simp length-set (omega (arith, f.1 (omega arith))), ⊎_elim (λ e. inl (omega arith)) (λ (l : length o ≤ at + suc (length ws)). inr (simp length-set (omega arith))) f.2) in
    rw (lt-ltb at (length o) (omega (arith, f.1 (omega arith))), h.0, x, y) (put_some ws s n (suc i) (set o at w) (suc at) h.1 g ∙ rw z)

pub same_some : (w c n : ℕ) (o : List ℕ) (at : ℕ) → Fills c n o at → put_same w n o at ≡ record { end = at + c; out = sets o at (replicate c w) }
unfolding put_same
same_some w zero zero o at f = rw add-zero
same_some w zero (suc n) o at f =
    let l : length o ≤ at = ⊎_elim (λ e. absurd (omega arith)) (λ l. omega arith) f.2 in
    rw (le-ltb at (length o) l, add-zero)
same_some w (suc c) zero o at f = absurd (omega (arith, f.0))
same_some w (suc c) (suc n) o at f =
    let y : at + 1 ≡ suc at = omega arith in
    let z : suc at + c ≡ at + suc c = omega arith in
    let g : Fills c n (set o at w) (suc at) =
    (omega (arith, f.0), λ p. simp length-set (omega (arith, f.1 (omega arith))), ⊎_elim (λ e. inl (omega arith)) (λ (l : length o ≤ at + suc c). inr (simp length-set (omega arith))) f.2) in
    rw (lt-ltb at (length o) (omega (arith, f.1 (omega arith))), y) (same_some w c n (set o at w) (suc at) g ∙ rw z)

-- ---- words past the end of what is put are zeros

-- the same words
put_alike : (n : ℕ) (s t : List ℕ) (i : ℕ) (o : List ℕ) (at : ℕ) → ((j : ℕ) → j < n → get_or s (i + j) 0 ≡ get_or t (i + j) 0) → put_on n s i o at ≡ put_on n t i o at
unfolding put_on
put_alike zero s t i o at f = refl
put_alike (suc n) s t i o at f =
    let z : i + 0 ≡ i = omega arith in
    rw (
      rw z at (f 0 (omega arith)),
      put_alike n s t (i + 1) (set o at (get_or t i 0)) (at + 1)
          (λ j l. let x : i + 1 + j ≡ i + suc j = omega arith in rw x (f (suc j) (omega arith))),
    )

put_zeros : (n : ℕ) (s : List ℕ) (i : ℕ) (o : List ℕ) (at : ℕ) → length s ≤ i → put_on n s i o at ≡ put_same 0 n o at
unfolding put_on put_same
put_zeros zero s i o at l = refl
put_zeros (suc n) s i o at l = rw (get_or_past s i 0 l, put_zeros n s (i + 1) (set o at 0) (at + 1) (omega arith))

-- k words, then m more behind them
abbrev Splits : ℕ → ℕ → List ℕ → ℕ → List ℕ → ℕ → Type 0
Splits k m s i o at = put_on (k + m) s i o at ≡ (let p = put_on k s i o at in put_on m s (i + k) p.out p.end)

put_split : (k m : ℕ) (s : List ℕ) (i : ℕ) (o : List ℕ) (at : ℕ) → Splits k m s i o at
unfolding put_on
put_split zero m s i o at = rw (zero-add m, add-zero)
put_split (suc k) m s i o at = go (ltb at (length o)) refl (put_split k m s (i + 1) (set o at (get_or s i 0)) (at + 1))
  where
    go : (c : Bool) → ltb at (length o) ≡ c → Splits k m s (i + 1) (set o at (get_or s i 0)) (at + 1) → Splits (suc k) m s i o at
    go true e h =
        let f : i + 1 + k ≡ i + suc k = omega arith in
        rw (suc-add k m, e, ← f) h
    go false e h = rw (suc-add k m, e) (sym (no_room m s (i + suc k) o at (ltb-false at (length o) e)))

-- the words that there are, then zeros for those that there are not
pub put_all : (k n : ℕ) (s : List ℕ) (o : List ℕ) (at : ℕ) → k ≤ n → k ≤ length s → (k ≡ n) ⊎ (k ≡ length s)
    → put_on n s 0 o at ≡ (let p = put_on (length (take k s)) (take k s) 0 o at in put_same 0 (n - k) p.out p.end)
unfolding put_on put_same
put_all k n s o at l m e =
    let f : k + (n - k) ≡ n = omega arith in
    let z : 0 + k ≡ k = omega arith in
    let first : put_on k s 0 o at ≡ put_on k (take k s) 0 o at =
    put_alike k s (take k s) 0 o at (λ j h. let i : 0 + j ≡ j = omega arith in rw i (sym (get_or-take k s j 0 h))) in
    rw (← f, put_split k (n - k) s 0 o at, z, first, length-take-le k s m, f) (tail (put_on k (take k s) 0 o at))
  where
    none : k ≡ n → (p : Put) → put_on (n - k) s k p.out p.end ≡ put_same 0 (n - k) p.out p.end
    none h p = let z : n - k ≡ 0 = omega arith in rw z

    tail : (p : Put) → put_on (n - k) s k p.out p.end ≡ put_same 0 (n - k) p.out p.end
    tail p = ⊎_elim (λ (h : k ≡ n). none h p) (λ (h : k ≡ length s). put_zeros (n - k) s k p.out p.end (omega arith)) e

-- ---- what the code leaves

-- the first c words of s, for all that fit
part_is : (s o : List ℕ) (at k c : ℕ) → k ≡ length o - at → c ≡ min (length s) k
    → put_on (length s) s 0 o at ≡ record { end = at + c; out = sets o at (take c s) }
part_is s o at k c e f =
    let g = fills_min (length s) c k o at e f in
    let n = length-take-le c s g.0 in
    let h = stands_at_lem s 0 (take c s) (λ i l. let z : 0 + i ≡ i = omega arith in rw z (sym (get_or-take c s i 0 (omega (arith, n))))) in
    rw n at (put_some (take c s) s (length s) 0 o at h (rw n g))

sets_past : (o : List ℕ) (at : ℕ) (ws : List ℕ) → length o ≤ at → sets o at ws ≡ o
sets_past o at [] l = refl
sets_past o at (w ∷ ws) l = rw (set_past o at w l) (sets_past o (suc at) ws (omega arith))

sets_take : (c : ℕ) (o : List ℕ) (at : ℕ) (ws : List ℕ) → (c ≡ length ws) ⊎ (length o ≤ at + c) → sets o at (take c ws) ≡ sets o at ws
sets_take zero o at [] e = refl
sets_take zero o at (w ∷ ws) e = sym (sets_past o at (w ∷ ws) (⊎_elim (λ h. absurd (omega arith)) (λ (h : length o ≤ at + 0). omega arith) e))
sets_take (suc c) o at [] e = refl
sets_take (suc c) o at (w ∷ ws) e =
    sets_take c (set o at w) (suc at) ws (⊎_elim (λ h. inl (omega arith)) (λ (h : length o ≤ at + suc c). inr (simp length-set (omega arith))) e)

-- what does not fit is no word of the slice
pub put_sets : (ws o : List ℕ) (at : ℕ) → (put_on (length ws) ws 0 o at).out ≡ sets o at ws
put_sets ws o at =
    let c = min (length ws) (length o - at) in
    let g = fills_min (length ws) c (length o - at) o at refl refl in
    rw (part_is ws o at (length o - at) c refl refl) (sets_take c o at ws g.2)

-- one word more
pub put_next : (ws out : List ℕ) (p i : ℕ) → i < length ws → sets (set out p (get_or ws i 0)) (p + 1) (drop (i + 1) ws) ≡ sets out p (drop i ws)
put_next ws out p i h = rw (add-one p, add-one i, drop-cons ws i 0 h)

-- once no word is left
pub put_done : (s o out : List ℕ) (at k c i : ℕ) → k ≡ length o - at → c ≡ min (length s) k → length (take c s) ≤ i
    → sets out (at + i) (drop i (take c s)) ≡ sets o at (take c s)
    → (at + c ≡ (put_on (length s) s 0 o at).end) × (out ≡ (put_on (length s) s 0 o at).out)
put_done s o out at k c i e f l h =
    let g = part_is s o at k c e f in
    (rw g, rw g (rw (drop_of_length-le (take c s) l) at h))

pub fill_leaves : (w n : ℕ) (o new : List ℕ) (at k c : ℕ) → k ≡ length o - at → c ≡ min n k → (c ≡ 0 → ⊥) → new ≡ replicate (length (take (at + c - at) (drop at o))) w
    → (at + c ≡ (put_same w n o at).end) × (put_mid at (at + c - at) o new ≡ (put_same w n o at).out)
fill_leaves w n o new at k c e f p h =
    let g = fills_min n c k o at e f in
    let z : at + c - at ≡ c = omega arith in
    let l : length (take c (drop at o)) ≡ c = length-take-le c (drop at o) (omega (arith, length-drop at o, g.1 (omega arith))) in
    let i = same_some w c n o at g in
    (rw i, rw (i, h, z, l) (mid_is at c o (replicate c w) (sym (length-replicate {A = ℕ} c w)) (g.1 (omega arith))))

pub fill_nothing : (w n : ℕ) (o : List ℕ) (at k c : ℕ) → k ≡ length o - at → c ≡ min n k → c ≡ 0
    → (at ≡ (put_same w n o at).end) × (o ≡ (put_same w n o at).out)
fill_nothing w n o at k c e f z =
    let i = same_some w c n o at (fills_min n c k o at e f) in
    (rw (i, z, add-zero), rw (i, z))
