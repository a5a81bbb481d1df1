-- Laws of a session's arrays: what a message put in or taken out does to each place. Assumes nothing.
use Prim.Native.Nat.{ℕ, zero, suc, ◌+◌, ◌-◌, ◌*◌, ◌≤◌, ◌<◌}
use mathlib.Core.List.{List, [], ◌∷◌, ◌++◌, append_assoc}
use mathlib.Core.Logic.{◌≢◌}
use mathlib.Core.Path.{◌≡◌, refl, sym, ◌∙◌, ap}
use native.Mathlib.Decide.{dec_lt}
use native.Mathlib.Nat.{mul-le-mul_right}
use native.Mathlib.Omega.{arith}
use lib.ListN.{get_or, length, set, take, drop, length-append, length-take, length-drop, get_or-append, get_or-eq_default}
use lib.Seq.{get_or-append-add, get_or-set_same, get_or-set_other, get_or-take, get_or-drop, sets, sets-eq, length-take-le}
use Rattle.table.specs.Limits.{Limits}
use Rattle.state.specs.State.{pair, slot}
use Rattle.session.specs.State.{slots, forward}

-- ---- numbers of two digits

pub same_digits : (m a b c d : ℕ) → b < m → d < m → a * m + b ≡ c * m + d → (a ≡ c) × (b ≡ d)
same_digits m a b c d h k e = go (dec_lt a c) (dec_lt c a)
  where
    go : Dec (a < c) → Dec (c < a) → (a ≡ c) × (b ≡ d)
    go (yes less) t = absurd (omega (arith, mul-le-mul_right {m = suc a} {n = c} m less))
    go (no not_less) (yes more) = absurd (omega (arith, mul-le-mul_right {m = suc c} {n = a} m more))
    go (no not_less) (no not_more) =
        let same : a ≡ c = omega arith in
        let f : c * m + b ≡ c * m + d = ap (λ x. x * m + b) (sym same) ∙ e in
        (same, omega arith)

pub digits_below : (m n a b : ℕ) → b < m → a < n → a * m + b < n * m
digits_below m n a b h k = omega (arith, mul-le-mul_right {m = suc a} {n = n} m k)

-- ---- a part of a list replaced

module _ (l : List ℕ) (i : ℕ) (vs : List ℕ) (fits : i + length vs ≤ length l) where
  sets_is : sets l i vs ≡ take i l ++ (vs ++ drop (i + length vs) l)
  sets_is = sets-eq vs l i fits ∙ append_assoc (take i l) vs (drop (i + length vs) l)

  pub sets_in : (k : ℕ) → k < length vs → get_or (sets l i vs) (i + k) 0 ≡ get_or vs k 0
  sets_in k h =
      let e : length (take i l) ≡ i = length-take-le i l (omega arith) in
      rw sets_is (
      ap (λ j. get_or (take i l ++ (vs ++ drop (i + length vs) l)) (j + k) 0) (sym e)
      ∙ (get_or-append-add (take i l) (vs ++ drop (i + length vs) l) k 0 ∙ get_or-append vs (drop (i + length vs) l) 0 k h))

  pub sets_before : (j : ℕ) → j < i → get_or (sets l i vs) j 0 ≡ get_or l j 0
  sets_before j h =
      let e : length (take i l) ≡ i = length-take-le i l (omega arith) in
      rw sets_is (get_or-append (take i l) (vs ++ drop (i + length vs) l) 0 j (omega arith) ∙ get_or-take i l j 0 h)

  pub sets_after : (j : ℕ) → i + length vs ≤ j → get_or (sets l i vs) j 0 ≡ get_or l j 0
  sets_after j h =
      let e : length (take i l) ≡ i = length-take-le i l (omega arith) in
      let k : ℕ = j - (i + length vs) in
      let f : j ≡ length (take i l) + (length vs + k) = omega arith in
      let g : i + length vs + k ≡ j = omega arith in
      rw sets_is (
      ap (λ x. get_or (take i l ++ (vs ++ drop (i + length vs) l)) x 0) f
      ∙ (get_or-append-add (take i l) (vs ++ drop (i + length vs) l) (length vs + k) 0
      ∙ (get_or-append-add vs (drop (i + length vs) l) k 0 ∙ (get_or-drop (i + length vs) l k 0 ∙ ap (λ x. get_or l x 0) g))))

-- ---- the slots of a queue, without the first

zero_last : (ws : List ℕ) (k : ℕ) → get_or (ws ++ (0 ∷ [])) k 0 ≡ get_or ws k 0
zero_last [] zero = refl
zero_last [] (suc k) = refl
zero_last (w ∷ ws) zero = refl
zero_last (w ∷ ws) (suc k) = zero_last ws k

forward_at : (ws : List ℕ) (k : ℕ) → get_or (forward ws) k 0 ≡ get_or ws (suc k) 0
forward_at [] k = refl
forward_at (w ∷ ws) k = zero_last ws k

length_forward : (ws : List ℕ) → length (forward ws) ≡ length ws
length_forward [] = refl
length_forward (w ∷ ws) = length-append ws (0 ∷ []) ∙ omega arith

-- ---- cells: slot k of the queue from p to q, in an array of slots

abbrev pub cell : Limits → List ℕ → ℕ → ℕ → ℕ → ℕ
cell lim ws p q k = get_or ws (slot lim p q k) 0

-- the array has the slots of every pair
abbrev pub Slots : Limits → List ℕ → Type 0
Slots lim ws = length ws ≡ lim.roles * lim.roles * lim.depth

module _ (lim : Limits) (p q : ℕ) (p_in : p < lim.roles) (q_in : q < lim.roles) where
  pub pair_in : pair lim p q < lim.roles * lim.roles
  pair_in = digits_below lim.roles lim.roles p q q_in p_in

  pub slot_in : (k : ℕ) → k < lim.depth → slot lim p q k < lim.roles * lim.roles * lim.depth
  slot_in k h = digits_below lim.depth (lim.roles * lim.roles) (pair lim p q) k h pair_in

  module _ (p' q' : ℕ) (q_in' : q' < lim.roles) (other : ¬ ((p' ≡ p) × (q' ≡ q))) where
    pub pair_other : pair lim p' q' ≢ pair lim p q
    pair_other e = other (same_digits lim.roles p' q' p q q_in' q_in e)

    pub slot_other : (j k : ℕ) → j < lim.depth → k < lim.depth → slot lim p' q' j ≢ slot lim p q k
    slot_other j k h i e = pair_other (same_digits lim.depth (pair lim p' q') j (pair lim p q) k h i e).0

    pub set_other : (ws : List ℕ) (j k x : ℕ) → j < lim.depth → k < lim.depth
        → cell lim (set ws (slot lim p q k) x) p' q' j ≡ cell lim ws p' q' j
    set_other ws j k x h i = get_or-set_other ws (slot lim p q k) (slot lim p' q' j) x 0 (slot_other j k h i)

  pub set_slot : (ws : List ℕ) (k x : ℕ) → Slots lim ws → k < lim.depth → cell lim (set ws (slot lim p q k) x) p q k ≡ x
  set_slot ws k x e h = get_or-set_same ws (slot lim p q k) x 0 (rw e (slot_in k h))

  pub set_slot_other : (ws : List ℕ) (j k x : ℕ) → j < lim.depth → k < lim.depth → j ≢ k
      → cell lim (set ws (slot lim p q k) x) p q j ≡ cell lim ws p q j
  set_slot_other ws j k x h i n =
      get_or-set_other ws (slot lim p q k) (slot lim p q j) x 0
      (λ e. n (same_digits lim.depth (pair lim p q) j (pair lim p q) k h i e).1)

  module _ (ws : List ℕ) (sized : Slots lim ws) (some : 0 < lim.depth) where
    base_fits : slot lim p q 0 + lim.depth ≤ length ws
    base_fits =
        rw sized (
        omega (arith, mul-le-mul_right {m = suc (pair lim p q)} {n = lim.roles * lim.roles} lim.depth pair_in))

    length_slots : length (slots lim ws p q) ≡ lim.depth
    length_slots = rw (length-take, length-drop) (omega (arith, base_fits))

    length_moved : length (forward (slots lim ws p q)) ≡ lim.depth
    length_moved = length_forward (slots lim ws p q) ∙ length_slots

    moved_fits : slot lim p q 0 + length (forward (slots lim ws p q)) ≤ length ws
    moved_fits = rw length_moved base_fits

    abbrev pub without_first : List ℕ
    without_first = sets ws (slot lim p q 0) (forward (slots lim ws p q))

    pub first_taken : (k : ℕ) → suc k < lim.depth → cell lim without_first p q k ≡ cell lim ws p q (suc k)
    first_taken k h =
        let at : slot lim p q k ≡ slot lim p q 0 + k = omega arith in
        let next : slot lim p q 0 + suc k ≡ slot lim p q (suc k) = omega arith in
        ap (λ x. get_or without_first x 0) at
        ∙ (sets_in ws (slot lim p q 0) (forward (slots lim ws p q)) moved_fits k (rw length_moved (omega arith))
        ∙ (forward_at (slots lim ws p q) k
        ∙ (get_or-take lim.depth (drop (slot lim p q 0) ws) (suc k) 0 h
        ∙ (get_or-drop (slot lim p q 0) ws (suc k) 0 ∙ ap (λ x. get_or ws x 0) next))))

    pub last_freed : (k : ℕ) → suc k ≡ lim.depth → cell lim without_first p q k ≡ 0
    last_freed k h =
        let at : slot lim p q k ≡ slot lim p q 0 + k = omega arith in
        ap (λ x. get_or without_first x 0) at
        ∙ (sets_in ws (slot lim p q 0) (forward (slots lim ws p q)) moved_fits k (rw length_moved (omega arith))
        ∙ (forward_at (slots lim ws p q) k ∙ get_or-eq_default (slots lim ws p q) 0 (rw length_slots (omega arith))))

    pub others_kept : (p' q' k : ℕ) → q' < lim.roles → ¬ ((p' ≡ p) × (q' ≡ q)) → k < lim.depth
        → cell lim without_first p' q' k ≡ cell lim ws p' q' k
    others_kept p' q' k q_in' other h = go (dec_lt (slot lim p' q' k) (slot lim p q 0)) (dec_lt (slot lim p' q' k) (slot lim p q 0 + lim.depth))
      where
        go : Dec (slot lim p' q' k < slot lim p q 0) → Dec (slot lim p' q' k < slot lim p q 0 + lim.depth)
            → cell lim without_first p' q' k ≡ cell lim ws p' q' k
        go (yes less) d = sets_before ws (slot lim p q 0) (forward (slots lim ws p q)) moved_fits (slot lim p' q' k) less
        go (no not_less) (no not_in) =
            sets_after ws (slot lim p q 0) (forward (slots lim ws p q)) moved_fits (slot lim p' q' k) (rw length_moved (omega arith))
        go (no not_less) (yes within) =
            let j : ℕ = slot lim p' q' k - slot lim p q 0 in
            let small : j < lim.depth = omega arith in
            let same : slot lim p' q' k ≡ slot lim p q j = omega arith in
            absurd (slot_other p' q' q_in' other k j h small same)
