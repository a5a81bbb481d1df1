-- The lowest row that breaks a rule: found by a loop over the rows, or as the least of what is found at each row. Assumes nothing.
use Prim.Native.Nat.{ℕ, ◌+◌, ◌≤◌, ◌<◌}
use mathlib.Core.Bool.{Bool, true, false, true≢false}
use mathlib.Core.Path.{◌≡◌, refl, sym, ◌∙◌, ap}
use native.Mathlib.Decide.{dec_lt, ℕ_discrete}
use native.Mathlib.Nat.{min-eq_left, min-eq_right}
use native.Mathlib.Omega.{arith}
use borrow.Author.Tests.{lt-ltb, le-ltb}
use Rattle.std.specs.Prelude.{Option, Some, None, min}
use Rattle.std.specs.Option.{MatchOption, is_some, unwrap_or}
use Rattle.words.proofs.Below.{Lowest, found, nowhere, lowest_is, lowest_at, lowest_none}
use Rattle.table.specs.Check.{says, accepted, refused_at}
use Rattle.rules.specs.mirror.Blame.{Refuses, IsLeast}

-- ---- a rule whose test is asked of each row

pub refused_here : (n m i : ℕ) (answers : ℕ → Bool → Type 0) → i < m → ((k : ℕ) → k < i → answers k false) → answers i true
    → Refuses n m answers (says n i)
refused_here n m i answers l before here p is =
    rw (lowest_at p m i l (λ k h. sym (is k false (omega arith) (before k h))) (sym (is i true l here)), lt-ltb i m l) refl

pub refused_nowhere : (n m : ℕ) (answers : ℕ → Bool → Type 0) → ((k : ℕ) → k < m → answers k false) → Refuses n m answers accepted
refused_nowhere n m answers none p is =
    rw (lowest_none p m (λ k h. sym (is k false h (none k h))), le-ltb m m (omega arith)) refl

-- ---- a rule that finds at a row another row that breaks it

-- what is found is a row that the test holds of
pub data Sound (p : ℕ → Bool) (n : ℕ) : Option ℕ → Type 0 where
  none : Sound p n None
  some : {i : ℕ} → i < n → p i ≡ true → Sound p n (Some i)

sound_at : {p : ℕ → Bool} {n : ℕ} {o : Option ℕ} (k : ℕ) → Sound p n o → o ≡ Some k → (k < n) × (p k ≡ true)
sound_at k none e = absurd (true≢false (ap is_some (sym e)))
sound_at {p = p} {n = n} k (some {i = i} l h) e = let q : i ≡ k = ap (λ o. unwrap_or o 0) e in (rw q at l, rw q at h)

-- the lowest row that the test holds of is found at some row
pub data Finds (g : ℕ → Option ℕ) (n i : ℕ) : Type 0 where
  finds : (e : ℕ) → e < n → g e ≡ Some i → Finds g n i

module _ (n m : ℕ) (p : ℕ → Bool) (g : ℕ → Option ℕ) (sound : (e : ℕ) → e < m → Sound p m (g e))
    (complete : (i : ℕ) → i < m → p i ≡ true → ((k : ℕ) → k < i → p k ≡ false) → Finds g m i) where
  -- the least that is found is the lowest row that breaks the rule
  least_some : (k : ℕ) → IsLeast g m (Some k) → {i : ℕ} → Lowest p m i → (k < m) × (i ≡ k)
  least_some k ((e, l, q), low) (found {i = i} il ie before) = go (sound_at k (sound e l) q) (complete i il ie before) (dec_lt k i)
    where
      go : (k < m) × (p k ≡ true) → Finds g m i → Dec (k < i) → (k < m) × (i ≡ k)
      go (h, t) (finds d dl dq) (yes lt) = absurd (true≢false (sym t ∙ before k lt))
      go (h, t) (finds d dl dq) (no ge) = let a = low d i dl dq in (h, omega arith)
  least_some k ((e, l, q), low) (nowhere gone) =
      let (h, t) = sound_at k (sound e l) q in absurd (true≢false (sym t ∙ gone k h))

  pub least_refused : (k : ℕ) → IsLeast g m (Some k) → says n k ≡ refused_at n p m accepted
  least_refused k h =
      let (l, e) = least_some k h (lowest_is p m) in
      rw (e, lt-ltb k m l) refl

  none_found : IsLeast g m None → {i : ℕ} → Lowest p m i → i ≡ m
  none_found gone (found {i = i} l e before) = go (complete i l e before)
    where
      go : Finds g m i → i ≡ m
      go (finds d dl dq) = absurd (true≢false (ap is_some (sym dq ∙ gone d dl)))
  none_found gone (nowhere h) = refl

  pub least_accepted : IsLeast g m None → accepted ≡ refused_at n p m accepted
  least_accepted gone = rw (none_found gone (lowest_is p m), le-ltb m m (omega arith)) refl

-- ---- the least, row by row

pub least_next : (g : ℕ → Option ℕ) (n : ℕ) (o : Option ℕ) → g n ≡ None → IsLeast g n o → IsLeast g (n + 1) o
least_next g n None z h = λ e l. go e l (ℕ_discrete e n)
  where
    go : (e : ℕ) → e < n + 1 → Dec (e ≡ n) → g e ≡ None
    go e l (yes q) = rw q z
    go e l (no q) = h e (omega arith)
least_next g n (Some k) z ((e, l, q), low) = ((e, omega arith, q), λ d i m r. go d i m r (ℕ_discrete d n))
  where
    go : (d i : ℕ) → d < n + 1 → g d ≡ Some i → Dec (d ≡ n) → k ≤ i
    go d i m r (yes s) = absurd (true≢false (ap is_some (sym r ∙ (ap g s ∙ z))))
    go d i m r (no s) = low d i (omega arith) r

least_first : (g : ℕ → Option ℕ) (n a : ℕ) → g n ≡ Some a → IsLeast g n None → IsLeast g (n + 1) (Some a)
least_first g n a s h = ((n, omega arith, s), λ d i m r. go d i m r (ℕ_discrete d n))
  where
    go : (d i : ℕ) → d < n + 1 → g d ≡ Some i → Dec (d ≡ n) → a ≤ i
    go d i m r (yes q) = let e : a ≡ i = ap (λ o. unwrap_or o 0) (sym s ∙ (ap g (sym q) ∙ r)) in omega arith
    go d i m r (no q) = absurd (true≢false (ap is_some (sym r ∙ h d (omega arith))))

-- the lesser of what was found before and what is found now
least_more : (g : ℕ → Option ℕ) (n a k r : ℕ) → g n ≡ Some a → IsLeast g n (Some k) → r ≡ min k a → IsLeast g (n + 1) (Some r)
least_more g n a k r s ((e, l, q), low) f = go (dec_lt a k)
  where
    below : r ≤ a → r ≤ k → (d i : ℕ) → d < n + 1 → g d ≡ Some i → Dec (d ≡ n) → r ≤ i
    below ra rk d i m x (yes y) = let z : a ≡ i = ap (λ o. unwrap_or o 0) (sym s ∙ (ap g (sym y) ∙ x)) in omega arith
    below ra rk d i m x (no y) = let z = low d i (omega arith) x in omega arith

    go : Dec (a < k) → IsLeast g (n + 1) (Some r)
    go (yes h) =
        let u : r ≡ a = f ∙ min-eq_right (omega arith) in
        ((n, omega arith, rw u s), λ d i m x. below (omega arith) (omega arith) d i m x (ℕ_discrete d n))
    go (no h) =
        let u : r ≡ k = f ∙ min-eq_left (omega arith) in
        ((e, omega arith, rw u q), λ d i m x. below (omega arith) (omega arith) d i m x (ℕ_discrete d n))

pub least_with : (g : ℕ → Option ℕ) (n a r : ℕ) (o : Option ℕ) (P : ℕ → Type 0) → g n ≡ Some a → IsLeast g n o → MatchOption o (r ≡ a) P
    → ((k : ℕ) → P k → r ≡ min k a) → IsLeast g (n + 1) (Some r)
least_with g n a r None P s h e f = rw e (least_first g n a s h)
least_with g n a r (Some k) P s h e f = least_more g n a k r s h (f k e)
