-- Laws of the tests of the numbers below a bound. Assumes nothing.
use Prim.Native.Nat.{ℕ, zero, suc, ◌+◌, ◌≤◌, ◌<◌}
use mathlib.Core.Bool.{Bool, true, false, cond, ◌&&◌, ◌||◌, true≢false, or-true, and-false}
use mathlib.Core.Logic.{⊎_elim}
use mathlib.Core.Path.{◌≡◌, refl, sym}
use lib.Dec.{ltb}
use native.Mathlib.Nat.{eq-or-lt_of_le, le_of_suc-le-suc}
use native.Mathlib.Omega.{arith}
use borrow.Author.Tests.{lt-ltb, le-ltb}
use Rattle.words.specs.Below.{lowest, every, any, sum}

-- what is known below n and at n is known below suc n
pub split : {P : ℕ → Type 0} {n : ℕ} → ((k : ℕ) → k < n → P k) → P n → (k : ℕ) → k < suc n → P k
split {P} {n} f g k l = ⊎_elim (λ e. rw e g) (λ m. f k m) (eq-or-lt_of_le (le_of_suc-le-suc l))

-- ---- lowest

pub lowest_none : (p : ℕ → Bool) (n : ℕ) → ((k : ℕ) → k < n → p k ≡ false) → lowest p n ≡ n
unfolding lowest
lowest_none p zero h = refl
lowest_none p (suc n) h =
    rw (lowest_none p n (λ k l. h k (omega arith)), le-ltb n n (omega arith), h n (omega arith))

-- i is the lowest: the tests above i do not matter
pub lowest_at : (p : ℕ → Bool) (n i : ℕ) → i < n → ((k : ℕ) → k < i → p k ≡ false) → p i ≡ true → lowest p n ≡ i
unfolding lowest
lowest_at p zero i l h e = absurd (omega arith)
lowest_at p (suc n) i l h e =
    ⊎_elim
    (λ q. let r : n ≡ i = sym q in rw (r, lowest_none p i h, le-ltb i i (omega arith), e))
    (λ q. rw (lowest_at p n i q h e, lt-ltb i n q))
    (eq-or-lt_of_le (le_of_suc-le-suc l))

-- what `lowest` says: a test that holds at it and nowhere below it, or none at all
pub data Lowest (p : ℕ → Bool) (n : ℕ) : ℕ → Type 0 where
  found : {i : ℕ} → i < n → p i ≡ true → ((k : ℕ) → k < i → p k ≡ false) → Lowest p n i
  nowhere : ((k : ℕ) → k < n → p k ≡ false) → Lowest p n n

lowest_next : (p : ℕ → Bool) (n i : ℕ) → Lowest p n i → (b : Bool) → p n ≡ b → Lowest p (suc n) (cond (ltb i n) i (cond b n (suc n)))
lowest_next p n i (found {i = j} l e h) b f = rw (lt-ltb j n l) (found {i = j} (omega arith) e h)
lowest_next p n i (nowhere h) true f = rw (le-ltb n n (omega arith)) (found {i = n} (omega arith) f h)
lowest_next p n i (nowhere h) false f = rw (le-ltb n n (omega arith)) (nowhere (split h f))

pub lowest_is : (p : ℕ → Bool) (n : ℕ) → Lowest p n (lowest p n)
unfolding lowest
lowest_is p zero = nowhere (λ k l. absurd (omega arith))
lowest_is p (suc n) = lowest_next p n (lowest p n) (lowest_is p n) (p n) refl

lowest_bound : {p : ℕ → Bool} {n i : ℕ} → Lowest p n i → i ≤ n
lowest_bound {n = n} (found {i = i} l e h) = omega arith
lowest_bound {n = n} (nowhere h) = omega arith

pub lowest_le : (p : ℕ → Bool) (n : ℕ) → lowest p n ≤ n
lowest_le p n = lowest_bound (lowest_is p n)

-- ---- every, any

pub every_all : (p : ℕ → Bool) (n : ℕ) → ((k : ℕ) → k < n → p k ≡ true) → every p n ≡ true
unfolding every
every_all p zero h = refl
every_all p (suc n) h = rw (every_all p n (λ k l. h k (omega arith)), h n (omega arith))

-- both halves of a test, and neither
pub and_both : (a b : Bool) → (a && b) ≡ true → (a ≡ true) × (b ≡ true)
and_both true b e = (refl, e)
and_both false b e = absurd (true≢false (sym e))

pub or_neither : (a b : Bool) → (a || b) ≡ false → (a ≡ false) × (b ≡ false)
or_neither true b e = absurd (true≢false e)
or_neither false b e = (refl, e)

pub every_at : (p : ℕ → Bool) (n k : ℕ) → every p n ≡ true → k < n → p k ≡ true
unfolding every
every_at p zero k e l = absurd (omega arith)
every_at p (suc n) k e l = let (a, b) = and_both (every p n) (p n) e in split (λ i m. every_at p n i a m) b k l

pub every_fails : (p : ℕ → Bool) (n k : ℕ) → k < n → p k ≡ false → every p n ≡ false
unfolding every
every_fails p zero k l e = absurd (omega arith)
every_fails p (suc n) k l e =
    ⊎_elim
    (λ q. let r : n ≡ k = sym q in rw (r, e) (and-false (every p k)))
    (λ q. rw (every_fails p n k q e))
    (eq-or-lt_of_le (le_of_suc-le-suc l))

pub every_ext : (p q : ℕ → Bool) (n : ℕ) → ((k : ℕ) → k < n → p k ≡ q k) → every p n ≡ every q n
unfolding every
every_ext p q zero h = refl
every_ext p q (suc n) h = rw (every_ext p q n (λ k l. h k (omega arith)), h n (omega arith))

pub any_none : (p : ℕ → Bool) (n : ℕ) → ((k : ℕ) → k < n → p k ≡ false) → any p n ≡ false
unfolding any
any_none p zero h = refl
any_none p (suc n) h = rw (any_none p n (λ k l. h k (omega arith)), h n (omega arith))

pub any_at : (p : ℕ → Bool) (n k : ℕ) → k < n → p k ≡ true → any p n ≡ true
unfolding any
any_at p zero k l e = absurd (omega arith)
any_at p (suc n) k l e =
    ⊎_elim
    (λ q. let r : n ≡ k = sym q in rw (r, e) (or-true (any p k)))
    (λ q. rw (any_at p n k q e))
    (eq-or-lt_of_le (le_of_suc-le-suc l))

-- ---- sum

pub sum_ext : (f g : ℕ → ℕ) (n : ℕ) → ((k : ℕ) → k < n → f k ≡ g k) → sum f n ≡ sum g n
unfolding sum
sum_ext f g zero h = refl
sum_ext f g (suc n) h = rw (sum_ext f g n (λ k l. h k (omega arith)), h n (omega arith))

pub sum_zero : (f : ℕ → ℕ) (n : ℕ) → ((k : ℕ) → k < n → f k ≡ 0) → sum f n ≡ 0
unfolding sum
sum_zero f zero h = refl
sum_zero f (suc n) h = rw (sum_zero f n (λ k l. h k (omega arith)), h n (omega arith))

-- one value, and two, are at most the sum
pub sum_at : (f : ℕ → ℕ) (n k : ℕ) → k < n → f k ≤ sum f n
unfolding sum
sum_at f zero k l = absurd (omega arith)
sum_at f (suc n) k l =
    ⊎_elim
    (λ q. rw q (omega arith))
    (λ q. let h = sum_at f n k q in omega arith)
    (eq-or-lt_of_le (le_of_suc-le-suc l))

pub sum_two : (f : ℕ → ℕ) (n j k : ℕ) → j < k → k < n → f j + f k ≤ sum f n
unfolding sum
sum_two f zero j k m l = absurd (omega arith)
sum_two f (suc n) j k m l =
    ⊎_elim
    (λ q. let h = sum_at f n j (omega arith) in rw q (omega arith))
    (λ q. let h = sum_two f n j k m q in omega arith)
    (eq-or-lt_of_le (le_of_suc-le-suc l))

pub sum_le : (f g : ℕ → ℕ) (n : ℕ) → ((k : ℕ) → k < n → f k ≤ g k) → sum f n ≤ sum g n
unfolding sum
sum_le f g zero h = omega arith
sum_le f g (suc n) h =
    let a = sum_le f g n (λ k l. h k (omega arith)) in
    let b = h n (omega arith) in
    omega arith

pub sum_add : (f g : ℕ → ℕ) (n : ℕ) → sum (λ k. f k + g k) n ≡ sum f n + sum g n
unfolding sum
sum_add f g zero = omega arith
sum_add f g (suc n) = let a = sum_add f g n in omega arith

-- at most one for each number
pub sum_most : (f : ℕ → ℕ) (n : ℕ) → ((k : ℕ) → k < n → f k ≤ 1) → sum f n ≤ n
unfolding sum
sum_most f zero h = omega arith
sum_most f (suc n) h =
    let a = sum_most f n (λ k l. h k (omega arith)) in
    let b = h n (omega arith) in
    omega arith
