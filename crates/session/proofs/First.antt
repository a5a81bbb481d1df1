-- Laws of the first heads, as the loop that finds them needs them. Assumes nothing.
use Prim.Native.Nat.{ℕ, zero, suc, ◌+◌, ◌-◌, ◌<◌, ◌≤◌}
use mathlib.Core.List.{List, [], ◌∷◌, ◌++◌, append_assoc, append-nil}
use mathlib.Core.Path.{◌≡◌, refl, sym, ◌∙◌}
use lib.ListN.{length, set, replicate, length-append}
use lib.Seq.{set_at}
use native.Mathlib.Omega.{arith}
use borrow.Author.Tests.{lt-ltb, le-ltb}
use Rattle.blocks.specs.Head.{head}
use Rattle.session.specs.Calls.{first_heads}

pub length_first : (ts : List ℕ) (roles n : ℕ) → length (first_heads ts roles n) ≡ n
unfolding first_heads
length_first ts roles zero = refl
length_first ts roles (suc n) = simp length-append (omega (arith, length_first ts roles n))

-- the heads of the roles below n, and 0 for the m others
module _ (ts : List ℕ) (roles n m : ℕ) (hs : List ℕ) (left : 8 - n ≡ suc m) (before : hs ≡ first_heads ts roles n ++ replicate (8 - n) 0) where
  spread : hs ≡ first_heads ts roles n ++ 0 ∷ replicate m 0
  spread = rw left at before

  pub one_head : n < roles → (h : ℕ) → h ≡ head ts roles n 0 → set hs n h ≡ first_heads ts roles (suc n) ++ replicate m 0
  unfolding first_heads
  one_head l h e =
      rw (lt-ltb n roles l, ← e, spread)
      (set_at (first_heads ts roles n) 0 (replicate m 0) h n (length_first ts roles n)
      ∙ sym (append_assoc (first_heads ts roles n) (h ∷ []) (replicate m 0)))

  pub no_head : roles ≤ n → hs ≡ first_heads ts roles (suc n) ++ replicate m 0
  unfolding first_heads
  no_head l = rw (le-ltb n roles l) (spread ∙ sym (append_assoc (first_heads ts roles n) (0 ∷ []) (replicate m 0)))

-- behind the roles that are there, all is 0
pub none_left : (ts : List ℕ) (roles m n : ℕ) → n + m ≡ 8 → roles ≤ n → first_heads ts roles n ++ replicate (8 - n) 0 ≡ first_heads ts roles 8
none_left ts roles zero n e l = let q : n ≡ 8 = omega (arith, e) in rw q (append-nil _)
none_left ts roles (suc m) n e l =
    let k : m ≡ 8 - suc n = omega (arith, e) in
    no_head ts roles n m _ (omega (arith, e)) refl l ∙ rw k (none_left ts roles m (suc n) (omega (arith, e)) (omega (arith, l)))
