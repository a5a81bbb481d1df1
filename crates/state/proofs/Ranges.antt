-- What `all` over the numbers below n answers. Assumes nothing.
use Prim.Native.Nat.{ℕ, ◌<◌}
use Rattle.std.specs.Bool.{MatchBool}
use Rattle.std.specs.Fn.{Called}
use Rattle.std.specs.Iterator.{YieldsThen}
use Rattle.std.specs.List.{range_with_len, FoldsTo, AllWithin, HoldsAt}
use Rattle.std.specs.Option.{MatchOption}
use Rattle.std.proofs.iter.Yields.{nat_range_steps}
use Rattle.std.proofs.lemmas.Iterator.{cases_from_all, YieldsList-from_range}
use Rattle.std.proofs.lemmas.List.FromFn.{length-range_with_len, get_or-range_with_len}
use Rattle.std.specs.declared.ops.Range.{Range}
use denote.Param.Members.{Mut}
use lib.ListN.{length, get_or}
use mathlib.Core.Bool.{Bool, true, false}
use mathlib.Core.List.{List}
use Rattle.std.specs.declared.option.Option.{Option}
use mathlib.Core.Path.{◌≡◌, refl, sym, subst}
use native.Mathlib.Omega.{arith}
use Rattle.words.specs.Below.{every}
use Rattle.words.proofs.Below.{every_all, every_fails}

pub every_from_all : {F : Type 0} {g : Mut F (ℕ × Unit {0}) Bool} (u : Range ℕ) (f : F) (n : ℕ) (r : Bool) (p : ℕ → Bool)
    → (xs : List ℕ) × (o : Option ℕ) × (j : F) × YieldsThen nat_range_steps (record { start = 0; end = n }) xs o u × FoldsTo (λ k x q. Called g k (x, tt) true q) f xs j × MatchOption o (r ≡ true) (λ x. (r ≡ false) × ((h : F) × Called g j (x, tt) false h))
    → ((x : ℕ) (q : F) → Called g f (x, tt) true q → (q ≡ f) × (p x ≡ true)) → ((x : ℕ) (q : F) → Called g f (x, tt) false q → p x ≡ false)
    → r ≡ every p n
every_from_all u f n r p d yes' no' = by r (cases_from_all u f r (λ x. p x ≡ true) (λ x. p x ≡ false) d (YieldsList-from_range 0 n n refl (omega arith)) yes' no')
  where
    all : List ℕ
    all = range_with_len 0 n

    long : length all ≡ n
    long = length-range_with_len 0 n

    at : (k : ℕ) → k < n → get_or all k 0 ≡ k
    at k l = omega (arith, get_or-range_with_len 0 n k 0 l)

    by : (b : Bool) → MatchBool b (AllWithin (λ x. p x ≡ true) all 0 (length all)) ((k : ℕ) × (k < length all) × HoldsAt (λ x. p x ≡ false) all k) → b ≡ every p n
    by true h = sym (every_all p n (λ k l. subst (λ x. p x ≡ true) (at k l) (h k 0 (omega arith) (omega (arith, long)))))
    by false h = let l : h.0 < n = omega (arith, long, h.1) in sym (every_fails p n h.0 l (subst (λ x. p x ≡ false) (at h.0 l) (h.2 0)))
