-- What a tally says after one record more. Assumes nothing.
use Prim.Native.Nat.{ℕ, zero, suc, ◌+◌, ◌-◌, ◌/◌, ◌^◌, ◌≤◌, ◌<◌}
use mathlib.Core.Bool.{Bool, true, false, cond}
use mathlib.Core.List.{List}
use mathlib.Core.Path.{◌≡◌, refl, sym, ap, subst, ◌∙◌}
use native.Mathlib.Omega.{arith}
use lib.Dec.{ltb, eqb}
use lib.ListN.{length, get_or, set}
use lib.Seq.{get_or-set_same, get_or-set_other}
use borrow.Author.Tests.{eqb-true, eqb-false, le-ltb}
use Rattle.words.specs.Below.{sum}
use Rattle.words.proofs.Below.{split}
use Rattle.hours.specs.declared.Record.{Record}
use Rattle.hours.specs.declared.tally.Tally.{Tally}
use Rattle.hours.specs.Records.{at}
use Rattle.hours.specs.Report.{earlier, stray}
use Rattle.std.proofs.Common.{Option, Some, None}
use Rattle.std.specs.Option.{option_or}
use Rattle.std.specs.Bool.{then_some}
use Rattle.hours.specs.mirror.Sums.{SUMS, slot_of}
use Rattle.hours.specs.mirror.Tally.{last_of, slot_at, Noted, clean, first, Fine}
use Rattle.hours.proofs.Sets.{digit_above}

-- ---- one record more

-- the first is noted, and stays
pub noted_next : (p : ℕ → Bool) (i : ℕ) (o : Option ℕ) → Noted p i o → (c : Bool) → p i ≡ c → Noted p (suc i) (option_or o (then_some c i))
noted_next p i None (clean h) true e = first {j = i} (omega arith) e h
noted_next p i None (clean h) false e = clean (split h e)
noted_next p i (Some j) (first l f h) c e = first {j = j} (omega arith) f h

earlier_is : (rs : List Record) (i : ℕ) → ltb (at rs i).minute (last_of rs i) ≡ earlier rs i
earlier_is rs zero = le-ltb (at rs 0).minute 0 (omega arith)
earlier_is rs (suc i) = refl

-- a value raised in a list
raised : (xs : List ℕ) (n i k d : ℕ) → length xs ≡ n → k < n → (b : Bool) → eqb i k ≡ b
    → get_or (set xs i (get_or xs i 0 + d)) k 0 ≡ get_or xs k 0 + cond b d 0
raised xs n i k d e l true f =
    let q = eqb-true i k f in
    let h = get_or-set_same xs k (get_or xs k 0 + d) 0 (omega arith) in
    subst (λ (j : ℕ). get_or (set xs j (get_or xs j 0 + d)) k 0 ≡ get_or xs k 0 + d) (sym q) h
raised xs n i k d e l false f =
    let h = get_or-set_other xs i k (get_or xs i 0 + d) 0 (λ q. eqb-false i k f (sym q)) in
    omega (arith, h)

module _ (rs : List Record) (roles i : ℕ) (t : Tally) (f : Fine rs roles i t) where
  abbrev m : ℕ
  m = (at rs i).minute

  is_late : t.last ≤ m → earlier rs i ≡ false
  is_late l = sym (earlier_is rs i) ∙ le-ltb m (last_of rs i) (rw f.last at l)

  -- the tally of one record more
  fine_next : (u : Tally) → t.last ≤ m → u.stray ≡ option_or t.stray (then_some (ltb 0 ((at rs i).set / 2 ^ roles)) i) → u.last ≡ m → u.slot ≡ slot_of (at rs i).awake (at rs i).set
      → u.sums ≡ set t.sums t.slot (get_or t.sums t.slot 0 + (m - t.last)) → length t.sums ≡ SUMS → Fine rs roles (suc i) u
  unfolding sum
  fine_next u l n a b c long =
      record {
        rising = split f.rising (is_late l);
        noted = rw n (noted_next (stray roles rs) i t.stray f.noted (ltb 0 ((at rs i).set / 2 ^ roles)) (sym (digit_above (at rs i).set roles)));
        last = a;
        slot = b;
        sums = λ k d. rw c (raised t.sums SUMS t.slot k (m - t.last) long d (eqb (slot_at rs i) k) (ap (λ (j : ℕ). eqb j k) f.slot) ∙ rw (f.sums k d, f.last));
      }

  pub fine_step : (r : Record) → r ≡ at rs i → (u : Tally) → t.last ≤ r.minute → u.stray ≡ option_or t.stray (then_some (ltb 0 (r.set / 2 ^ roles)) i)
      → u.last ≡ r.minute → u.slot ≡ slot_of r.awake r.set → u.sums ≡ set t.sums t.slot (get_or t.sums t.slot 0 + (r.minute - t.last)) → length t.sums ≡ SUMS
      → Fine rs roles (suc i) u
  fine_step r e u l n a b c long = fine_next u (rw e at l) (rw e at n) (rw e at a) (rw e at b) (rw e at c) long
