-- The tally after the last record is the report. Assumes nothing.
use Prim.Native.Nat.{ℕ, zero, suc, ◌+◌, ◌-◌, ◌^◌, ◌≤◌, ◌<◌}
use mathlib.Core.Bool.{Bool, true, false, cond, not}
use mathlib.Core.List.{List}
use mathlib.Core.Path.{◌≡◌, refl, sym, ◌∙◌}
use native.Mathlib.Omega.{arith}
use lib.Count.{ones, count_trailing_zeros}
use lib.Dec.{ltb, eqb}
use lib.ListN.{length, get_or}
use lib.Pow.{pow_mono}
use borrow.Author.Tests.{ne_eqb, lt-ltb, le-ltb, ltb-true, ltb-false, not-false}
use Rattle.words.specs.Below.{sum}
use Rattle.words.proofs.Below.{sum_ext, sum_zero, lowest_none, lowest_at}
use Rattle.table.specs.Limits.{Limits}
use Rattle.hours.specs.declared.Record.{Record}
use Rattle.hours.specs.declared.tally.Tally.{Tally}
use Rattle.hours.specs.Figures.{Figures}
use Rattle.hours.specs.Records.{at, spans, covers, minutes_of, is_alone, is_several, is_nobody, total, awake, asleep, alone, several, nobody}
use Rattle.hours.specs.Report.{MINUTE, SET, earlier, stray, each, refusal, figures, refused_at}
use Rattle.std.proofs.Common.{Option, Some, None}
use Rattle.hours.specs.mirror.Sums.{WIDTH, ALONE, SUMS, slot_of, alone_of}
use Rattle.hours.specs.mirror.Tally.{last_of, slot_at, spent_on, Noted, clean, first, Fine, accepted_of, finish_by, finish_of}
use Rattle.hours.proofs.Sums.{sum_head}
use Rattle.hours.proofs.Each.{each_ext}
use Rattle.hours.proofs.Slots.{slot_first, slot_asleep, is_nobody_lem, is_several_lem, is_alone_lem}
use Rattle.hours.proofs.Minutes.{Rising, awake_asleep}

-- the minutes of a sum are those of the records that it stands for
spent_of : (rs : List Record) (k n : ℕ) → 0 < k → spent_on rs k n ≡ sum (λ i. cond (eqb (slot_of (at rs i).awake (at rs i).set) k) (covers rs i) 0) (n - 1)
unfolding sum
spent_of rs k zero l = refl
spent_of rs k (suc n) l =
    let p : suc n - 1 ≡ n = omega arith in
    rw p (sum_head (λ j. cond (eqb (slot_at rs j) k) ((at rs j).minute - last_of rs j) 0) n
    ∙ rw (ne_eqb 0 k (λ e. absurd (omega arith))) (omega arith))

-- before the first record
spent_first : (rs : List Record) (n : ℕ) → spent_on rs 0 (suc n) ≡ (at rs 0).minute
spent_first rs n =
    let a = sum_zero (λ j. cond (eqb (slot_of (at rs j).awake (at rs j).set) 0) ((at rs (suc j)).minute - (at rs j).minute) 0) n
    (λ j l. rw (slot_first (at rs j).awake (ones (at rs j).set) (count_trailing_zeros WIDTH (at rs j).set))) in
    sum_head (λ j. cond (eqb (slot_at rs j) 0) ((at rs j).minute - last_of rs j) 0) n ∙ omega (arith, a)

total_is : (rs : List Record) (n : ℕ) → last_of rs n - spent_on rs 0 n ≡ (at rs (n - 1)).minute - (at rs 0).minute
unfolding sum
total_is rs zero = omega arith
total_is rs (suc n) = let p : suc n - 1 ≡ n = omega arith in rw (spent_first rs n, p)

module _ (lim : Limits) (wide : lim.roles ≤ WIDTH) (rs : List Record) (roles : ℕ) (few : roles ≤ lim.roles) where
  abbrev n : ℕ
  n = length rs

  abbrev rest : Figures
  rest = refused_at lim SET (stray roles rs) rs (figures lim rs)

  -- record j is the first that is earlier than the one before
  pub early_is : (j : ℕ) → j < n → earlier rs j ≡ true → ((k : ℕ) → k < j → earlier rs k ≡ false) → refusal lim MINUTE j ≡ refused_at lim MINUTE (earlier rs) rs rest
  early_is j l e h = rw (lowest_at (earlier rs) n j l h e, lt-ltb j n l)

  late_is : ((k : ℕ) → k < n → earlier rs k ≡ false) → refused_at lim MINUTE (earlier rs) rs rest ≡ rest
  late_is h = rw (lowest_none (earlier rs) n h, le-ltb n n (omega arith))

  stray_is : (j : ℕ) → j < n → stray roles rs j ≡ true → ((k : ℕ) → k < j → stray roles rs k ≡ false) → refusal lim SET j ≡ rest
  stray_is j l e h = rw (lowest_at (stray roles rs) n j l h e, lt-ltb j n l)

  -- a kind of records by the sum that they go to
  kind_of : (t : Tally) → Fine rs roles n t → (k : ℕ) → 0 < k → k < SUMS → (p : Record → Bool)
      → ((i : ℕ) → i < spans rs → eqb (slot_of (at rs i).awake (at rs i).set) k ≡ p (at rs i)) → get_or t.sums k 0 ≡ minutes_of p rs
  kind_of t f k a b p h =
      f.sums k b ∙ spent_of rs k n a
      ∙ sum_ext (λ i. cond (eqb (slot_of (at rs i).awake (at rs i).set) k) (covers rs i) 0) (λ i. cond (p (at rs i)) (covers rs i) 0) (spans rs) (λ i l. rw (h i l))

  module _ (t : Tally) (f : Fine rs roles n t) (h : (k : ℕ) → k < n → stray roles rs k ≡ false) where
    small : (i : ℕ) → i < spans rs → (at rs i).set < 2 ^ lim.roles
    small i l =
        let a = ltb-true (at rs i).set (2 ^ roles) (not-false (ltb (at rs i).set (2 ^ roles)) (h i (omega arith))) in
        omega (arith, a, pow_mono few)

    rises : Rising rs
    rises k l = ltb-false (at rs (suc k)).minute (at rs k).minute (f.rising (suc k) l)

    total_ends : t.last - get_or t.sums 0 0 ≡ total rs
    total_ends = rw (f.last, f.sums 0 (omega arith)) (total_is rs n)

    asleep_ends : get_or t.sums 1 0 ≡ asleep rs
    asleep_ends = kind_of t f 1 (omega arith) (omega arith) (λ r. not r.awake) (λ i l. slot_asleep (at rs i).awake (ones (at rs i).set) (count_trailing_zeros WIDTH (at rs i).set))

    awake_ends : t.last - get_or t.sums 0 0 - get_or t.sums 1 0 ≡ awake rs
    awake_ends = let a = awake_asleep rs rises in rw (total_ends, asleep_ends) (omega (arith, a))

    nobody_ends : get_or t.sums 2 0 ≡ nobody lim rs
    nobody_ends = kind_of t f 2 (omega arith) (omega arith) (is_nobody lim) (λ i l. is_nobody_lem lim wide (at rs i) (small i l))

    several_ends : get_or t.sums 3 0 ≡ several lim rs
    several_ends = kind_of t f 3 (omega arith) (omega arith) (is_several lim) (λ i l. is_several_lem lim wide (at rs i) (small i l))

    alone_ends : alone_of lim t.sums ≡ each (λ k. alone lim k rs) lim.roles
    alone_ends =
        each_ext (λ k. get_or t.sums (ALONE + k) 0) (λ k. alone lim k rs) lim.roles
        (λ k m. kind_of t f (ALONE + k) (omega arith) (omega arith) (is_alone lim k) (λ i l. is_alone_lem lim wide (at rs i) (small i l) k m))

    all_ends : accepted_of lim t ≡ rest
    all_ends = rw (lowest_none (stray roles rs) n h, le-ltb n n (omega arith), awake_ends, total_ends, asleep_ends, nobody_ends, several_ends, alone_ends)

  noted_ends : (t : Tally) → Fine rs roles n t → (o : Option ℕ) → Noted (stray roles rs) n o → finish_by lim t o ≡ rest
  noted_ends t f None (clean h) = all_ends t f h
  noted_ends t f (Some j) (first l e h) = stray_is j l e h

  pub fine_ends : (t : Tally) → Fine rs roles n t → finish_of lim t ≡ refused_at lim MINUTE (earlier rs) rs rest
  fine_ends t f = noted_ends t f t.stray f.noted ∙ sym (late_is f.rising)
