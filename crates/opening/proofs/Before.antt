-- Request K4: what a table that was accepted, and each refusal, is now. Assumes nothing.
use Prim.Native.Nat.{ℕ, zero, suc, ◌*◌, ◌≤◌, ◌<◌}
use mathlib.Core.Bool.{Bool, true, false, cond, not, true≢false}
use mathlib.Core.List.{List, ◌++◌}
use mathlib.Core.Logic.{◌≢◌}
use mathlib.Core.Option.{Option, none, some}
use mathlib.Core.Path.{◌≡◌, refl, sym, ◌∙◌, ap, ap₂}
use native.Mathlib.Omega.{arith}
use lib.Dec.{ltb}
use lib.ListN.{length}
use borrow.Author.Tests.{lt-ltb, le-ltb, ltb-true, ltb-false, not-true, not-false}
use Rattle.words.proofs.Below.{Lowest, found, nowhere, lowest_is}
use Rattle.table.specs.Limits.{Limits}
use Rattle.table.specs.Numbers.{ACCEPTED, WORDS, ROLES, ROOM, NOPART}
use Rattle.table.specs.Rules.{rules, words_broken, roles_broken}
use Rattle.table.specs.Check.{says, accepted, refused, refused_at, sized, tested, check_of}
use Rattle.table.specs.Check.{Verdict}
use Rattle.parts.specs.Part.{Part}
use Rattle.parts.specs.Projection.{part_of, present}
use Rattle.parts.specs.Layout.{block_of}
use Rattle.parts.specs.Before.{part_of_before}
use Rattle.parts.proofs.Before.{no_other_part}
use Rattle.opening.specs.Opening.{open_of, blocks, room_of}
use Rattle.opening.specs.Before.{open_before, blocks_before, room_before, K4}
use Rattle.projection.proofs.Order.{Stage, hands_on, refuses, stage_cond, stage_both, tested_stage, sized_stage}

-- ---- the tests before rule 11, with what is tested behind them

abbrev earlier : Limits → List ℕ → ℕ → ℕ → Verdict → Verdict
earlier lim t roles room rest = sized lim t roles (refused ROOM (ltb room (roles * length t)) (tested lim t roles rules rest))

earlier_stage : (lim : Limits) (t : List ℕ) (roles room : ℕ) → Stage (earlier lim t roles room)
earlier_stage lim t roles room =
    let test = ltb room (roles * length t) in
    sized_stage lim t roles (λ rest. refused ROOM test (tested lim t roles rules rest))
    (stage_both (refused ROOM test) (tested lim t roles rules) (stage_cond ROOM 0 test (omega arith) (omega arith)) (tested_stage lim t roles rules))

-- where they hand on, the table's rules are kept
earlier_checked : (a b c : Bool) (v : Verdict) → refused WORDS a (refused ROLES b (refused ROOM c v)) ≡ accepted → refused WORDS a (refused ROLES b v) ≡ accepted
earlier_checked true b c v e = e
earlier_checked false true c v e = e
earlier_checked false false true v e = absurd (omega (arith, ap (λ (w : Verdict). w.number) e))
earlier_checked false false false v e = e

checked : (lim : Limits) (t : List ℕ) (roles room : ℕ) → earlier lim t roles room accepted ≡ accepted → check_of lim t roles ≡ accepted
unfolding check_of
checked lim t roles room e = earlier_checked (words_broken lim t) (roles_broken lim roles) (ltb room (roles * length t)) (tested lim t roles rules accepted) e

-- ---- rule 11 over the parts that f gives the first n roles

abbrev rule11 : (ℕ → Option Part) → ℕ → Verdict
rule11 f n = refused_at NOPART (λ r. not (present (f r))) n accepted

data Parts (f : ℕ → Option Part) (n : ℕ) : Verdict → Type 0 where
  complete : ((r : ℕ) → r < n → present (f r) ≡ true) → Parts f n accepted
  lacking : (r : ℕ) → r < n → present (f r) ≡ false → ((k : ℕ) → k < r → present (f k) ≡ true) → Parts f n (says NOPART r)

parts_are : (f : ℕ → Option Part) (n : ℕ) → Parts f n (rule11 f n)
parts_are f n = go (lowest_is (λ r. not (present (f r))) n)
  where
    go : {i : ℕ} → Lowest (λ r. not (present (f r))) n i → Parts f n (cond (ltb i n) (says NOPART i) accepted)
    go (found {i} l e h) = rw (lt-ltb i n l) (lacking i l (not-true (present (f i)) e) (λ k m. not-false (present (f k)) (h k m)))
    go (nowhere h) = rw (le-ltb n n (omega arith)) (complete (λ r l. not-false (present (f r)) (h r l)))

-- f's parts are g's, where f gives one
module _ (f g : ℕ → Option Part) (n : ℕ) (still : (r : ℕ) → r < n → present (f r) ≡ true → g r ≡ f r) where
  kept : (r : ℕ) → r < n → present (f r) ≡ true → present (g r) ≡ true
  kept r l e = ap present (still r l e) ∙ e

  still_complete : {v w : Verdict} → Parts f n v → Parts g n w → v.number ≡ ACCEPTED → (w ≡ accepted) × ((r : ℕ) → r < n → g r ≡ f r)
  still_complete (complete h) (complete k) e = (refl, λ r l. still r l (h r l))
  still_complete (complete h) (lacking r l z k) e = absurd (true≢false (sym (kept r l (h r l)) ∙ z))
  still_complete (lacking r l z h) q e = absurd (omega arith)

  still_lacking : {v w : Verdict} → Parts f n v → Parts g n w → w.number ≡ NOPART → (v.number ≡ NOPART) × (v.place ≤ w.place)
  still_lacking p (complete k) e = absurd (omega arith)
  still_lacking (complete h) (lacking r l z k) e = absurd (true≢false (sym (kept r l (h r l)) ∙ z))
  still_lacking (lacking s i y h) (lacking r l z k) e = (refl, go (ltb r s) refl)
    where
      go : (b : Bool) → ltb r s ≡ b → s ≤ r
      go true b = absurd (true≢false (sym (kept r l (h r (ltb-true r s b))) ∙ z))
      go false b = ltb-false r s b

no_other_number : {f : ℕ → Option Part} {n : ℕ} {v : Verdict} → Parts f n v → v.number ≢ ACCEPTED → v.number ≢ NOPART → ⊥
no_other_number (complete h) a b = a refl
no_other_number (lacking r l z h) a b = b refl

-- ---- a table now and before

present_some : (o : Option Part) → present o ≡ true → (P : Part) × (o ≡ some P)
present_some none e = absurd (true≢false (sym e))
present_some (some P) e = (P, refl)

blocks_same : (t : List ℕ) (n : ℕ) → ((r : ℕ) → r < n → part_of t r ≡ part_of_before t r) → blocks t n ≡ blocks_before t n
unfolding blocks blocks_before
blocks_same t zero h = refl
blocks_same t (suc n) h = ap₂ ◌++◌ (blocks_same t n (λ r i. h r (omega arith))) (ap (block_of t) (h n (omega arith)))

module _ (lim : Limits) (t : List ℕ) (roles : ℕ) where
  -- an earlier rule refuses, now and before; or the parts decide
  data Compared (now before : Verdict) : Type 0 where
    alike : (n at : ℕ) → 0 < n → n < NOPART → now ≡ says n at → before ≡ says n at → Compared now before
    by_parts : check_of lim t roles ≡ accepted → now ≡ rule11 (part_of t) roles → before ≡ rule11 (part_of_before t) roles → Compared now before

  compare : (room : ℕ) → Compared (open_of lim t roles room) (open_before lim t roles room)
  unfolding open_of open_before
  compare room = go (earlier_stage lim t roles room)
    where
      go : Stage (earlier lim t roles room) → Compared (earlier lim t roles room (rule11 (part_of t) roles)) (earlier lim t roles room (rule11 (part_of_before t) roles))
      go (hands_on h) = by_parts (checked lim t roles room (h accepted)) (h (rule11 (part_of t) roles)) (h (rule11 (part_of_before t) roles))
      go (refuses n at p q h) = alike n at p q (h (rule11 (part_of t) roles)) (h (rule11 (part_of_before t) roles))

  still : check_of lim t roles ≡ accepted → (r : ℕ) → r < roles → present (part_of_before t r) ≡ true → part_of t r ≡ part_of_before t r
  still c r l e = let (P, f) = present_some (part_of_before t r) e in no_other_part lim t roles r P c f ∙ sym f

  opened : {now before : Verdict} → Compared now before → before ≡ accepted → (now ≡ accepted) × ((r : ℕ) → r < roles → part_of t r ≡ part_of_before t r)
  opened (alike n at p q e f) b = absurd (omega (arith, ap (λ (v : Verdict). v.number) (sym f ∙ b)))
  opened (by_parts c e f) b =
      let (w, same) = still_complete (part_of_before t) (part_of t) roles (still c) (parts_are (part_of_before t) roles) (parts_are (part_of t) roles) (ap (λ (v : Verdict). v.number) (sym f ∙ b)) in
      (e ∙ w, same)

  room_same : (room : List ℕ) → open_of lim t roles (length room) ≡ accepted → open_before lim t roles (length room) ≡ accepted
      → ((r : ℕ) → r < roles → part_of t r ≡ part_of_before t r) → room_of lim t roles room ≡ room_before lim t roles room
  unfolding room_of room_before
  room_same room e f h = rw (e, f, blocks_same t roles h)

  fewer_now : {now before : Verdict} → Compared now before → now.number ≡ NOPART → (before.number ≡ NOPART) × (before.place ≤ now.place)
  fewer_now (alike n at p q e f) h = absurd (omega (arith, ap (λ (v : Verdict). v.number) e))
  fewer_now (by_parts c e f) h =
      rw (e, f)
      (still_lacking (part_of_before t) (part_of t) roles (still c) (parts_are (part_of_before t) roles) (parts_are (part_of t) roles) (rw e at h))

  same_refusal : {now before : Verdict} → Compared now before → now.number ≢ ACCEPTED → now.number ≢ NOPART → before ≡ now
  same_refusal (alike n at p q e f) a b = f ∙ sym e
  same_refusal (by_parts c e f) a b = absurd (no_other_number (parts_are (part_of t) roles) (rw e at a) (rw e at b))

  was_refused : {now before : Verdict} → Compared now before → before.number ≢ ACCEPTED → before.number ≢ NOPART → now ≡ before
  was_refused (alike n at p q e f) a b = e ∙ sym f
  was_refused (by_parts c e f) a b = absurd (no_other_number (parts_are (part_of_before t) roles) (rw f at a) (rw f at b))

  pub k4 : K4 lim t roles
  k4 = record {
    opens = λ room b. let (e, same) = opened (compare (length room)) b in (e, same, room_same room e b same);
    fewer = λ room. fewer_now (compare room);
    refused_now = λ room. same_refusal (compare room);
    refused_before = λ room. was_refused (compare room);
  }
