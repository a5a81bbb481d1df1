-- What the code says of orders that set tables, read as a reply. Assumes nothing.
use Prim.Native.Nat.{ℕ, ◌*◌, ◌≤◌, ◌<◌}
use mathlib.Core.Bool.{true, false}
use mathlib.Core.List.{List, [], ◌∷◌}
use mathlib.Core.Path.{◌≡◌, sym, ◌∙◌, ap}
use native.Mathlib.Omega.{arith}
use lib.Dec.{leb}
use lib.ListN.{length, take, drop, length-drop}
use borrow.Author.Tests.{le-leb, lt-leb, leb-true, ne_eqb}
use Rattle.words.proofs.Below.{and_both}
use Rattle.arrayvec.specs.ArrayVec.{ArrayVec}
use Rattle.table.specs.Limits.{base}
use Rattle.table.specs.Check.{Verdict, accepted, says as refusal_says}
use Rattle.table.specs.Refusals.{number_of}
use Rattle.table.specs.declared.refusal.Rule.{Rule}
use Rattle.table.specs.declared.refusal.Rule.TheVariants.{Words, Roles, Room, Kind, Field, Link, Named, Twice, Unbound, Unguarded, NoPart}
use Rattle.opening.specs.Opening.{open_of, blocks}
use Rattle.session.specs.Calls.{fresh_of}
use Rattle.lines.specs.Over.{all_below, fits, narrowed}
use Rattle.orders.specs.Orders.{Kept, number, malformed, opened, tabled, open_order, table_order}
use Rattle.orders.specs.Lines.{keeps}
use Rattle.orders.specs.declared.run.Run.{Run}
use Rattle.orders.specs.declared.run.Said.{Said}
use Rattle.orders.specs.mirror.Said.{Says, said_over}
use Rattle.lines.proofs.Putting.{over_front}
use Rattle.orders.proofs.Lists.{narrowed_is, fits_below}
use Rattle.orders.proofs.Openings.{few}
use Rattle.orders.proofs.Replies.{told as told_as}

-- ---- numbers as words

module _ (ns old : List ℕ) where
  words_below : fits 65536 ns old ≡ true → (length ns ≤ length old) × (all_below 65536 ns ≡ true)
  unfolding fits
  words_below e =
      let both = and_both (leb (length ns) (length old)) (all_below 65536 ns) e in
      (leb-true (length ns) (length old) both.0, both.1)

  -- all of them, at the start
  pub words_read : fits 65536 ns old ≡ true → take (length ns) (narrowed 65536 ns old) ≡ ns
  words_read e =
      let (room, all) = words_below e in
      rw (narrowed_is 65536 ns old room all) (over_front ns old room)

  -- none of them
  pub words_not : fits 65536 ns old ≡ false → narrowed 65536 ns old ≡ old
  unfolding narrowed
  words_not e = rw e

-- ---- `o`

module _ (k : Kept) (ns : List ℕ) where
  pub open_short : length ns < 2 → open_order base k ns ≡ malformed k
  unfolding open_order
  open_short l = rw (lt-leb 2 (length ns) l)

  module _ (l : 2 ≤ length ns) (ws old : List ℕ) (e : ws ≡ drop 2 ns) where
    pub open_wide : length ns ≤ 65536 → length old ≡ 65536 → fits 65536 ws old ≡ false → open_order base k ns ≡ malformed k
    unfolding open_order
    open_wide few_ns room f =
        let short : length ws ≤ length old = rw (e, length-drop 2 ns) (omega arith) in
        let wide : all_below 65536 (drop 2 ns) ≡ false = rw (← e) (sym (fits_below 65536 ws old short) ∙ f) in
        rw (le-leb 2 (length ns) l, wide)

    pub open_told : {s : Said} {after new tab : List ℕ} {roles room : ℕ} → fits 65536 ws old ≡ true → new ≡ narrowed 65536 ws old
        → tab ≡ take (length ws) new → roles ≡ number ns 0 → room ≡ number ns 1
        → Says s after (opened base k roles room tab) → Says s after (open_order base k ns)
    unfolding open_order
    open_told {tab = tab} f g h i j said =
        let all : all_below 65536 (drop 2 ns) ≡ true = rw (← e) (words_below ws old f).1 in
        let same : tab ≡ drop 2 ns = h ∙ (rw g (words_read ws old f) ∙ e) in
        rw (le-leb 2 (length ns) l, all, ← same, ← i, ← j) said

-- an opening that is accepted, and its words
pub open_accepted : {s : Said} (run : Run) (told : ArrayVec ℕ) (t before after : List ℕ) (roles room n : ℕ) → s ≡ said_over run told n roles n → told.items ≡ 0 ∷ 0 ∷ []
    → n ≡ roles * length t → accepted ≡ open_of base t roles room → take (roles * length t) after ≡ blocks t roles
    → Says s after (opened base (keeps run before) roles room t)
unfolding opened
open_accepted run told t before after roles room n e h w f g =
    let small : n ≤ 8192 = omega (arith, w, few t roles room (sym (ap (λ (x : Verdict). x.number) f))) in
    told_as e h (omega arith) small (rw (← f, w, g))

-- and one that is refused
pub open_refused : {s : Said} (run : Run) (told : ArrayVec ℕ) (t before after : List ℕ) (roles room n p : ℕ) → s ≡ said_over run told 0 roles 0 → told.items ≡ n ∷ p ∷ []
    → (n ≡ 0 → ⊥) → refusal_says n p ≡ open_of base t roles room → Says s after (opened base (keeps run before) roles room t)
unfolding opened
open_refused run told t before after roles room n p e h w f =
    told_as e h (omega arith) (omega arith) (rw (← f, ne_eqb n 0 w))

-- no rule's number is 0
pub rule_number : (r : Rule) → number_of r ≡ 0 → ⊥
rule_number Words e = omega arith
rule_number Roles e = omega arith
rule_number Room e = omega arith
rule_number Kind e = omega arith
rule_number Field e = omega arith
rule_number Link e = omega arith
rule_number Named e = omega arith
rule_number Twice e = omega arith
rule_number Unbound e = omega arith
rule_number Unguarded e = omega arith
rule_number NoPart e = omega arith

-- ---- `t`

pub set_short : (k : Kept) (ns : List ℕ) → length ns ≡ 0 → table_order base k ns ≡ malformed k
unfolding table_order
set_short k ns l = rw (lt-leb 1 (length ns) (omega arith))

module _ (run : Run) (ns before : List ℕ) (l : 1 ≤ length ns) {ws new : List ℕ} (e : ws ≡ drop 1 ns)
    (f : new ≡ narrowed 65536 ws before) where
  -- nothing is written
  pub set_wide : length ns ≤ 65536 → length before ≡ 65536 → fits 65536 ws before ≡ false
      → (table_order base (keeps run before) ns ≡ malformed (keeps run before)) × (new ≡ before)
  unfolding table_order
  set_wide few_ns room g =
      let short : length ws ≤ length before = rw (e, length-drop 1 ns) (omega arith) in
      let wide : all_below 65536 (drop 1 ns) ≡ false = rw (← e) (sym (fits_below 65536 ws before short) ∙ g) in
      (rw (le-leb 1 (length ns) l, wide), f ∙ words_not ws before g)

  -- the tables are set
  pub set_told : {s : Said} {tab : List ℕ} {roles n : ℕ} (told : ArrayVec ℕ) → fits 65536 ws before ≡ true → tab ≡ take (length ws) new → roles ≡ number ns 0
      → n ≡ (fresh_of base tab roles).number → told.items ≡ n ∷ [] → s ≡ said_over run told 0 roles (length ws)
      → Says s new (table_order base (keeps run before) ns)
  unfolding table_order tabled
  set_told {tab = tab} told g h i k m j =
      let all : all_below 65536 (drop 1 ns) ≡ true = rw (← e) (words_below ws before g).1 in
      let there : take (length ws) new ≡ ws = rw f (words_read ws before g) in
      let same : tab ≡ drop 1 ns = h ∙ (there ∙ e) in
      let kept : take (length ws) new ≡ drop 1 ns = there ∙ e in
      rw (le-leb 1 (length ns) l, all)
      (told_as j m (omega arith) (omega arith) (rw (kept, k, same, i)))
