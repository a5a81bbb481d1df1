-- A line taken apart: its letter and its numbers. Assumes nothing.
use Prim.Native.Nat.{ℕ, ◌≤◌}
use mathlib.Core.Bool.{true, false, cond}
use mathlib.Core.List.{List, [], ◌∷◌}
use mathlib.Core.Path.{◌≡◌, refl, ◌∙◌, ap}
use native.Mathlib.Omega.{arith}
use lib.Dec.{leb}
use lib.ListN.{length, get_or, take}
use borrow.Author.Tests.{leb-true, ne_eqb}
use Rattle.std.proofs.Common.{Some, None}
use Rattle.std.specs.List.{slice_get}
use Rattle.words.proofs.Below.{and_both}
use Rattle.table.specs.Limits.{base}
use Rattle.lines.specs.Line.{well_formed, numbers_of, count_of}
use Rattle.lines.specs.Over.{overlaid}
use Rattle.lines.proofs.Counting.{few_numbers}
use Rattle.orders.specs.Orders.{Kept, Reply, malformed, is_call, call_order, order_of}
use Rattle.orders.specs.Lines.{Written, worded, written, is_line, keeps, reply_to, writes, answer_of}
use Rattle.orders.specs.declared.run.Run.{Run}
use Rattle.orders.specs.declared.run.Said.{Said}
use Rattle.orders.specs.mirror.Said.{says, Says}
use Rattle.lines.proofs.Putting.{over_front}
use Rattle.orders.proofs.Replies.{none_of, some_of}

-- a letter that no order has
pub no_order : (k : Kept) (letter : ℕ) (ns : List ℕ) → (letter ≡ 111 → ⊥) → (letter ≡ 116 → ⊥) → (letter ≡ 102 → ⊥) → (letter ≡ 104 → ⊥) → (letter ≡ 115 → ⊥) → (letter ≡ 114 → ⊥)
    → order_of base k letter ns ≡ malformed k
unfolding order_of call_order is_call
no_order k letter ns a b c d e f = rw (ne_eqb letter 111 a, ne_eqb letter 116 b, ne_eqb letter 102 c, ne_eqb letter 104 d, ne_eqb letter 115 e, ne_eqb letter 114 f)

-- a malformed line
pub not_line : (k : Kept) (line : List ℕ) → is_line line ≡ false → reply_to base k line ≡ malformed k
unfolding reply_to
not_line k line e = rw e

no_line : (line : List ℕ) → length line ≡ 0 → is_line line ≡ false
unfolding well_formed
no_line [] e = refl
no_line (b ∷ bs) e = absurd (omega arith)

-- the first byte, if there is one
pub first_none : (line : List ℕ) → None ≡ slice_get line 0 → length line ≡ 0
first_none [] e = refl
first_none (b ∷ bs) e = absurd (cc)

pub first_some : (line : List ℕ) (b : ℕ) → Some b ≡ slice_get line 0 → b ≡ get_or line 0 0
first_some [] b e = absurd (cc)
first_some (c ∷ bs) b e = cc

module _ (k : Kept) (line old : List ℕ) (long : length old ≡ 65536) where
  pub no_count : None ≡ count_of line (length old) → reply_to base k line ≡ malformed k
  unfolding count_of
  no_count e = not_line k line (none_of (is_line line) (length (numbers_of line)) (rw long at e))

  pub no_letter : length line ≡ 0 → reply_to base k line ≡ malformed k
  no_letter e = not_line k line (no_line line e)

  -- a line with n numbers
  module _ (n : ℕ) (e : Some n ≡ count_of line (length old)) where
    counted : (is_line line ≡ true) × (n ≡ length (numbers_of line))
    unfolding count_of
    counted = some_of (is_line line) (length (numbers_of line)) n (rw long at e)

    pub numbers_read : (new : List ℕ) → new ≡ cond (leb (length line) (length old)) (overlaid 0 (numbers_of line) old) old → take n new ≡ numbers_of line
    numbers_read new g =
        let short : leb (length line) 65536 ≡ true = (and_both (leb (length line) 65536) (well_formed line) counted.0).0 in
        let all : length (numbers_of line) ≤ length old = omega (arith, leb-true (length line) 65536 short, few_numbers line) in
        let there : new ≡ overlaid 0 (numbers_of line) old = g ∙ rw (long, short) in
        rw (counted.1, there) (over_front (numbers_of line) old all)

    -- the order that it is
    pub the_order : (letter : ℕ) (new ns : List ℕ) → letter ≡ get_or line 0 0 → new ≡ cond (leb (length line) (length old)) (overlaid 0 (numbers_of line) old) old
        → ns ≡ take n new → order_of base k letter ns ≡ reply_to base k line
    unfolding reply_to
    the_order letter new ns f g h = rw (counted.0, f, h, numbers_read new g)

-- the answer to a malformed line
pub answered_none : (run : Run) (ws after line text : List ℕ) → reply_to base (keeps run ws) line ≡ malformed (keeps run ws) → after ≡ ws → take 2 text ≡ 63 ∷ 10 ∷ []
    → (writes (record { length = 2; run = run }) after text ≡ answer_of base (keeps run ws) line) × (2 ≡ length (answer_of base (keeps run ws) line).text)
unfolding answer_of worded
answered_none run ws after line text e f g = rw (e, f, g) (refl, refl)

-- and to an order
pub answered_some : (s : Said) (k : Kept) (after line text : List ℕ) (n : ℕ) → Says s after (reply_to base k line)
    → take n text ≡ worded (says s after).numbers → n ≡ length (worded (says s after).numbers)
    → (writes (record { length = n; run = s.run }) after text ≡ answer_of base k line) × (n ≡ length (answer_of base k line).text)
unfolding answer_of
answered_some s k after line text n said e f =
    let same : (says s after).numbers ≡ (reply_to base k line).numbers = ap (λ (r : Reply). r.numbers) said.reply in
    (written_as e ∙ ap written said.reply, f ∙ ap (λ (ns : List ℕ). length (worded ns)) same)
  where
    written_as : {t u : List ℕ} → t ≡ u → ◌≡◌ {A = Written} (record { text = t; kept = keeps s.run after }) (record { text = u; kept = keeps s.run after })
    written_as g = rw g
