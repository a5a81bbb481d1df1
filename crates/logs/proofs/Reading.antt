-- A line that was read: its numbers, and how many. Assumes nothing.
use Prim.Native.Nat.{ℕ, ◌≤◌}
use mathlib.Core.Bool.{Bool, true, false, cond}
use mathlib.Core.List.{List, []}
use mathlib.Core.Path.{◌≡◌, refl, ◌∙◌}
use native.Mathlib.Omega.{arith}
use lib.Dec.{leb}
use lib.ListN.{length, take}
use borrow.Author.Tests.{leb-true}
use Rattle.words.proofs.Below.{and_both}
use Rattle.std.proofs.Common.{Option, Some, None}
use Rattle.std.specs.Option.{unwrap_or}
use Rattle.lines.specs.Line.{well_formed, numbers_of, count_of}
use Rattle.lines.specs.Over.{overlaid}
use Rattle.lines.proofs.Counting.{few_numbers}
use Rattle.lines.proofs.Putting.{over_front}
use Rattle.logs.specs.Lines.{LONGEST, is_line, line_numbers}

module _ (line old new : List ℕ) (long : length old ≡ LONGEST) (written : new ≡ cond (leb (length line) (length old)) (overlaid 0 (numbers_of line) old) old) where
  read_by : (b : Bool) → is_line line ≡ b → let n = unwrap_or (cond b (Some (length (numbers_of line))) None) 0 in (take n new ≡ cond b (numbers_of line) []) × (n ≤ LONGEST)
  read_by false e = (refl, omega arith)
  read_by true e =
      let short : leb (length line) LONGEST ≡ true = (and_both (leb (length line) LONGEST) (well_formed line) e).0 in
      let all : length (numbers_of line) ≤ length old = omega (arith, leb-true (length line) LONGEST short, few_numbers line) in
      let there : new ≡ overlaid 0 (numbers_of line) old = written ∙ rw (long, short) in
      (rw there (over_front (numbers_of line) old all), omega (arith, all, long))

  pub all_read : (r : Option ℕ) → r ≡ count_of line (length old) → (n : ℕ) → n ≡ unwrap_or r 0 → (take n new ≡ line_numbers line) × (n ≤ LONGEST)
  unfolding count_of
  all_read r e n f = rw (f, e, long) (read_by (is_line line) refl)
