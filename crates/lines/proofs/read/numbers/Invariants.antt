-- `lines::read::numbers` meets its contract: what is left to read comes to the same as all behind the letter. Assumes nothing.
use mathlib.Core.Path.{◌≡◌}
use lib.ListN.{length}
use Rattle.lines.proofs.Counting.{Left}
use Rattle.lines.proofs.read.numbers.Given as goal

abbrev pub invariant-loop-byte : goal.invariant-loop-byte
invariant-loop-byte l = (length l.out ≡ length l.initial.out) × Left l.behind l.initial.out l.out l.at l.place l.byte-index
