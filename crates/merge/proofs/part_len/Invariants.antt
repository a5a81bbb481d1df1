-- `merge::part_len` meets its contract. The loop's invariant: what is left to pass ends where the whole ends, and no more is owed than words
-- were passed. Assumes nothing.
use Prim.Native.Nat.{◌+◌, ◌≤◌, ◌<◌}
use mathlib.Core.Path.{◌≡◌}
use lib.ListN.{drop}
use Rattle.merge.specs.mirror.Merging.{ends}
use Rattle.merge.proofs.Ends.{passed}
use Rattle.merge.proofs.part_len.Given as goal

abbrev pub invariant-loop-i : goal.invariant-loop-i
invariant-loop-i l = (0 < l.owed) × (l.owed ≤ l.i + 1) × (ends l.words 1 ≡ passed l.i (ends (drop l.i l.words) l.owed))
