-- `gather::of_each` meets its contract. The loop's invariant: the tally is that of the records before this one. Assumes nothing.
use Rattle.std.proofs.Common.{List}
use Rattle.hours.specs.declared.Record.{Record}
use Rattle.hours.specs.mirror.Tally.{Lists, Fine}
use Rattle.hours.proofs.gather.of_each.Given as goal

abbrev pub invariant-loop-i : goal.invariant-loop-i
invariant-loop-i g l = (rs : List Record) → Lists (goal.F-post g l.read) l.length rs → Fine rs l.roles l.i l.tally
