-- The loop of `orders::run::tell`: the numbers so far. Assumes nothing.
use Rattle.std.proofs.Common.{◌≡◌, take}
use Rattle.orders.proofs.run.tell.Given as goal

abbrev pub invariant-loop-number : goal.invariant-loop-number
invariant-loop-number l = l.told.items ≡ take l.number-index l.numbers
