-- `lines::write::put_few` meets its contract: the bytes that are left to write come to the same as all of them from the start. Assumes nothing.
use lib.ListN.{drop}
use Rattle.lines.proofs.Stores.{Same}
use Rattle.lines.proofs.write.put_few.Given as goal

abbrev pub invariant-loop-byte : goal.invariant-loop-byte
invariant-loop-byte l = Same l.out l.end (drop l.byte-index l.bytes) l.initial.out l.at l.bytes
