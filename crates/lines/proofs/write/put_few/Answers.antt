-- `lines::write::put_few` meets its contract: the bytes that are left to write come to the same as all of them from the start. Assumes nothing.
use Rattle.lines.proofs.Stores.{start, byte_written, bytes_written}
use Rattle.lines.proofs.write.put_few.Goals as goal

pub loop-byte-init : goal.loop-byte-init
loop-byte-init c = start _ _ _

pub loop-byte-preserved : goal.loop-byte-preserved
loop-byte-preserved c = byte_written _ _ _ _ _ _ _ c.loop-byte-test.true c.put_byte-end.ensures c.loop-byte.invariant

pub returns : goal.returns
returns c = bytes_written _ _ _ _ _ _ c.loop-byte-test.false c.loop-byte.invariant
