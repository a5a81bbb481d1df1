-- `lines::write::put_byte` meets its contract. Assumes nothing.
use mathlib.Core.List.{[], ◌∷◌}
use native.Mathlib.Omega.{arith}
use Rattle.lines.specs.Over.{behind}
use Rattle.lines.proofs.Stores.{stores, past_end}
use Rattle.lines.proofs.write.put_byte.Goals as goal

pub returns-then-out-at : goal.returns-then-out-at
unfolding behind
returns-then-out-at c = (omega arith, past_end c.args.at (c.args.byte ∷ []) c.args.out.now c.if-out-at.true)

pub returns : goal.returns
unfolding behind
returns c = (omega arith, stores c.args.at (c.args.byte ∷ []) c.args.out.now)
