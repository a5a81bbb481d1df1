-- `lines::write::Written::put_number` meets its contract: the fewest digits that hold the number are its decimal. Assumes nothing.
use Prim.Native.Nat.{◌<◌, ◌^◌}
use mathlib.Core.Path.{◌≡◌, ◌∙◌}
use native.Mathlib.Omega.{arith}
use lib.ListN.{take}
use Rattle.lines.specs.Text.{decimal}
use Rattle.lines.proofs.Texts.{spelt_decimal}
use Rattle.lines.proofs.write.Written.put_number.Goals as goal

pub returns-clause-written : goal.returns-clause-written
returns-clause-written c =
    let spelt = c.decimal-count in
    let small : c.from.result < 2 ^ 32 = omega arith in
    let same : take spelt.result spelt.new.out ≡ decimal c.from.result = spelt.ensures.digits ∙ spelt_decimal _ _ small spelt.ensures.len in
    rw (← c.from.ensures, ← same) c.put.ensures.written
