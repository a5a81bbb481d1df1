-- `projection::Projection::arm_at` meets its contract. Assumes nothing.
use mathlib.Core.Path.{refl, sym, ◌∙◌, ap}
use native.Mathlib.Omega.{arith}
use Rattle.table.specs.Rows.{Arm}
use Rattle.table.specs.mirror.Read.{said}
use Rattle.projection.specs.mirror.Projects.{an_arm}
use Rattle.projection.proofs.Rows.{words_are}
use Rattle.projection.proofs.Projection.arm_at.Goals as goal

pub returns : goal.returns
returns c =
    let (k, a, b, f) = words_are _ _ _ _ (Arm _ _ _) (sym (ap said c.in-Arm.is) ∙ c.read.ensures.0) (omega arith) in
    an_arm _ refl k (λ l. rw a (c.word.ensures (rw a at l))) (c.from.ensures ∙ sym b) (c.from-2.ensures ∙ sym f)
