-- `lines::read::store` meets its contract. Assumes nothing.
use Prim.Native.Nat.{ℕ}
use mathlib.Core.List.{[], ◌∷◌}
use mathlib.Core.Path.{◌≡◌}
use native.Mathlib.Omega.{arith}
use borrow.Author.Tests.{eq-eqb}
use Rattle.lines.specs.declared.read.Place.TheVariants.{Number}
use Rattle.lines.specs.mirror.Places.{ended_of}
use Rattle.lines.specs.Over.{behind}
use Rattle.lines.proofs.Stores.{stores}
use Rattle.lines.proofs.read.store.Goals as goal

ends : (n b : ℕ) → b ≡ 32 → ended_of (Number n) b ≡ n ∷ []
unfolding ended_of
ends n b h = rw (eq-eqb b 32 h)

pub returns : goal.returns
unfolding behind
returns c = rw (c.in-Number.is, ends _ _ c.if-byte-ne32.false) (omega arith, stores c.args.at (_ ∷ []) _)
