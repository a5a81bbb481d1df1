-- `orders::order` meets its contract. Assumes nothing.
use mathlib.Core.Path.{refl}
use native.Mathlib.Omega.{arith}
use Rattle.orders.proofs.Reading.{no_order}
use Rattle.orders.proofs.order.Goals as goal

pub returns-in_default : goal.returns-in_default
returns-in_default c = (no_order _ _ _ (λ e. omega arith) (λ e. omega arith) (λ e. omega arith) (λ e. omega arith) (λ e. omega arith) (λ e. omega arith), refl)
