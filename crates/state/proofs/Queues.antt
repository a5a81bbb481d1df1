-- Rule 13: what was read of a queue. Assumes nothing.
use Prim.Native.Nat.{ℕ, ◌+◌, ◌*◌, ◌≤◌}
use mathlib.Core.Bool.{Bool, true, ◌||◌}
use mathlib.Core.Path.{◌≡◌, subst}
use lib.Dec.{eqb}
use lib.ListN.{get_or}
use borrow.Author.Tests.{le-leb}
use Rattle.words.specs.Below.{every}
use Rattle.table.specs.Limits.{base}
use Rattle.state.specs.State.{State, held, are_pair, queue_good}
use Rattle.state.specs.mirror.State.{slot_holds}

-- what was read of the queue from p to q: how many it holds, no more than it may, and what was found of its slots
pub queue_read : (roles p q : ℕ) (s : State) {n : ℕ} {r : Bool} → n ≡ held base s p q → n ≤ 4 → (are_pair roles p q || eqb n 0) ≡ true
    → r ≡ every (λ k. slot_holds base n k (get_or s.labels ((p * 8 + q) * 4 + k) 0) (get_or s.payloads ((p * 8 + q) * 4 + k) 0)) 4
    → r ≡ queue_good base roles s p q
queue_read roles p q s en l e er =
    rw (er, en, le-leb _ _ (subst (λ k. k ≤ 4) en l), subst (λ k. (are_pair roles p q || eqb k 0) ≡ true) en e)
