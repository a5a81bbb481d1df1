-- The customer's paper, 'Parts: projection and merge': a loop in which a role takes no part still stands in its part where a back of it leads to a
-- loop further out. T7's tree shows it, by computation. Assumes nothing.
use Prim.Native.Nat.{ℕ}
use mathlib.Core.Option.{some}
use mathlib.Core.Path.{◌≡◌, refl}
use Rattle.table.specs.Tree.{Global, exchange, loop, back, nil, arm}
use Rattle.parts.specs.Part.{p_end, p_send, p_loop, p_back, p_nil, p_arm}
use Rattle.parts.specs.Projection.{part}

-- 0 tells 1 the label 8, and then the loop that stands d loops further out goes round
abbrev inner : ℕ → Global ℕ
inner d = loop (exchange 0 1 (arm 8 (back d) nil))

-- T7: each time round, 2 tells 0 the label 7 before the inner loop
pub t7_role_2 : part 2 (loop (exchange 2 0 (arm 7 (inner 1) nil))) ≡ some (p_loop (p_send 0 (p_arm 7 (p_loop (p_back 1)) p_nil)))
unfolding part
t7_role_2 = refl

-- did the inner loop never leave, role 2 would end there
pub ends_inside : part 2 (loop (exchange 2 0 (arm 7 (inner 0) nil))) ≡ some (p_loop (p_send 0 (p_arm 7 p_end p_nil)))
unfolding part
ends_inside = refl
