-- Over good tables and a good state the peer of a head is a role. Assumes nothing.
use Prim.Native.Nat.{ℕ, ◌<◌, ◌≤◌}
use mathlib.Core.Bool.{true}
use mathlib.Core.List.{List}
use mathlib.Core.Path.{◌≡◌}
use native.Mathlib.Omega.{arith}
use Rattle.table.specs.Limits.{base}
use Rattle.blocks.specs.Block.{PartRow, End, Arm, Loop, Back, Send, Receive, Other, part_row, block_rows}
use Rattle.blocks.specs.Tables.{tables_good, row_holds}
use Rattle.state.specs.State.{State, head_of, state_good}
use Rattle.state.specs.mirror.Turns.{LowPeer}
use Rattle.blocks.proofs.Good.{sized_bounds}
use Rattle.blocks.proofs.Sound.{good_sized, row_holds_lem, send_peer, receive_peer}
use Rattle.state.proofs.Sound.{head_stands}

holds_low : (ts : List ℕ) (roles r i : ℕ) (row : PartRow) → roles ≤ 8 → row_holds base ts roles r i row ≡ true → LowPeer base row
holds_low ts roles r i (End a b c) few h = tt
holds_low ts roles r i (Arm k c n) few h = tt
holds_low ts roles r i (Loop b x y) few h = tt
holds_low ts roles r i (Back j x y) few h = tt
holds_low ts roles r i (Send q f x) few h = let m = send_peer ts roles r i q f x h in omega (arith, few, m.0)
holds_low ts roles r i (Receive p f x) few h = let m = receive_peer ts roles r i p f x h in omega (arith, few, m.0)
holds_low ts roles r i Other few h = tt

pub low_peer : (ts : List ℕ) (roles r : ℕ) (s : State) → tables_good base ts roles ≡ true → state_good base ts roles s ≡ true → r < roles
    → LowPeer base (part_row ts roles r (head_of s r))
low_peer ts roles r s good standing l =
    let b = sized_bounds ts roles (block_rows ts roles) (good_sized ts roles good) in
    let hs = head_stands ts roles s standing r l (omega (arith, b.1)) in
    holds_low ts roles r (head_of s r) _ b.1 (row_holds_lem ts roles good r l (head_of s r) hs.0)
