-- What a good state holds: heads and queues. Assumes nothing.
use Prim.Native.Nat.{ℕ, ◌<◌}
use mathlib.Core.Bool.{true, cond, ◌&&◌, not}
use mathlib.Core.List.{List}
use mathlib.Core.Path.{◌≡◌}
use lib.Dec.{eqb, ltb}
use borrow.Author.Tests.{ltb-true, eqb-false, not-true, lt-ltb}
use Rattle.words.specs.Below.{every}
use Rattle.words.proofs.Below.{every_all, every_at}
use Rattle.table.specs.Limits.{base}
use Rattle.blocks.specs.Block.{part_row, block_rows, is_head}
use Rattle.state.specs.State.{State, head_of, are_pair, head_good, queue_good, state_good}
use Rattle.blocks.proofs.Good.{both}

-- two roles that have a queue
pub pair_in : (roles p q : ℕ) → are_pair roles p q ≡ true → (p < roles) × (q < roles) × (p ≡ q → ⊥)
pair_in roles p q e =
    let (ab, c) = both (ltb p roles && ltb q roles) (not (eqb p q)) e in
    let (a, b) = both (ltb p roles) (ltb q roles) ab in
    (ltb-true _ _ a, ltb-true _ _ b, eqb-false p q (not-true (eqb p q) c))

-- a good state's heads and queues
module _ (ts : List ℕ) (roles : ℕ) (s : State) (good : state_good base ts roles s ≡ true) where
  pub queue_good_lem : (p q : ℕ) → p < 8 → q < 8 → queue_good base roles s p q ≡ true
  unfolding state_good
  queue_good_lem p q lp lq =
      let (a, b) = both (every (head_good ts roles s) 8) (every (λ k. every (queue_good base roles s k) 8) 8) good in
      every_at (queue_good base roles s p) 8 q (every_at (λ k. every (queue_good base roles s k) 8) 8 p b lp) lq

  pub head_good_lem : (r : ℕ) → r < 8 → head_good ts roles s r ≡ true
  unfolding state_good
  head_good_lem r l =
      every_at (head_good ts roles s) 8 r (both (every (head_good ts roles s) 8) (every (λ k. every (queue_good base roles s k) 8) 8) good).0 l

  pub head_stands : (r : ℕ) → r < roles → r < 8 → (head_of s r < block_rows ts roles) × (is_head (part_row ts roles r (head_of s r)) ≡ true)
  head_stands r l m =
      let t : cond (ltb r roles) (ltb (head_of s r) (block_rows ts roles) && is_head (part_row ts roles r (head_of s r))) (eqb (head_of s r) 0) ≡ true = head_good_lem r m in
      let h : (ltb (head_of s r) (block_rows ts roles) && is_head (part_row ts roles r (head_of s r))) ≡ true = rw (lt-ltb r roles l) at t in
      let (a, b) = both (ltb (head_of s r) (block_rows ts roles)) (is_head (part_row ts roles r (head_of s r))) h in
      (ltb-true _ _ a, b)

-- a state is good by its heads and its queues
pub state_from : (ts : List ℕ) (roles : ℕ) (s : State) → ((r : ℕ) → r < 8 → head_good ts roles s r ≡ true)
    → ((p q : ℕ) → p < 8 → q < 8 → queue_good base roles s p q ≡ true) → state_good base ts roles s ≡ true
unfolding state_good
state_from ts roles s hs qs =
    rw (every_all (head_good ts roles s) 8 hs, every_all (λ p. every (queue_good base roles s p) 8) 8 (λ p lp. every_all (queue_good base roles s p) 8 (λ q lq. qs p q lp lq)))
