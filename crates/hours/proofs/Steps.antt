-- A tally whose sums are together its latest minute, before and after a record. Assumes nothing.
use Prim.Native.Nat.{ℕ, ◌+◌, ◌-◌, ◌≤◌}
use mathlib.Core.Path.{◌≡◌}
use native.Mathlib.Omega.{arith}
use lib.ListN.{length, get_or, set}
use lib.Seq.{get_or-set_same, get_or-set_other}
use Rattle.words.proofs.Below.{sum_at, sum_two}
use Rattle.hours.specs.mirror.Sums.{SUMS}
use Rattle.hours.specs.declared.tally.Tally.{Tally}
use Rattle.words.specs.Below.{sum}
use Rattle.hours.proofs.Sums.{sum_bump}

module _ (t : Tally) where
  -- no sum passes the latest minute
  pub fits_more : (m : ℕ) → t.last ≤ m → get_or t.sums t.slot 0 + (m - t.last) ≤ m
  fits_more m l =
      let a = sum_at (λ k. get_or t.sums k 0) SUMS t.slot t.near in
      let b = t.full in
      omega arith

  pub full_more : (m : ℕ) → t.last ≤ m → length t.sums ≡ SUMS → sum (λ k. get_or (set t.sums t.slot (get_or t.sums t.slot 0 + (m - t.last))) k 0) SUMS ≡ m
  full_more m l long =
      let near = t.near in
      let a = sum_bump (λ k. get_or t.sums k 0) (λ k. get_or (set t.sums t.slot (get_or t.sums t.slot 0 + (m - t.last))) k 0) SUMS t.slot (m - t.last) near
      (get_or-set_same t.sums t.slot (get_or t.sums t.slot 0 + (m - t.last)) 0 (omega arith))
      (λ k d. get_or-set_other t.sums t.slot k (get_or t.sums t.slot 0 + (m - t.last)) 0 d) in
      let b = t.full in
      omega arith

  -- the minutes before the first record, and those with the minutes asleep
  pub first_le : get_or t.sums 0 0 ≤ t.last
  first_le =
      let a = sum_at (λ k. get_or t.sums k 0) SUMS 0 (omega arith) in
      let b = t.full in
      omega arith

  pub asleep_le : get_or t.sums 1 0 ≤ t.last - get_or t.sums 0 0
  asleep_le =
      let a = sum_two (λ k. get_or t.sums k 0) SUMS 0 1 (omega arith) (omega arith) in
      let b = t.full in
      omega arith
