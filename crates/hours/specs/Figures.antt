-- What a report says in the customer's paper: a number, 0 for an accepted log; the record that it names; the minutes. Assumes nothing.
use Rattle.std.specs.Prelude.{ℕ, List}

pub record Figures : Type 0 where
  pub number : ℕ
  pub place : ℕ
  pub total : ℕ
  pub awake : ℕ
  pub asleep : ℕ
  pub alone : List ℕ
  pub several : ℕ
  pub nobody : ℕ
