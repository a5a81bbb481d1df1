-- Document 01, 'What the coordinator holds': the limits. A definition that depends on them takes them as a parameter. Assumes nothing.
use Rattle.std.specs.Prelude.{ℕ}

pub record Limits : Type 0 where
  -- at most this many roles, and at least two
  pub roles : ℕ
  -- at most this many rows, and at least one
  pub rows : ℕ
  -- labels are the numbers below this
  pub labels : ℕ
  -- a queue holds at most this many messages
  pub depth : ℕ

-- the limits of document 01
abbrev pub base : Limits
base = record { roles = 8; rows = 256; labels = 64; depth = 4 }
