-- The code's fault as two numbers. Assumes nothing.
use Rattle.std.specs.Prelude.{ℕ, Result, Ok, Err}
use Rattle.std.specs.Int.NonZero.{non_zero_u8_get}
use Rattle.scribble.specs.declared.faults.Fault.{Fault}
use Rattle.scribble.specs.mirror.Least.{Blamed}

-- the place and the number of a fault; no fault has number 0, which stands beside the place kept where there is none
abbrev pub blamed_of : Result Fault ℕ → Blamed
blamed_of (Err place) = record { place = place; number = 0 }
blamed_of (Ok fault) = record { place = fault.place; number = non_zero_u8_get fault.number }
