-- What one line more makes of a log. Assumes nothing.
use Prim.Native.Nat.{ℕ}
use mathlib.Core.List.{List}
use mathlib.Core.Path.{◌≡◌}
use Rattle.logs.specs.Lines.{line_numbers, counted, recorded, taken_of}
use Rattle.logs.specs.Logs.{records, keeps}
use Rattle.logs.specs.declared.Log.{Log}
use Rattle.logs.specs.declared.State.TheVariants.{Fresh, Faulty, Begun}

module _ (log : Log) (line : List ℕ) where
  pub stays_faulty : (roles : ℕ) → log.state ≡ Faulty roles → keeps log ≡ taken_of (keeps log) line
  unfolding taken_of
  stays_faulty roles e = rw e

  pub takes_count : log.state ≡ Fresh → counted (line_numbers line) ≡ taken_of (keeps log) line
  unfolding taken_of
  takes_count e = rw e

  pub takes_record : (roles : ℕ) → log.state ≡ Begun roles → recorded roles (records log) (line_numbers line) ≡ taken_of (keeps log) line
  unfolding taken_of
  takes_record roles e = rw e
