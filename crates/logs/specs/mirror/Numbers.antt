-- The record that a line of these numbers is. Assumes nothing.
use Rattle.std.specs.Prelude.{ℕ, ◌^◌, cond, ◌&&◌, List, [], ◌∷◌, ltb, Option, Some, None}
use Rattle.hours.specs.Arrays.{record_of}
use Rattle.hours.specs.declared.Record.{Record}

abbrev pub record_in : List ℕ → Option Record
record_in [] = None
record_in (m ∷ []) = None
record_in (m ∷ w ∷ []) = None
record_in (m ∷ w ∷ s ∷ []) = cond (ltb w 2 && ltb s (2 ^ 16)) (Some (record_of m w s)) None
record_in (m ∷ w ∷ s ∷ n ∷ ns) = None
