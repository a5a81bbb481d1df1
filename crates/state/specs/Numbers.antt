-- The names of the numbers 12 to 19 that come back from a refused call. Assumes nothing.
use Rattle.std.specs.Prelude.{ℕ}

abbrev pub TABLES : ℕ
TABLES = 12

abbrev pub STATE : ℕ
STATE = 13

abbrev pub PARTY : ℕ
PARTY = 14

abbrev pub TURN : ℕ
TURN = 15

abbrev pub LABEL : ℕ
LABEL = 16

abbrev pub FULL : ℕ
FULL = 17

abbrev pub EMPTY : ℕ
EMPTY = 18

abbrev pub STRAY : ℕ
STRAY = 19
