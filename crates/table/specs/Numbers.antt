-- Document 01, 'What comes back': the names of the numbers 0 to 11. Assumes nothing.
use Rattle.std.specs.Prelude.{ℕ}

abbrev pub ACCEPTED : ℕ
ACCEPTED = 0

abbrev pub WORDS : ℕ
WORDS = 1

abbrev pub ROLES : ℕ
ROLES = 2

abbrev pub ROOM : ℕ
ROOM = 3

abbrev pub KIND : ℕ
KIND = 4

abbrev pub FIELD : ℕ
FIELD = 5

abbrev pub LINK : ℕ
LINK = 6

abbrev pub NAMED : ℕ
NAMED = 7

abbrev pub TWICE : ℕ
TWICE = 8

abbrev pub UNBOUND : ℕ
UNBOUND = 9

abbrev pub UNGUARDED : ℕ
UNGUARDED = 10

abbrev pub NOPART : ℕ
NOPART = 11
