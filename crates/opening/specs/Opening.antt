-- Document 01, 'What comes back': opening tests rules 1 to 11 in order, and fills the room. Assumes nothing.
use Rattle.std.specs.Prelude.{ℕ, zero, suc, ◌*◌, cond, not, List, [], ◌++◌, ◌≡◌, ltb, eqb, length, drop}
use Rattle.table.specs.Limits.{Limits}
use Rattle.table.specs.Numbers.{ACCEPTED, ROOM, NOPART}
use Rattle.table.specs.Rules.{rules}
use Rattle.table.specs.Check.{accepted, refused, refused_at, sized, tested}
use Rattle.table.specs.Check.{Verdict}
use Rattle.parts.specs.Projection.{part_of, present}
use Rattle.parts.specs.Layout.{block_of}

-- the verdict on a table of so many roles, with a room of so many words: rules 1 to 11 in order
unfoldable pub open_of : Limits → List ℕ → ℕ → ℕ → Verdict
unfolding part_of tested
open_of lim t roles room =
    sized lim t roles (
    refused ROOM (ltb room (roles * length t)) (
    tested lim t roles rules (refused_at NOPART (λ r. not (present (part_of t r))) roles accepted)))

-- the blocks of the roles below n, role 0 first
unfoldable pub blocks : List ℕ → ℕ → List ℕ
unfolding part_of block_of
blocks t zero = []
blocks t (suc n) = blocks t n ++ block_of t (part_of t n)

-- the room afterwards: where the table is opened the blocks fill its first words and the rest keeps its contents; else it keeps all
unfoldable pub room_of : Limits → List ℕ → ℕ → List ℕ → List ℕ
unfolding open_of blocks
room_of lim t roles room =
    cond (eqb (open_of lim t roles (length room)).number ACCEPTED) (blocks t roles ++ drop (roles * length t) room) room

-- what an opening promises, for every input: the verdict, and each word of the room afterwards
abbrev pub Opens : Limits → List ℕ → ℕ → List ℕ → Verdict → List ℕ → Type 0
Opens lim t roles room v after = (v ≡ open_of lim t roles (length room)) × (after ≡ room_of lim t roles room)
