-- Request K4, 'Sends that differ later': opening as it stood before, over the parts of that time, and what stays of it. Assumes nothing.
use Rattle.std.specs.Prelude.{ℕ, zero, suc, ◌*◌, ◌≤◌, ◌<◌, cond, not, List, [], ◌++◌, ◌≢◌, ◌≡◌, ltb, eqb, length, drop}
use Rattle.table.specs.Limits.{Limits}
use Rattle.table.specs.Numbers.{ACCEPTED, ROOM, NOPART}
use Rattle.table.specs.Rules.{rules}
use Rattle.table.specs.Check.{accepted, refused, refused_at, sized, tested}
use Rattle.table.specs.Check.{Verdict}
use Rattle.parts.specs.Before.{part_of_before}
use Rattle.parts.specs.Projection.{part_of, present}
use Rattle.parts.specs.Layout.{block_of}
use Rattle.opening.specs.Opening.{open_of, room_of}

-- the verdict, as `open_of` gave it
unfoldable pub open_before : Limits → List ℕ → ℕ → ℕ → Verdict
unfolding part_of_before tested
open_before lim t roles room =
    sized lim t roles (
    refused ROOM (ltb room (roles * length t)) (
    tested lim t roles rules (refused_at NOPART (λ r. not (present (part_of_before t r))) roles accepted)))

unfoldable pub blocks_before : List ℕ → ℕ → List ℕ
unfolding part_of_before block_of
blocks_before t zero = []
blocks_before t (suc n) = blocks_before t n ++ block_of t (part_of_before t n)

-- the room afterwards, as `room_of` gave it
unfoldable pub room_before : Limits → List ℕ → ℕ → List ℕ → List ℕ
unfolding open_before blocks_before
room_before lim t roles room =
    cond (eqb (open_before lim t roles (length room)).number ACCEPTED) (blocks_before t roles ++ drop (roles * length t) room) room

-- what request K4 promises for every table, beside the opening as it stood before
pub record K4 (lim : Limits) (t : List ℕ) (roles : ℕ) : Type 0 where
  -- no table accepted before gets a different part: it is opened, each role's part is the one it had, and so is the whole room
  pub opens : (room : List ℕ) → open_before lim t roles (length room) ≡ accepted
      → (open_of lim t roles (length room) ≡ accepted)
      × ((r : ℕ) → r < roles → part_of t r ≡ part_of_before t r)
      × (room_of lim t roles room ≡ room_before lim t roles room)
  -- 11 is given for fewer tables: where it is given now it was given before, at this role or a lower one
  pub fewer : (room : ℕ) → (open_of lim t roles room).number ≡ NOPART
      → ((open_before lim t roles room).number ≡ NOPART) × ((open_before lim t roles room).place ≤ (open_of lim t roles room).place)
  -- every other refusal is what it was, number and place, and none is new
  pub refused_now : (room : ℕ) → (open_of lim t roles room).number ≢ ACCEPTED → (open_of lim t roles room).number ≢ NOPART
      → open_before lim t roles room ≡ open_of lim t roles room
  pub refused_before : (room : ℕ) → (open_before lim t roles room).number ≢ ACCEPTED → (open_before lim t roles room).number ≢ NOPART
      → open_of lim t roles room ≡ open_before lim t roles room
