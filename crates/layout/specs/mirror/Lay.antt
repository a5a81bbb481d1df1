-- The writing of a part's rows as the code goes through it, and what it needs to be right. Assumes nothing.
use Rattle.std.specs.Prelude.{ℕ, zero, suc, ◌+◌, ◌-◌, ◌*◌, ◌<◌, ◌≤◌, Bool, true, false, cond, ◌&&◌, ◌||◌, List, ltb, leb, get_or, length, set, Option, Some, None, unwrap_or}
use Rattle.words.specs.Rows.{word, put_row}
use Rattle.parts.specs.Part.{Part}
use Rattle.parts.specs.Layout.{size}
use Rattle.parts.specs.mirror.Codes.{codes}
use Rattle.parts.specs.declared.Code.{Code}
use Rattle.parts.specs.declared.Code.TheVariants.{End, Mark, Arm, Loop, Back, Send, Receive, Other}
use Rattle.parts.specs.mirror.Kinds.{code_of}
use Rattle.parts.specs.mirror.Stands.{Stands}
use Rattle.layout.specs.declared.Walk.{Walk}

-- codes, rows and Loops are counted up to this
abbrev pub LIMIT : ℕ
LIMIT = 65535

abbrev pub inside : ℕ → ℕ → ℕ → ℕ → ℕ → Bool
inside left i from row depth = (((ltb 0 left && ltb i LIMIT) && leb from LIMIT) && ltb row LIMIT) && ltb depth LIMIT

pub record InRange (left i from row depth : ℕ) : Type 0 where
  pub some_left : 0 < left
  pub code_in : i < LIMIT
  pub from_in : from ≤ LIMIT
  pub row_in : row < LIMIT
  pub depth_in : depth < LIMIT

-- the code at i; Other for nothing
unfoldable pub step_at : ℕ → List ℕ → ℕ → ℕ → ℕ → ℕ → Code
step_at left s i from row depth = cond (inside left i from row depth) (code_of (get_or s i 0)) Other

-- of the rows of the Loops around, outermost first, the one that a Back of depth k names
abbrev pub loop_row : ℕ → List ℕ → ℕ → Option ℕ
loop_row k loops depth = cond (ltb k depth) (Some (get_or loops (depth - 1 - k) 0)) None

abbrev pub is_arm : Code → Bool
is_arm (Arm l) = true
is_arm c = false

-- the row, where an arm stands at i
abbrev pub next_row : List ℕ → ℕ → ℕ → Option ℕ
next_row s i row = cond (leb row LIMIT && is_arm (code_of (get_or s i 0))) (Some row) None

-- ---- the rows of a code

-- an arm whose continuation comes next: its row keeps the Loops and the waiting arm around it
abbrev pub open_arm : ℕ → List ℕ → ℕ → ℕ → ℕ → ℕ → List ℕ
open_arm l out from row depth wait = put_row out (from + row) 2 l depth wait

abbrev pub put_loop : List ℕ → ℕ → ℕ → List ℕ
put_loop out from row = put_row out (from + row) 3 (row + 1) 0 0

abbrev pub put_back : ℕ → List ℕ → ℕ → ℕ → List ℕ → ℕ → List ℕ
put_back k out from row loops depth = put_row out (from + row) 4 (unwrap_or (loop_row k loops depth) 0) 0 0

-- a Send or a Receive; k is its kind
abbrev pub put_action : ℕ → ℕ → List ℕ → ℕ → ℕ → List ℕ
put_action k q out from row = put_row out (from + row) k q (row + 1) 0

-- ---- the end of a part; wait: 1 + the row of the arm whose continuation it is, 0 for none

-- that arm with its links
abbrev pub close_arm : List ℕ → List ℕ → ℕ → ℕ → ℕ → ℕ → List ℕ
close_arm s out from i row zero = out
close_arm s out from i row (suc arm) = put_row out (from + arm) 2 (word out (from + arm) 1) (suc arm) (unwrap_or (next_row s i row) 0)

-- the arm that waits, as a word and back
abbrev pub waits : Option ℕ → ℕ
waits None = 0
waits (Some arm) = suc arm

abbrev pub waiting : ℕ → Option ℕ
waiting zero = None
waiting (suc arm) = Some arm

-- what that arm's row kept
abbrev pub resume_with : List ℕ → ℕ → Walk → Option ℕ → Walk
resume_with out from at None = record { code = at.code; row = at.row; depth = 0; wait = None; left = 0 }
resume_with out from at (Some arm) =
    record { code = at.code; row = at.row; depth = word out (from + arm) 2; wait = waiting (word out (from + arm) 3); left = at.left }

abbrev pub resume : List ℕ → ℕ → Walk → Walk
resume out from at = resume_with out from at at.wait

-- ---- the whole

-- where the codes and the rows of a part end
pub record Laid : Type 0 where
  pub code : ℕ
  pub row : ℕ

-- what a call leaves: its answer and both slices
pub record Lay : Type 0 where
  pub res : Laid
  pub out : List ℕ
  pub loops : List ℕ

abbrev pub stop : ℕ → List ℕ → ℕ → List ℕ → Lay
stop i out row loops = record { res = record { code = i; row = row }; out = out; loops = loops }

-- the turns after this one
abbrev pub Turns : Type 0
Turns = ℕ → List ℕ → ℕ → List ℕ → ℕ → ℕ → Lay

-- what comes behind the end of a part
abbrev pub end_body : Turns → List ℕ → ℕ → ℕ → List ℕ → ℕ → List ℕ → ℕ → Lay
end_body rec s from i out row loops zero = stop i out row loops
end_body rec s from i out row loops (suc arm) =
    rec i (close_arm s out from i row (suc arm)) row loops (word out (from + arm) 2) (word out (from + arm) 3)

-- one turn at a code
abbrev pub turn_body : Turns → Code → List ℕ → ℕ → ℕ → List ℕ → ℕ → List ℕ → ℕ → ℕ → Lay
turn_body rec End s from i out row loops depth wait = end_body rec s from (i + 1) (put_row out (from + row) 0 0 0 0) (row + 1) loops wait
turn_body rec Mark s from i out row loops depth wait = end_body rec s from (i + 1) out row loops wait
turn_body rec (Arm l) s from i out row loops depth wait = rec (i + 1) (open_arm l out from row depth wait) (row + 1) loops depth (row + 1)
turn_body rec Loop s from i out row loops depth wait = rec (i + 1) (put_loop out from row) (row + 1) (set loops depth row) (depth + 1) wait
turn_body rec (Back k) s from i out row loops depth wait = end_body rec s from (i + 1) (put_back k out from row loops depth) (row + 1) loops wait
turn_body rec (Send q) s from i out row loops depth wait = rec (i + 1) (put_action 5 q out from row) (row + 1) loops depth wait
turn_body rec (Receive q) s from i out row loops depth wait = rec (i + 1) (put_action 6 q out from row) (row + 1) loops depth wait
turn_body rec Other s from i out row loops depth wait = stop i out row loops

unfoldable pub run_s : ℕ → List ℕ → ℕ → ℕ → List ℕ → ℕ → List ℕ → ℕ → ℕ → Lay
run_s zero s from i out row loops depth wait = stop i out row loops
run_s (suc n) s from i out row loops depth wait =
    turn_body (λ j o r l d w. run_s n s from j o r l d w) (step_at (suc n) s i from row depth) s from i out row loops depth wait

-- what the turns from a place on leave
abbrev pub rest : List ℕ → ℕ → Walk → List ℕ → List ℕ → Lay
rest s from at out loops = run_s at.left s from at.code out at.row loops at.depth (waits at.wait)

-- the end of a part with n turns left
abbrev pub end_s : ℕ → List ℕ → ℕ → ℕ → List ℕ → ℕ → List ℕ → ℕ → Lay
end_s n s from i out row loops wait = end_body (λ j o r l d w. run_s n s from j o r l d w) s from i out row loops wait

-- n rows of zeros from the row first on
unfoldable pub clear_s : List ℕ → ℕ → ℕ → List ℕ
clear_s out first zero = out
clear_s out first (suc n) = put_row (clear_s out first n) (first + n) 0 0 0 0

-- zeros behind the rows that were written, up to so many
abbrev pub cleared : ℕ → ℕ → Lay → Lay
cleared from rows end = record { res = end.res; out = clear_s end.out (from + end.res.row) (rows - end.res.row); loops = end.loops }

-- a block of so many rows from the row `from` on: those of the codes from i on, then zeros
unfoldable pub lay_out : List ℕ → ℕ → List ℕ → ℕ → ℕ → List ℕ → Lay
lay_out s i out from rows loops =
    cond (ltb LIMIT from || ltb LIMIT rows) (stop i out 0 loops) (cleared from rows (run_s LIMIT s from i out 0 loops 0 0))

-- ---- what the writing needs

-- the codes of P stand in s from i on, and the block, the Loops and the numbers have room for so many rows
pub record Spacious (P : Part) (s : List ℕ) (i : ℕ) (out : List ℕ) (from rows : ℕ) (loops : List ℕ) : Type 0 where
  pub stands : Stands s i (codes P)
  pub rows_fit : size P ≤ rows
  pub loops_fit : rows ≤ length loops
  pub block_fits : (from + rows) * 4 ≤ length out
  pub codes_small : i + rows * 2 ≤ LIMIT
  pub rows_small : from + rows < LIMIT
