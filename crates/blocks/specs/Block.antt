-- The customer's paper, 'Parts: projection and merge': what a row of a role's block says. Assumes nothing.
use Rattle.std.specs.Prelude.{ℕ, zero, suc, ◌+◌, ◌*◌, ◌/◌, Bool, true, false, List}
use Rattle.words.specs.Rows.{word, rows_of}

-- the first word decides what the other three hold
pub data PartRow : Type 0 where
  -- three unused words
  End : ℕ → ℕ → ℕ → PartRow
  -- label, continuation, next arm (0 for none)
  Arm : ℕ → ℕ → ℕ → PartRow
  -- body, two unused words
  Loop : ℕ → ℕ → ℕ → PartRow
  -- its loop's row, two unused words
  Back : ℕ → ℕ → ℕ → PartRow
  -- peer, first arm, an unused word
  Send Receive : ℕ → ℕ → ℕ → PartRow
  -- a kind that is none of these
  Other : PartRow

abbrev pub part_row_of : ℕ → ℕ → ℕ → ℕ → PartRow
part_row_of zero a b c = End a b c
part_row_of (suc zero) a b c = Other
part_row_of (suc (suc zero)) a b c = Arm a b c
part_row_of (suc (suc (suc zero))) a b c = Loop a b c
part_row_of (suc (suc (suc (suc zero)))) a b c = Back a b c
part_row_of (suc (suc (suc (suc (suc zero))))) a b c = Send a b c
part_row_of (suc (suc (suc (suc (suc (suc zero)))))) a b c = Receive a b c
part_row_of (suc (suc (suc (suc (suc (suc (suc k))))))) a b c = Other

-- the tables of so many roles are equal blocks, role 0 first: how many rows each has
abbrev pub block_rows : List ℕ → ℕ → ℕ
block_rows ts roles = rows_of ts / roles

-- row i of role r's block
abbrev pub part_row : List ℕ → ℕ → ℕ → ℕ → PartRow
part_row ts roles r i =
    let at = r * block_rows ts roles + i in
    part_row_of (word ts at 0) (word ts at 1) (word ts at 2) (word ts at 3)

abbrev pub is_arm : PartRow → Bool
is_arm (End a b c) = false
is_arm (Arm l c n) = true
is_arm (Loop b x y) = false
is_arm (Back j x y) = false
is_arm (Send q f x) = false
is_arm (Receive q f x) = false
is_arm Other = false

abbrev pub is_loop : PartRow → Bool
is_loop (End a b c) = false
is_loop (Arm l c n) = false
is_loop (Loop b x y) = true
is_loop (Back j x y) = false
is_loop (Send q f x) = false
is_loop (Receive q f x) = false
is_loop Other = false

-- a Send, a Receive or an End: where a role stands still
abbrev pub is_head : PartRow → Bool
is_head (End a b c) = true
is_head (Arm l c n) = false
is_head (Loop b x y) = false
is_head (Back j x y) = false
is_head (Send q f x) = true
is_head (Receive q f x) = true
is_head Other = false

-- an Arm's label
abbrev pub label : PartRow → ℕ
label (End a b c) = 0
label (Arm l c n) = l
label (Loop b x y) = 0
label (Back j x y) = 0
label (Send q f x) = 0
label (Receive q f x) = 0
label Other = 0
