-- A row's links as one near and one far, the Loops next to a row, and rows that lower rows name. Assumes nothing.
use Rattle.std.specs.Prelude.{ℕ, suc, ◌<◌, cond, List, [], ◌∷◌}
use Rattle.words.specs.Rows.{rows_of}
use Rattle.table.specs.Rows.{Row, End, Exchange, Arm, Loop, Back, Other, row, is_loop}
use Rattle.table.specs.Above.{namer}

-- first arm, continuation or body; 0 for none
abbrev pub near_link : Row → ℕ
near_link (End a b c) = 0
near_link (Exchange s r f) = f
near_link (Arm l c n) = c
near_link (Loop b x y) = b
near_link (Back d x y) = 0
near_link Other = 0

-- next arm; 0 for none
abbrev pub far_link : Row → ℕ
far_link (End a b c) = 0
far_link (Exchange s r f) = 0
far_link (Arm l c n) = n
far_link (Loop b x y) = 0
far_link (Back d x y) = 0
far_link Other = 0

-- how many Loops these rows begin with
unfoldable pub near_loops : List ℕ → List ℕ → ℕ
near_loops t [] = 0
near_loops t (p ∷ ps) = let more = suc (near_loops t ps) in cond (is_loop (row t p)) more 0

-- each row but 0 is named by a lower one, as where rules 6 and 7 are kept
abbrev pub Rising : List ℕ → Type 0
Rising t = (i : ℕ) → 0 < i → i < rows_of t → namer t i < i
