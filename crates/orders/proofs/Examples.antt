-- What the definitions give for orders of second/README.md, points 4 to 14, by computation. Assumes nothing.
use Prim.Native.Nat.{ℕ}
use mathlib.Core.List.{List, [], ◌∷◌}
use mathlib.Core.Path.{◌≡◌, refl}
use Rattle.words.specs.Below.{lowest, every, any, sum}
use Rattle.table.specs.Limits.{base}
use Rattle.table.specs.Above.{times, over, chain_over, has_label}
use Rattle.table.specs.Rules.{breaks}
use Rattle.blocks.specs.Head.{find, lowest_label, chain}
use Rattle.opening.specs.Marked.{t1}
use Rattle.opening.specs.Opening.{open_of, blocks}
use Rattle.session.specs.Calls.{fresh_of, send_of, receive_of}
use Rattle.session.specs.Awaited.{awaited_of}
use Rattle.lines.specs.Line.{part, parts, is_digit, all_digits, value, is_number, all_numbers, values, well_formed, numbers_of}
use Rattle.lines.specs.Over.{all_below}
use Rattle.lines.specs.Text.{digits_of, decimal, text_of}
use Rattle.orders.specs.Orders.{Kept, at_first, opened, tabled, open_order, table_order, is_state, freshened, sent, received, is_call, call_order, order_of}
use Rattle.orders.specs.Lines.{worded, reply_to, answer_of}

-- the numbers that answer orders one after the other, each order given by its letter and its numbers
unfoldable told : Kept → List (List ℕ) → List (List ℕ)
unfolding order_of
told k [] = []
told k ([] ∷ os) = told k os
told k ((letter ∷ ns) ∷ os) = let r = order_of base k letter ns in r.numbers ∷ told r.kept os

-- "s 0 1 5 7", "r 0 1", "f" without tables
without : told (at_first base) ((115 ∷ 0 ∷ 1 ∷ 5 ∷ 7 ∷ []) ∷ (114 ∷ 0 ∷ 1 ∷ []) ∷ (102 ∷ []) ∷ [])
    ≡ (12 ∷ 64 ∷ 0 ∷ 0 ∷ 8 ∷ []) ∷ (12 ∷ 0 ∷ 0 ∷ 64 ∷ 0 ∷ 0 ∷ 8 ∷ []) ∷ (12 ∷ 0 ∷ 0 ∷ 0 ∷ 0 ∷ 0 ∷ 0 ∷ 0 ∷ 0 ∷ []) ∷ []
unfolding told order_of call_order is_call sent received freshened fresh_of awaited_of send_of receive_of
without = refl

-- T1 opened, "f", "s 0 1 6 7", which is offered 5, "s 0 1 5 7" twice, "r 0 1" twice
story : told (at_first base) (
    (111 ∷ 2 ∷ 24 ∷ t1) ∷ (102 ∷ []) ∷ (115 ∷ 0 ∷ 1 ∷ 6 ∷ 7 ∷ []) ∷ (115 ∷ 0 ∷ 1 ∷ 5 ∷ 7 ∷ []) ∷ (115 ∷ 0 ∷ 1 ∷ 5 ∷ 7 ∷ []) ∷ (114 ∷ 0 ∷ 1 ∷ [])
    ∷ (114 ∷ 0 ∷ 1 ∷ []) ∷ [])
    ≡ (0 ∷ 0 ∷ 5 ∷ 1 ∷ 1 ∷ 0 ∷ 2 ∷ 5 ∷ 2 ∷ 0 ∷ 0 ∷ 0 ∷ 0 ∷ 0 ∷ 6 ∷ 0 ∷ 1 ∷ 0 ∷ 2 ∷ 5 ∷ 2 ∷ 0 ∷ 0 ∷ 0 ∷ 0 ∷ 0 ∷ [])
    ∷ (0 ∷ 0 ∷ 0 ∷ 0 ∷ 0 ∷ 0 ∷ 0 ∷ 0 ∷ 0 ∷ []) ∷ (16 ∷ 5 ∷ 1 ∷ 1 ∷ 0 ∷ []) ∷ (0 ∷ 64 ∷ 2 ∷ 1 ∷ 1 ∷ []) ∷ (15 ∷ 64 ∷ 2 ∷ 1 ∷ 1 ∷ [])
    ∷ (0 ∷ 5 ∷ 7 ∷ 64 ∷ 0 ∷ 0 ∷ 8 ∷ []) ∷ (15 ∷ 0 ∷ 0 ∷ 64 ∷ 0 ∷ 0 ∷ 8 ∷ []) ∷ []
unfolding told order_of open_order opened call_order is_call sent received freshened fresh_of awaited_of send_of receive_of all_below open_of lowest breaks sum times has_label chain_over over blocks every any find lowest_label chain
story = refl

-- T1 opened, then refused for its room: no tables are left for "f"
refused : told (at_first base) ((111 ∷ 2 ∷ 24 ∷ t1) ∷ (111 ∷ 2 ∷ 23 ∷ t1) ∷ (102 ∷ []) ∷ [])
    ≡ (0 ∷ 0 ∷ 5 ∷ 1 ∷ 1 ∷ 0 ∷ 2 ∷ 5 ∷ 2 ∷ 0 ∷ 0 ∷ 0 ∷ 0 ∷ 0 ∷ 6 ∷ 0 ∷ 1 ∷ 0 ∷ 2 ∷ 5 ∷ 2 ∷ 0 ∷ 0 ∷ 0 ∷ 0 ∷ 0 ∷ [])
    ∷ (3 ∷ 0 ∷ []) ∷ (12 ∷ 0 ∷ 0 ∷ 0 ∷ 0 ∷ 0 ∷ 0 ∷ 0 ∷ 0 ∷ []) ∷ []
unfolding told order_of open_order opened call_order is_call freshened fresh_of all_below open_of lowest breaks sum times has_label chain_over over blocks
refused = refl

-- "o 2 99999" and "t 2" without words; "t" with tables that are well formed, and "f"
tables : told (at_first base) (
    (111 ∷ 2 ∷ 99999 ∷ []) ∷ (116 ∷ 2 ∷ []) ∷ (116 ∷ 2 ∷ 0 ∷ 0 ∷ 0 ∷ 0 ∷ 0 ∷ 0 ∷ 0 ∷ 0 ∷ []) ∷ (102 ∷ []) ∷ [])
    ≡ (1 ∷ 0 ∷ []) ∷ (12 ∷ []) ∷ (0 ∷ []) ∷ (0 ∷ 0 ∷ 0 ∷ 0 ∷ 0 ∷ 0 ∷ 0 ∷ 0 ∷ 0 ∷ []) ∷ []
unfolding told order_of open_order opened table_order tabled call_order is_call freshened fresh_of all_below open_of every
tables = refl

-- "o 2", "o 2 8 0 0 0 65536", "t", "s 0 1 5", "f 1", "h 0", "x"
malformed : told (at_first base) (
    (111 ∷ 2 ∷ []) ∷ (111 ∷ 2 ∷ 8 ∷ 0 ∷ 0 ∷ 0 ∷ 65536 ∷ []) ∷ (116 ∷ []) ∷ (115 ∷ 0 ∷ 1 ∷ 5 ∷ []) ∷ (102 ∷ 1 ∷ []) ∷ (104 ∷ 0 ∷ [])
    ∷ (120 ∷ []) ∷ [])
    ≡ [] ∷ [] ∷ [] ∷ [] ∷ [] ∷ [] ∷ [] ∷ []
unfolding told order_of open_order opened table_order call_order is_call all_below is_state
malformed = refl

-- "o 2 9" is answered "1 0"
line : (answer_of base (at_first base) (111 ∷ 32 ∷ 50 ∷ 32 ∷ 57 ∷ [])).text ≡ 49 ∷ 32 ∷ 48 ∷ 10 ∷ []
unfolding answer_of reply_to worded order_of open_order well_formed part all_numbers parts is_number all_digits is_digit value numbers_of values all_below opened text_of decimal digits_of open_of
line = refl

-- "f " is answered "?"
question : (answer_of base (at_first base) (102 ∷ 32 ∷ [])).text ≡ 63 ∷ 10 ∷ []
unfolding answer_of reply_to worded well_formed part all_numbers parts is_number
question = refl
