-- The answer to a line: the bytes that go out, and what is kept. Assumes nothing.
use Rattle.std.specs.Prelude.{ℕ, Bool, cond, ◌&&◌, List, [], ◌∷◌, ◌≡◌, leb, length, get_or, take}
use Rattle.table.specs.Limits.{Limits}
use Rattle.session.specs.State.{nothing}
use Rattle.lines.specs.Line.{well_formed, numbers_of}
use Rattle.lines.specs.Text.{text_of}
use Rattle.orders.specs.Orders.{Kept, Reply, malformed, order_of}
use Rattle.orders.specs.declared.run.Run.{Run}
use Rattle.orders.specs.declared.run.Answered.{Answered}

pub record Written : Type 0 where
  pub text : List ℕ
  pub kept : Kept

-- the numbers in decimal; `?` for none
unfoldable pub worded : List ℕ → List ℕ
worded [] = 63 ∷ 10 ∷ []
worded (n ∷ ns) = text_of (n ∷ ns)

-- a line of more than 65,536 bytes counts as malformed
abbrev pub is_line : List ℕ → Bool
is_line line = leb (length line) 65536 && well_formed line

-- the order that a line is: its letter is its first byte
unfoldable pub reply_to : Limits → Kept → List ℕ → Reply
reply_to lim k line = cond (is_line line) (order_of lim k (get_or line 0 0) (numbers_of line)) (malformed k)

abbrev pub written : Reply → Written
written r = record { text = worded r.numbers; kept = r.kept }

unfoldable pub answer_of : Limits → Kept → List ℕ → Written
answer_of lim k line = written (reply_to lim k line)

-- what the code keeps: the words of the tables are the first ones of a lent slice
abbrev pub keeps : Run → List ℕ → Kept
keeps run ws = record { roles = run.roles; tables = take run.words ws; state = run.state }

-- and what it answers: the text is the first bytes of another one
abbrev pub writes : Answered → List ℕ → List ℕ → Written
writes a ws text = record { text = take a.length text; kept = keeps a.run ws }

-- what the code keeps at the start, over any words
abbrev pub first_run : Limits → Run
first_run lim = record { roles = 0; words = 0; state = nothing lim }

-- what the start promises, and what the answer to a line does: the bytes, how many they are, and what is kept. Of the words behind the
-- tables' last one and of the bytes behind the text's last one nothing is said
abbrev pub Starts : Limits → Run → Type 0
Starts lim run = run ≡ first_run lim

abbrev pub Answers : Limits → Run → List ℕ → List ℕ → Answered → List ℕ → List ℕ → Type 0
Answers lim run ws line a after text =
    let w = answer_of lim (keeps run ws) line in (writes a after text ≡ w) × (a.length ≡ length w.text)
