-- How a reader goes from token to token, without looking ahead: the place it stands at, the blocks that are open, and what it keeps. Assumes nothing.
use Rattle.std.specs.Prelude.{ℕ, suc, ◌+◌, ◌*◌, ◌/◌, Bool, ◌&&◌, leb, ltb, eqb, length}
use Rattle.std.proofs.Math.Bool.{true, false, cond, not}
use mathlib.Core.List.{List, [], ◌∷◌, ◌++◌}
use Rattle.std.proofs.Math.Option.{Option, none, some}
use Rattle.std.proofs.Math.ListN.{set}
use Rattle.table.specs.Limits.{Limits}
use Rattle.table.specs.Numbers.{ROOM}
use Rattle.scribble.specs.Tokens.{Sort, Token, sort, start, bytes, same_sort, spelled_alike, a_name, module_word, global_word, protocol_word, role_word, choice_word, at_word, or_word, rec_word, continue_word, from_word, to_word, open_mark, close_mark, left_mark, right_mark, comma_mark, semi_mark, dot_mark, end_of_text, tokens_of, line_of}
use Rattle.scribble.specs.Outcome.{longest_text, TextOutcome, refused_text, accepted_text}
use Rattle.scribble.specs.Names.{index_of, is_in}
use Rattle.scribble.specs.Refusals.{longest_name, Fault, blame, fault_when, TEXT, NAME, CHOICE, LAST, MANY, Finding, faultless, faulty, deciding}

-- where the reader stands: which token is wanted
pub data Control : Type 0 where
  -- in the head of the text
  q_module q_name q_dots q_global q_protocol q_title q_left q_role q_listed q_roles : Control
  -- before a block, in a block, behind a block of a choice
  q_open q_stmt q_arms : Control
  -- in a message: behind its label, in and behind its payload list, at its roles, at its `;`
  q_payload q_first q_types q_type q_from q_sender q_to q_receiver q_sent : Control
  -- in a choice, a rec, a continue
  q_at q_chooser q_rec q_target q_again : Control
  -- behind the last `}`, behind the end of the text, behind a faulty token
  q_finish q_done q_stopped : Control

-- what a block is to its statement: the body of the protocol, of a rec of that name, of a choice
pub data Form : Type 0 where
  body : Form
  looped : List ℕ → Form
  -- the chooser's name, the receiver's (none until a block has begun with a message), the Exchange's row, the last arm's row (0 for none)
  chosen : List ℕ → Option (List ℕ) → ℕ → ℕ → Form

-- an open block: no statement yet; its last statement has begun
pub record Frame : Type 0 where
  pub form : Form
  pub unbegun : Bool
  pub done : Bool

abbrev pub frame : Form → Bool → Bool → Frame
frame f x d = record { form = f; unbegun = x; done = d }

pub record ReaderState : Type 0 where
  pub control : Control
  -- the names of the roles listed and of the labels met, in their order
  pub roles : List (List ℕ)
  pub labels : List (List ℕ)
  -- the open blocks, the innermost first
  pub frames : List Frame
  -- what the next `{` opens
  pub pending : Form
  -- the statement that is read: its place, its label, its sender and its receiver as they are written
  pub since : ℕ
  pub label : ℕ
  pub sender : List ℕ
  pub receiver : List ℕ
  -- the words of the rows made, and the faults met
  pub rows : List ℕ
  pub log : List Fault

abbrev pub begun : ReaderState
begun = record { control = q_module; roles = []; labels = []; frames = []; pending = body; since = 0; label = 0; sender = []; receiver = []; rows = []; log = [] }

-- one or two fields anew
abbrev pub go_to : Control → ReaderState → ReaderState
go_to q s = record { control = q; roles = s.roles; labels = s.labels; frames = s.frames; pending = s.pending; since = s.since; label = s.label; sender = s.sender; receiver = s.receiver; rows = s.rows; log = s.log }

abbrev pub logged : List Fault → ReaderState → ReaderState
logged fs s = record { control = s.control; roles = s.roles; labels = s.labels; frames = s.frames; pending = s.pending; since = s.since; label = s.label; sender = s.sender; receiver = s.receiver; rows = s.rows; log = s.log ++ fs }

abbrev pub framed : List Frame → ReaderState → ReaderState
framed fs s = record { control = s.control; roles = s.roles; labels = s.labels; frames = fs; pending = s.pending; since = s.since; label = s.label; sender = s.sender; receiver = s.receiver; rows = s.rows; log = s.log }

abbrev pub expecting : Form → ReaderState → ReaderState
expecting f s = record { control = s.control; roles = s.roles; labels = s.labels; frames = s.frames; pending = f; since = s.since; label = s.label; sender = s.sender; receiver = s.receiver; rows = s.rows; log = s.log }

abbrev pub stated_at : ℕ → ReaderState → ReaderState
stated_at at s = record { control = s.control; roles = s.roles; labels = s.labels; frames = s.frames; pending = s.pending; since = at; label = s.label; sender = s.sender; receiver = s.receiver; rows = s.rows; log = s.log }

abbrev pub with_roles : List (List ℕ) → ReaderState → ReaderState
with_roles rs s = record { control = s.control; roles = rs; labels = s.labels; frames = s.frames; pending = s.pending; since = s.since; label = s.label; sender = s.sender; receiver = s.receiver; rows = s.rows; log = s.log }

abbrev pub with_labels : List (List ℕ) → ℕ → ReaderState → ReaderState
with_labels ls l s = record { control = s.control; roles = s.roles; labels = ls; frames = s.frames; pending = s.pending; since = s.since; label = l; sender = s.sender; receiver = s.receiver; rows = s.rows; log = s.log }

abbrev pub with_sender : List ℕ → ReaderState → ReaderState
with_sender p s = record { control = s.control; roles = s.roles; labels = s.labels; frames = s.frames; pending = s.pending; since = s.since; label = s.label; sender = p; receiver = s.receiver; rows = s.rows; log = s.log }

abbrev pub with_receiver : List ℕ → ReaderState → ReaderState
with_receiver q s = record { control = s.control; roles = s.roles; labels = s.labels; frames = s.frames; pending = s.pending; since = s.since; label = s.label; sender = s.sender; receiver = q; rows = s.rows; log = s.log }

abbrev pub with_rows : List ℕ → ReaderState → ReaderState
with_rows rs s = record { control = s.control; roles = s.roles; labels = s.labels; frames = s.frames; pending = s.pending; since = s.since; label = s.label; sender = s.sender; receiver = s.receiver; rows = rs; log = s.log }

-- the token does not stand there: nothing later is judged
abbrev pub broken : Token → ReaderState → ReaderState
broken w s = go_to q_stopped (logged (blame (start w) TEXT (start w) ∷ []) s)

-- the token is of this sort, or the text is broken
abbrev pub want : Sort → Token → ReaderState → ReaderState → ReaderState
want k w s next = let b = broken w s in cond (same_sort (sort w) k) next b

-- a name x that stands at b
abbrev pub name_met : ℕ → List ℕ → ReaderState → ReaderState
name_met b x s = logged (fault_when (ltb longest_name (length x)) (blame b NAME b)) s

-- the names of the loops around, the innermost first
abbrev pub added : Form → List (List ℕ) → List (List ℕ)
added body ns = ns
added (looped s) ns = s ∷ ns
added (chosen p q r a) ns = ns

unfoldable pub recs_in : List Frame → List (List ℕ)
recs_in [] = []
recs_in (f ∷ fs) = added f.form (recs_in fs)

abbrev pub is_chosen : Form → Bool
is_chosen body = false
is_chosen (looped s) = false
is_chosen (chosen p q r a) = true

-- the innermost open block, and those around it
abbrev pub top : List Frame → Frame
top [] = frame body false false
top (f ∷ fs) = f

abbrev pub around : List Frame → List Frame
around [] = []
around (f ∷ fs) = fs

abbrev pub rows_made : ReaderState → ℕ
rows_made s = length s.rows / 4

-- the receiver of a choice: the one heard before, or else this one
abbrev pub receiver_of : Option (List ℕ) → List ℕ → List ℕ
receiver_of none q = q
receiver_of (some q₀) q = q₀

-- the number of a role, or how many there are
abbrev pub role_number : List ℕ → ReaderState → ℕ
role_number x s = index_of x s.roles

module _ (lim : Limits) where
  -- one row more, which belongs to the place `at` and is shown at another
  abbrev pub add_row : ℕ → ℕ → ℕ → ℕ → ℕ → ℕ → ReaderState → ReaderState
  add_row at shown a b c d s =
      with_rows (s.rows ++ (a ∷ b ∷ c ∷ d ∷ [])) (logged (fault_when (leb lim.rows (rows_made s)) (blame at MANY shown)) s)

  -- one role more; a role that was listed before is none
  abbrev pub list_as : Bool → ℕ → List ℕ → ReaderState → ReaderState
  list_as true b x s = logged (blame b NAME b ∷ []) s
  list_as false b x s = with_roles (s.roles ++ (x ∷ [])) (logged (fault_when (leb lim.roles (length s.roles)) (blame b MANY b)) s)

  unfoldable pub role_listed : ℕ → List ℕ → ReaderState → ReaderState
  unfolding is_in index_of
  role_listed b x s = list_as (is_in x s.roles) b x s

  -- a message begins with its label, which was met before or is new
  abbrev pub label_as : Bool → ℕ → List ℕ → ℕ → ReaderState → ReaderState
  label_as true b x l s = with_labels s.labels l s
  label_as false b x l s = with_labels (s.labels ++ (x ∷ [])) l (logged (fault_when (leb lim.labels (length s.labels)) (blame b MANY b)) s)

  unfoldable pub label_met : ℕ → List ℕ → ReaderState → ReaderState
  unfolding is_in index_of
  label_met b x s = label_as (is_in x s.labels) b x (index_of x s.labels) s

  -- a statement begins: it is no later than the last of its block
  abbrev pub statement_begun : ℕ → ReaderState → ReaderState
  statement_begun b s = stated_at b (logged (fault_when (top s.frames).done (blame b LAST b)) s)

  -- a choice, rec or continue begins: it is the last statement, and does not begin the block of a choice
  unfoldable pub special : ℕ → ReaderState → ReaderState
  special b s =
      let f = top s.frames in
      framed (frame f.form false true ∷ around s.frames) (logged (fault_when (is_chosen f.form && f.unbegun) (blame b CHOICE b)) (statement_begun b s))

  -- the name of a role
  unfoldable pub role_met : ℕ → List ℕ → ReaderState → ReaderState
  unfolding is_in index_of
  role_met b x s = logged (fault_when (not (is_in x s.roles)) (blame b NAME b)) (name_met b x s)

  -- a message of its own: an Exchange and an Arm
  abbrev pub exchanged : ℕ → ReaderState → ReaderState
  exchanged b s =
      let n = rows_made s in
      let f = top s.frames in
      framed (frame f.form false f.done ∷ around s.frames)
      (add_row s.since b 2 s.label (n + 2) 0 (add_row s.since b 1 (role_number s.sender s) (role_number s.receiver s) (suc n) s))

  -- the message that begins a block of a choice of p: an Arm, behind the arm a
  unfoldable pub armed : ℕ → List ℕ → Option (List ℕ) → ℕ → ℕ → ReaderState → ReaderState
  unfolding spelled_alike
  armed b p q r a s =
      let n = rows_made s in
      let f = top s.frames in
      let q' = receiver_of q s.receiver in
      let wrong = not (spelled_alike s.sender p && spelled_alike s.receiver q') in
      let s₁ = add_row s.since b 2 s.label (suc n) 0 (logged (fault_when wrong (blame s.since CHOICE b)) s) in
      let heard = set s₁.rows (r * 4 + 2) (role_number q' s) in
      let linked = cond (eqb a 0) heard (set heard (a * 4 + 3) n) in
      framed (frame (chosen p (some q') r n) false f.done ∷ around s.frames) (with_rows linked s₁)

  -- first: it is the first statement of its block
  unfoldable pub message_in : Form → Bool → ℕ → ReaderState → ReaderState
  unfolding armed
  message_in body first b s = exchanged b s
  message_in (looped x) first b s = exchanged b s
  message_in (chosen p q r a) true b s = armed b p q r a s
  message_in (chosen p q r a) false b s = exchanged b s

  -- the sender and the receiver of a message
  unfoldable pub sender_met : ℕ → List ℕ → ReaderState → ReaderState
  unfolding is_in index_of role_met
  sender_met b x s = with_sender x (role_met b x s)

  unfoldable pub receiver_met : ℕ → List ℕ → ReaderState → ReaderState
  unfolding is_in index_of role_met
  receiver_met b x s = with_receiver x (role_met b x s)

  -- who chooses: an Exchange, whose receiver is not known yet
  unfoldable pub chooser_met : ℕ → List ℕ → ReaderState → ReaderState
  unfolding is_in index_of role_met
  chooser_met b x s =
      expecting (chosen x none (rows_made s) 0) (add_row s.since b 1 (role_number x s) 0 (suc (rows_made s)) (role_met b x s))

  -- the name of a rec: a Loop
  unfoldable pub rec_met : ℕ → List ℕ → ReaderState → ReaderState
  unfolding is_in index_of recs_in
  rec_met b x s =
      let again = fault_when (is_in x (recs_in s.frames)) (blame b NAME b) in
      expecting (looped x) (add_row s.since b 3 (suc (rows_made s)) 0 0 (logged again (name_met b x s)))

  -- the name of a continue: a Back
  unfoldable pub continue_met : ℕ → List ℕ → ReaderState → ReaderState
  unfolding is_in index_of recs_in
  continue_met b x s =
      let d = index_of x (recs_in s.frames) in
      let nowhere = fault_when (not (is_in x (recs_in s.frames))) (blame b NAME b) in
      add_row s.since b 4 d 0 0 (logged nowhere (name_met b x s))

  -- the `{` of a block
  abbrev pub block_opened : ReaderState → ReaderState
  block_opened s = framed (frame s.pending true false ∷ s.frames) s

  -- a message is over
  unfoldable pub message_ends : ℕ → ReaderState → ReaderState
  unfolding message_in
  message_ends b s = let f = top s.frames in message_in f.form f.unbegun b s

  -- behind a block: the text's end, an `or`, a statement
  abbrev pub block_behind : Form → ReaderState → ReaderState
  block_behind body s = go_to q_finish s
  block_behind (looped x) s = go_to q_stmt s
  block_behind (chosen p q r a) s = go_to q_arms (expecting (chosen p q r a) s)

  -- an End row, unless the block has its last statement
  abbrev pub end_as : Bool → ℕ → ReaderState → ReaderState
  end_as true b s = s
  end_as false b s = add_row b b 0 0 0 0 s

  -- the `}` of a block
  unfoldable pub block_closes : ℕ → ReaderState → ReaderState
  block_closes b s =
      let f = top s.frames in
      block_behind f.form (framed (around s.frames) (end_as f.done b (logged (fault_when (is_chosen f.form && f.unbegun) (blame b CHOICE b)) s)))

  -- in a block: a message, a choice, a rec, a continue, or its `}`
  unfoldable pub statement : Token → ReaderState → ReaderState
  unfolding block_closes special label_met
  statement w s =
      let a = go_to q_payload (label_met (start w) (bytes w) (name_met (start w) (bytes w) (statement_begun (start w) s))) in
      let b = go_to q_at (special (start w) s) in
      let c = go_to q_rec (special (start w) s) in
      let d = go_to q_target (special (start w) s) in
      let e = block_closes (start w) s in
      let x₁ = want close_mark w s e in
      let x₂ = cond (same_sort (sort w) continue_word) d x₁ in
      let x₃ = cond (same_sort (sort w) rec_word) c x₂ in
      let x₄ = cond (same_sort (sort w) choice_word) b x₃ in
      cond (same_sort (sort w) a_name) a x₄

  -- one of two tokens
  abbrev pub either : Sort → Sort → Token → ReaderState → ReaderState → ReaderState → ReaderState
  either k k' w s next next' = let x = want k' w s next' in cond (same_sort (sort w) k) next x

  unfoldable pub read_at : Control → Token → ReaderState → ReaderState
  unfolding role_listed statement sender_met receiver_met chooser_met rec_met continue_met message_ends
  read_at q_module w s = want module_word w s (go_to q_name s)
  read_at q_name w s = want a_name w s (go_to q_dots (name_met (start w) (bytes w) s))
  read_at q_dots w s = either dot_mark semi_mark w s (go_to q_name s) (go_to q_global s)
  read_at q_global w s = want global_word w s (go_to q_protocol s)
  read_at q_protocol w s = want protocol_word w s (go_to q_title s)
  read_at q_title w s = want a_name w s (go_to q_left (name_met (start w) (bytes w) s))
  read_at q_left w s = want left_mark w s (go_to q_role s)
  read_at q_role w s = want role_word w s (go_to q_listed s)
  read_at q_listed w s = want a_name w s (go_to q_roles (role_listed (start w) (bytes w) (name_met (start w) (bytes w) s)))
  read_at q_roles w s = either comma_mark right_mark w s (go_to q_role s) (go_to q_open (expecting body s))
  read_at q_open w s = want open_mark w s (go_to q_stmt (block_opened s))
  read_at q_stmt w s = statement w s
  read_at q_arms w s = let x = statement w s in cond (same_sort (sort w) or_word) (go_to q_open s) x
  read_at q_payload w s = either left_mark from_word w s (go_to q_first s) (go_to q_sender s)
  read_at q_first w s = either right_mark a_name w s (go_to q_from s) (go_to q_types (name_met (start w) (bytes w) s))
  read_at q_types w s = either comma_mark right_mark w s (go_to q_type s) (go_to q_from s)
  read_at q_type w s = want a_name w s (go_to q_types (name_met (start w) (bytes w) s))
  read_at q_from w s = want from_word w s (go_to q_sender s)
  read_at q_sender w s = want a_name w s (go_to q_to (sender_met (start w) (bytes w) s))
  read_at q_to w s = want to_word w s (go_to q_receiver s)
  read_at q_receiver w s = want a_name w s (go_to q_sent (receiver_met (start w) (bytes w) s))
  read_at q_sent w s = want semi_mark w s (go_to q_stmt (message_ends (start w) s))
  read_at q_at w s = want at_word w s (go_to q_chooser s)
  read_at q_chooser w s = want a_name w s (go_to q_open (chooser_met (start w) (bytes w) s))
  read_at q_rec w s = want a_name w s (go_to q_open (rec_met (start w) (bytes w) s))
  read_at q_target w s = want a_name w s (go_to q_again (continue_met (start w) (bytes w) s))
  read_at q_again w s = want semi_mark w s (go_to q_stmt s)
  read_at q_finish w s = want end_of_text w s (go_to q_done s)
  read_at q_done w s = broken w s
  read_at q_stopped w s = go_to q_stopped s

  unfoldable pub run : List Token → ReaderState → ReaderState
  unfolding read_at
  run [] s = s
  run (w ∷ ws) s = run ws (read_at s.control w s)

-- what comes back
abbrev pub outcome_from : List ℕ → ℕ → ReaderState → Finding → TextOutcome
outcome_from text room s (faulty at num) = refused_text num (line_of text at)
outcome_from text room s faultless = cond (ltb room (length s.rows)) (refused_text ROOM 0) (accepted_text (length s.roles) s.rows)

unfoldable pub read_of : Limits → List ℕ → ℕ → TextOutcome
unfolding tokens_of run line_of deciding
read_of lim text room =
    let s = run lim (tokens_of text) begun in
    let read = outcome_from text room s (deciding s.log) in
    cond (ltb longest_text (length text)) (refused_text MANY 1) read
