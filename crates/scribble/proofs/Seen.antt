-- A step logs only faults that its token shows, and whose place is the token's or that of the statement that is read. Assumes nothing.
use Prim.Native.Nat.{ℕ, suc}
use mathlib.Core.Bool.{Bool, true, false, cond, not, ◌&&◌}
use mathlib.Core.List.{List, [], ◌∷◌, ◌++◌, append_assoc, append-nil}
use mathlib.Core.Option.{Option}
use mathlib.Core.Path.{◌≡◌, refl, ap, sym, ◌∙◌}
use lib.Dec.{ltb, leb}
use lib.ListN.{length}
use Rattle.table.specs.Limits.{Limits}
use Rattle.scribble.specs.Tokens.{Sort, Token, sort, start, bytes, same_sort, spelled_alike, a_name, module_word, global_word, protocol_word, role_word, choice_word, at_word, or_word, rec_word, continue_word, from_word, to_word, open_mark, close_mark, left_mark, right_mark, comma_mark, semi_mark, dot_mark, end_of_text}
use Rattle.scribble.specs.Names.{is_in, index_of}
use Rattle.scribble.specs.Refusals.{longest_name, Fault, blame, fault_when, TEXT, NAME, CHOICE, LAST, MANY}
use Rattle.scribble.specs.mirror.Reader.{ReaderState, Control, Form, body, looped, chosen, Frame, top, around, is_chosen, add_row, exchanged, receiver_of, role_number, rows_made, q_module, q_name, q_dots, q_global, q_protocol, q_title, q_left, q_role, q_listed, q_roles, q_open, q_stmt, q_arms, q_payload, q_first, q_types, q_type, q_from, q_sender, q_to, q_receiver, q_sent, q_at, q_chooser, q_rec, q_target, q_again, q_finish, q_done, q_stopped, go_to, name_met, statement_begun, label_met, label_as, list_as, expecting, end_as, framed, logged, sender_met, receiver_met, chooser_met, rec_met, continue_met, special, block_opened, message_ends, message_in, armed, block_closes, block_behind, role_listed, statement, read_at, role_met, recs_in, want, either, broken}

-- every fault is shown at this place, and the place of each is such
pub data AllSeen (P : ℕ → Type 0) (at : ℕ) : List Fault → Type 0 where
  none_seen : AllSeen P at []
  one_seen : {f : Fault} {fs : List Fault} → f.seen ≡ at → P f.place → AllSeen P at fs → AllSeen P at (f ∷ fs)

pub both_seen : {P : ℕ → Type 0} {at : ℕ} {xs ys : List Fault} → AllSeen P at xs → AllSeen P at ys → AllSeen P at (xs ++ ys)
both_seen none_seen b = b
both_seen (one_seen e p a) b = one_seen e p (both_seen a b)

-- the log has grown by faults that are shown at this place
abbrev pub Grew : (ℕ → Type 0) → ℕ → ReaderState → ReaderState → Type 0
Grew P at s s' = (fs : List Fault) × (s'.log ≡ s.log ++ fs) × AllSeen P at fs

pub same : (P : ℕ → Type 0) (at : ℕ) (s s' : ReaderState) → s'.log ≡ s.log → Grew P at s s'
same P at s s' e = ([], e ∙ sym (append-nil s.log), none_seen)

pub more : (P : ℕ → Type 0) (at : ℕ) (s s₁ s₂ : ReaderState) (gs : List Fault) → Grew P at s s₁ → s₂.log ≡ s₁.log ++ gs → AllSeen P at gs → Grew P at s s₂
more P at s s₁ s₂ gs (fs, e, a) f b = (fs ++ gs, f ∙ (ap (λ (l : List Fault). l ++ gs) e ∙ append_assoc s.log fs gs), both_seen a b)

-- inside a statement: what is logged may belong to where it began
abbrev pub inside : Control → Bool
inside q_module = false
inside q_name = false
inside q_dots = false
inside q_global = false
inside q_protocol = false
inside q_title = false
inside q_left = false
inside q_role = false
inside q_listed = false
inside q_roles = false
inside q_open = false
inside q_stmt = false
inside q_arms = false
inside q_payload = true
inside q_first = true
inside q_types = true
inside q_type = true
inside q_from = true
inside q_sender = true
inside q_to = true
inside q_receiver = true
inside q_sent = true
inside q_at = true
inside q_chooser = true
inside q_rec = true
inside q_target = true
inside q_again = false
inside q_finish = false
inside q_done = false
inside q_stopped = false

module _ (lim : Limits) (P : ℕ → Type 0) (w : Token) (h : P (start w)) where
  chosen_of : (t : Bool) (s x y : ReaderState) → Grew P (start w) s x → Grew P (start w) s y → Grew P (start w) s (cond t x y)
  chosen_of true s x y a b = a
  chosen_of false s x y a b = b

  logs : (s₀ s s' : ReaderState) (t : Bool) (p n : ℕ) → P p → Grew P (start w) s₀ s → s'.log ≡ s.log ++ fault_when t (blame p n (start w)) → Grew P (start w) s₀ s'
  logs s₀ s s' t p n hp g e = more P (start w) s₀ s s' (fault_when t (blame p n (start w))) g e (by t)
    where
      by : (t : Bool) → AllSeen P (start w) (fault_when t (blame p n (start w)))
      by true = one_seen refl hp none_seen
      by false = none_seen

  g_long : (s₀ : ReaderState) (x : List ℕ) (s : ReaderState) → Grew P (start w) s₀ s → Grew P (start w) s₀ (name_met (start w) x s)
  g_long s₀ x s g = logs s₀ s (name_met (start w) x s) (ltb longest_name (length x)) (start w) NAME h g refl

  g_row : (s₀ : ReaderState) (p a b c d : ℕ) (s : ReaderState) → P p → Grew P (start w) s₀ s → Grew P (start w) s₀ (add_row lim p (start w) a b c d s)
  g_row s₀ p a b c d s hp g = logs s₀ s (add_row lim p (start w) a b c d s) (leb lim.rows (rows_made s)) p MANY hp g refl

  g_begins : (s₀ s : ReaderState) → Grew P (start w) s₀ s → Grew P (start w) s₀ (statement_begun lim (start w) s)
  g_begins s₀ s g = logs s₀ s (statement_begun lim (start w) s) (top s.frames).done (start w) LAST h g refl

  g_special : (s₀ s : ReaderState) → Grew P (start w) s₀ s → Grew P (start w) s₀ (special lim (start w) s)
  unfolding special
  g_special s₀ s g =
      logs s₀ (statement_begun lim (start w) s) (special lim (start w) s) (is_chosen (top s.frames).form && (top s.frames).unbegun) (start w) CHOICE h (g_begins s₀ s g) refl

  g_role : (s₀ : ReaderState) (x : List ℕ) (s : ReaderState) → Grew P (start w) s₀ s → Grew P (start w) s₀ (role_met lim (start w) x s)
  unfolding role_met
  g_role s₀ x s g = logs s₀ (name_met (start w) x s) (role_met lim (start w) x s) (not (is_in x s.roles)) (start w) NAME h (g_long s₀ x s g) refl

  list_as_grew : (t : Bool) (s₀ : ReaderState) (x : List ℕ) (s : ReaderState) → Grew P (start w) s₀ s → Grew P (start w) s₀ (list_as lim t (start w) x s)
  list_as_grew true s₀ x s g = logs s₀ s (list_as lim true (start w) x s) true (start w) NAME h g refl
  list_as_grew false s₀ x s g = logs s₀ s (list_as lim false (start w) x s) (leb lim.roles (length s.roles)) (start w) MANY h g refl

  g_listed : (s₀ : ReaderState) (x : List ℕ) (s : ReaderState) → Grew P (start w) s₀ s → Grew P (start w) s₀ (role_listed lim (start w) x s)
  unfolding role_listed
  g_listed s₀ x s g = list_as_grew (is_in x s.roles) s₀ x s g

  label_as_grew : (t : Bool) (s₀ : ReaderState) (x : List ℕ) (l : ℕ) (s : ReaderState) → Grew P (start w) s₀ s → Grew P (start w) s₀ (label_as lim t (start w) x l s)
  label_as_grew true s₀ x l s g = g
  label_as_grew false s₀ x l s g = logs s₀ s (label_as lim false (start w) x l s) (leb lim.labels (length s.labels)) (start w) MANY h g refl

  g_labels : (s₀ : ReaderState) (x : List ℕ) (s : ReaderState) → Grew P (start w) s₀ s → Grew P (start w) s₀ (label_met lim (start w) x s)
  unfolding label_met
  g_labels s₀ x s g = label_as_grew (is_in x s.labels) s₀ x (index_of x s.labels) s g

  g_choosing : (s₀ : ReaderState) (x : List ℕ) (s : ReaderState) → P s.since → Grew P (start w) s₀ s → Grew P (start w) s₀ (chooser_met lim (start w) x s)
  unfolding chooser_met role_met
  g_choosing s₀ x s k g =
      logs s₀ (role_met lim (start w) x s) (chooser_met lim (start w) x s) (leb lim.rows (rows_made s)) s.since MANY k (g_role s₀ x s g) refl

  g_looping : (s₀ : ReaderState) (x : List ℕ) (s : ReaderState) → P s.since → Grew P (start w) s₀ s → Grew P (start w) s₀ (rec_met lim (start w) x s)
  unfolding rec_met
  g_looping s₀ x s k g =
      let again = is_in x (recs_in s.frames) in
      let s₁ = logged (fault_when again (blame (start w) NAME (start w))) (name_met (start w) x s) in
      logs s₀ s₁ (rec_met lim (start w) x s) (leb lim.rows (rows_made s)) s.since MANY k
      (logs s₀ (name_met (start w) x s) s₁ again (start w) NAME h (g_long s₀ x s g) refl) refl

  g_continuing : (s₀ : ReaderState) (x : List ℕ) (s : ReaderState) → P s.since → Grew P (start w) s₀ s → Grew P (start w) s₀ (continue_met lim (start w) x s)
  unfolding continue_met
  g_continuing s₀ x s k g =
      let nowhere = not (is_in x (recs_in s.frames)) in
      let s₁ = logged (fault_when nowhere (blame (start w) NAME (start w))) (name_met (start w) x s) in
      logs s₀ s₁ (continue_met lim (start w) x s) (leb lim.rows (rows_made s)) s.since MANY k
      (logs s₀ (name_met (start w) x s) s₁ nowhere (start w) NAME h (g_long s₀ x s g) refl) refl

  g_exchanged : (s₀ s : ReaderState) → P s.since → Grew P (start w) s₀ s → Grew P (start w) s₀ (exchanged lim (start w) s)
  g_exchanged s₀ s k g =
      let s₁ = add_row lim s.since (start w) 1 (role_number s.sender s) (role_number s.receiver s) (suc (rows_made s)) s in
      logs s₀ s₁ (exchanged lim (start w) s) (leb lim.rows (rows_made s₁)) s.since MANY k (g_row s₀ s.since 1 (role_number s.sender s) (role_number s.receiver s) (suc (rows_made s)) s k g) refl

  g_armed : (s₀ : ReaderState) (p : List ℕ) (q : Option (List ℕ)) (r a : ℕ) (s : ReaderState) → P s.since → Grew P (start w) s₀ s → Grew P (start w) s₀ (armed lim (start w) p q r a s)
  unfolding armed
  g_armed s₀ p q r a s k g =
      let wrong = not (spelled_alike s.sender p && spelled_alike s.receiver (receiver_of q s.receiver)) in
      let s₁ = logged (fault_when wrong (blame s.since CHOICE (start w))) s in
      logs s₀ s₁ (armed lim (start w) p q r a s) (leb lim.rows (rows_made s)) s.since MANY k (logs s₀ s s₁ wrong s.since CHOICE k g refl) refl

  sent_in_grew : (f : Form) (t : Bool) (s₀ s : ReaderState) → P s.since → Grew P (start w) s₀ s → Grew P (start w) s₀ (message_in lim f t (start w) s)
  unfolding message_in
  sent_in_grew body t s₀ s k g = g_exchanged s₀ s k g
  sent_in_grew (looped x) t s₀ s k g = g_exchanged s₀ s k g
  sent_in_grew (chosen p q r a) true s₀ s k g = g_armed s₀ p q r a s k g
  sent_in_grew (chosen p q r a) false s₀ s k g = g_exchanged s₀ s k g

  g_sent : (s₀ s : ReaderState) → P s.since → Grew P (start w) s₀ s → Grew P (start w) s₀ (message_ends lim (start w) s)
  unfolding message_ends
  g_sent s₀ s k g = sent_in_grew (top s.frames).form (top s.frames).unbegun s₀ s k g

  closed_grew : (f : Form) (t : Bool) (fs : List Frame) (s₀ s : ReaderState) → Grew P (start w) s₀ s → Grew P (start w) s₀ (block_behind lim f (framed fs (end_as lim t (start w) s)))
  closed_grew body true fs s₀ s g = g
  closed_grew body false fs s₀ s g = g_row s₀ (start w) 0 0 0 0 s h g
  closed_grew (looped x) true fs s₀ s g = g
  closed_grew (looped x) false fs s₀ s g = g_row s₀ (start w) 0 0 0 0 s h g
  closed_grew (chosen p q r a) true fs s₀ s g = g
  closed_grew (chosen p q r a) false fs s₀ s g = g_row s₀ (start w) 0 0 0 0 s h g

  g_closes : (s₀ s : ReaderState) → Grew P (start w) s₀ s → Grew P (start w) s₀ (block_closes lim (start w) s)
  unfolding block_closes
  g_closes s₀ s g =
      let empty = is_chosen (top s.frames).form && (top s.frames).unbegun in
      let s₁ = logged (fault_when empty (blame (start w) CHOICE (start w))) s in
      closed_grew (top s.frames).form (top s.frames).done (around s.frames) s₀ s₁ (logs s₀ s s₁ empty (start w) CHOICE h g refl)

  g_broken : (s : ReaderState) → Grew P (start w) s (broken w s)
  g_broken s = logs s s (broken w s) true (start w) TEXT h (same P (start w) s s refl) refl

  g_want : (k : Sort) (s s' : ReaderState) → Grew P (start w) s s' → Grew P (start w) s (want k w s s')
  g_want k s s' g = chosen_of (same_sort (sort w) k) s s' (broken w s) g (g_broken s)

  g_either : (k k' : Sort) (s s₁ s₂ : ReaderState) → Grew P (start w) s s₁ → Grew P (start w) s s₂ → Grew P (start w) s (either lim k k' w s s₁ s₂)
  g_either k k' s s₁ s₂ g g' = chosen_of (same_sort (sort w) k) s s₁ (want k' w s s₂) g (g_want k' s s₂ g')

  still : (s : ReaderState) → Grew P (start w) s s
  still s = same P (start w) s s refl

  g_statement : (s : ReaderState) → Grew P (start w) s (statement lim w s)
  unfolding statement
  g_statement s =
      let x = bytes w in
      let s₁ = special lim (start w) s in
      let g₁ = g_special s s (still s) in
      let x₁ = want close_mark w s (block_closes lim (start w) s) in
      let x₂ = cond (same_sort (sort w) continue_word) (go_to q_target s₁) x₁ in
      let x₃ = cond (same_sort (sort w) rec_word) (go_to q_rec s₁) x₂ in
      let x₄ = cond (same_sort (sort w) choice_word) (go_to q_at s₁) x₃ in
      chosen_of (same_sort (sort w) a_name) s (go_to q_payload (label_met lim (start w) x (name_met (start w) x (statement_begun lim (start w) s)))) x₄
      (g_labels s x (name_met (start w) x (statement_begun lim (start w) s)) (g_long s x (statement_begun lim (start w) s) (g_begins s s (still s))))
      (chosen_of (same_sort (sort w) choice_word) s (go_to q_at s₁) x₃ g₁
      (chosen_of (same_sort (sort w) rec_word) s (go_to q_rec s₁) x₂ g₁
      (chosen_of (same_sort (sort w) continue_word) s (go_to q_target s₁) x₁ g₁ (g_want close_mark s (block_closes lim (start w) s) (g_closes s s (still s))))))

  -- a step logs what its token shows
  pub g_step : (q : Control) (s : ReaderState) → (inside q ≡ true → P s.since) → Grew P (start w) s (read_at lim q w s)
  unfolding read_at sender_met receiver_met
  g_step q_module s k = g_want module_word s (go_to q_name s) (still s)
  g_step q_name s k = g_want a_name s (go_to q_dots (name_met (start w) (bytes w) s)) (g_long s (bytes w) s (still s))
  g_step q_dots s k = g_either dot_mark semi_mark s (go_to q_name s) (go_to q_global s) (still s) (still s)
  g_step q_global s k = g_want global_word s (go_to q_protocol s) (still s)
  g_step q_protocol s k = g_want protocol_word s (go_to q_title s) (still s)
  g_step q_title s k = g_want a_name s (go_to q_left (name_met (start w) (bytes w) s)) (g_long s (bytes w) s (still s))
  g_step q_left s k = g_want left_mark s (go_to q_role s) (still s)
  g_step q_role s k = g_want role_word s (go_to q_listed s) (still s)
  g_step q_listed s k =
      g_want a_name s (go_to q_roles (role_listed lim (start w) (bytes w) (name_met (start w) (bytes w) s)))
      (g_listed s (bytes w) (name_met (start w) (bytes w) s) (g_long s (bytes w) s (still s)))
  g_step q_roles s k = g_either comma_mark right_mark s (go_to q_role s) (go_to q_open (expecting body s)) (still s) (still s)
  g_step q_open s k = g_want open_mark s (go_to q_stmt (block_opened lim s)) (still s)
  g_step q_stmt s k = g_statement s
  g_step q_arms s k = chosen_of (same_sort (sort w) or_word) s (go_to q_open s) (statement lim w s) (still s) (g_statement s)
  g_step q_payload s k = g_either left_mark from_word s (go_to q_first s) (go_to q_sender s) (still s) (still s)
  g_step q_first s k = g_either right_mark a_name s (go_to q_from s) (go_to q_types (name_met (start w) (bytes w) s)) (still s) (g_long s (bytes w) s (still s))
  g_step q_types s k = g_either comma_mark right_mark s (go_to q_type s) (go_to q_from s) (still s) (still s)
  g_step q_type s k = g_want a_name s (go_to q_types (name_met (start w) (bytes w) s)) (g_long s (bytes w) s (still s))
  g_step q_from s k = g_want from_word s (go_to q_sender s) (still s)
  g_step q_sender s k = g_want a_name s (go_to q_to (sender_met lim (start w) (bytes w) s)) (g_role s (bytes w) s (still s))
  g_step q_to s k = g_want to_word s (go_to q_receiver s) (still s)
  g_step q_receiver s k = g_want a_name s (go_to q_sent (receiver_met lim (start w) (bytes w) s)) (g_role s (bytes w) s (still s))
  g_step q_sent s k = g_want semi_mark s (go_to q_stmt (message_ends lim (start w) s)) (g_sent s s (k refl) (still s))
  g_step q_at s k = g_want at_word s (go_to q_chooser s) (still s)
  g_step q_chooser s k = g_want a_name s (go_to q_open (chooser_met lim (start w) (bytes w) s)) (g_choosing s (bytes w) s (k refl) (still s))
  g_step q_rec s k = g_want a_name s (go_to q_open (rec_met lim (start w) (bytes w) s)) (g_looping s (bytes w) s (k refl) (still s))
  g_step q_target s k = g_want a_name s (go_to q_again (continue_met lim (start w) (bytes w) s)) (g_continuing s (bytes w) s (k refl) (still s))
  g_step q_again s k = g_want semi_mark s (go_to q_stmt s) (still s)
  g_step q_finish s k = g_want end_of_text s (go_to q_done s) (still s)
  g_step q_done s k = g_broken s
  g_step q_stopped s k = still s
