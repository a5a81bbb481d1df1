-- A step either goes on, or stops the reader and logs the token as faulty; at the end of the text it ends or stops. Assumes nothing.
use Prim.Native.Nat.{ℕ}
use mathlib.Core.Bool.{Bool, true, false, cond}
use mathlib.Core.List.{List, [], ◌∷◌, ◌++◌}
use mathlib.Core.Logic.{◌⊎◌, inl, inr}
use mathlib.Core.Path.{◌≡◌, refl, ap, ◌∙◌}
use native.Mathlib.Omega.{arith}
use Rattle.table.specs.Limits.{Limits}
use Rattle.scribble.specs.Tokens.{Sort, Token, token, sort, start, bytes, same_sort, a_name, module_word, global_word, protocol_word, role_word, choice_word, at_word, or_word, rec_word, continue_word, from_word, to_word, open_mark, close_mark, left_mark, right_mark, comma_mark, semi_mark, dot_mark, end_of_text}
use Rattle.scribble.specs.Refusals.{blame, TEXT}
use Rattle.scribble.specs.mirror.Reader.{ReaderState, Control, Form, body, looped, chosen, top, q_module, q_name, q_dots, q_global, q_protocol, q_title, q_left, q_role, q_listed, q_roles, q_open, q_stmt, q_arms, q_payload, q_first, q_types, q_type, q_from, q_sender, q_to, q_receiver, q_sent, q_at, q_chooser, q_rec, q_target, q_again, q_finish, q_done, q_stopped, go_to, name_met, statement_begun, label_met, expecting, sender_met, receiver_met, chooser_met, rec_met, continue_met, special, block_opened, message_ends, block_closes, block_behind, role_listed, statement, read_at, run, want, either, broken}

-- 1 where the reader has stopped
abbrev code : Control → ℕ
code q_module = 0
code q_name = 0
code q_dots = 0
code q_global = 0
code q_protocol = 0
code q_title = 0
code q_left = 0
code q_role = 0
code q_listed = 0
code q_roles = 0
code q_open = 0
code q_stmt = 0
code q_arms = 0
code q_payload = 0
code q_first = 0
code q_types = 0
code q_type = 0
code q_from = 0
code q_sender = 0
code q_to = 0
code q_receiver = 0
code q_sent = 0
code q_at = 0
code q_chooser = 0
code q_rec = 0
code q_target = 0
code q_again = 0
code q_finish = 0
code q_done = 0
code q_stopped = 1

goes : (q : Control) → code q ≡ 0 → q ≡ q_stopped → ⊥
goes q e f = let g : code q ≡ 1 = ap code f in omega arith

-- the reader goes on, or it has stopped at the token
abbrev pub Stepped : Token → ReaderState → ReaderState → Type 0
Stepped w s x = ((x.control ≡ q_stopped → ⊥) ⊎ ((x.control ≡ q_stopped) × (x.log ≡ s.log ++ (blame (start w) TEXT (start w) ∷ []))))

on : (w : Token) (s x : ReaderState) → code x.control ≡ 0 → Stepped w s x
on w s x e = inl (goes x.control e)

either_of : (w : Token) (t : Bool) (s x y : ReaderState) → Stepped w s x → Stepped w s y → Stepped w s (cond t x y)
either_of w true s x y a b = a
either_of w false s x y a b = b

breaks : (w : Token) (s : ReaderState) → Stepped w s (broken w s)
breaks w s = inr (refl, refl)

module _ (lim : Limits) where
  wanted : (k : Sort) (w : Token) (s x : ReaderState) → code x.control ≡ 0 → Stepped w s (want k w s x)
  wanted k w s x e = either_of w (same_sort (sort w) k) s x (broken w s) (on w s x e) (breaks w s)

  one_of : (k k' : Sort) (w : Token) (s x y : ReaderState) → code x.control ≡ 0 → code y.control ≡ 0 → Stepped w s (either lim k k' w s x y)
  one_of k k' w s x y e f = either_of w (same_sort (sort w) k) s x (want k' w s y) (on w s x e) (wanted k' w s y f)

  closed_on : (f : Form) (s : ReaderState) → code (block_behind lim f s).control ≡ 0
  closed_on body s = refl
  closed_on (looped x) s = refl
  closed_on (chosen p q r a) s = refl

  closes_on : (b : ℕ) (s : ReaderState) → code (block_closes lim b s).control ≡ 0
  unfolding block_closes
  closes_on b s = closed_on (top s.frames).form _

  statement_steps : (w : Token) (s : ReaderState) → Stepped w s (statement lim w s)
  unfolding statement
  statement_steps w s =
      let at = start w in
      let x = bytes w in
      let s₁ = special lim at s in
      let x₁ = want close_mark w s (block_closes lim at s) in
      let x₂ = cond (same_sort (sort w) continue_word) (go_to q_target s₁) x₁ in
      let x₃ = cond (same_sort (sort w) rec_word) (go_to q_rec s₁) x₂ in
      let x₄ = cond (same_sort (sort w) choice_word) (go_to q_at s₁) x₃ in
      let x₅ = go_to q_payload (label_met lim at x (name_met at x (statement_begun lim at s))) in
      either_of w (same_sort (sort w) a_name) s x₅ x₄ (on w s x₅ refl)
      (either_of w (same_sort (sort w) choice_word) s (go_to q_at s₁) x₃ (on w s (go_to q_at s₁) refl)
      (either_of w (same_sort (sort w) rec_word) s (go_to q_rec s₁) x₂ (on w s (go_to q_rec s₁) refl)
      (either_of w (same_sort (sort w) continue_word) s (go_to q_target s₁) x₁ (on w s (go_to q_target s₁) refl) (wanted close_mark w s (block_closes lim at s) (closes_on at s)))))

  pub steps : (q : Control) (w : Token) (s : ReaderState) → (q ≡ q_stopped → ⊥) → Stepped w s (read_at lim q w s)
  unfolding read_at
  steps q_module w s n = wanted module_word w s (go_to q_name s) refl
  steps q_name w s n = wanted a_name w s (go_to q_dots (name_met (start w) (bytes w) s)) refl
  steps q_dots w s n = one_of dot_mark semi_mark w s (go_to q_name s) (go_to q_global s) refl refl
  steps q_global w s n = wanted global_word w s (go_to q_protocol s) refl
  steps q_protocol w s n = wanted protocol_word w s (go_to q_title s) refl
  steps q_title w s n = wanted a_name w s (go_to q_left (name_met (start w) (bytes w) s)) refl
  steps q_left w s n = wanted left_mark w s (go_to q_role s) refl
  steps q_role w s n = wanted role_word w s (go_to q_listed s) refl
  steps q_listed w s n = wanted a_name w s (go_to q_roles (role_listed lim (start w) (bytes w) (name_met (start w) (bytes w) s))) refl
  steps q_roles w s n = one_of comma_mark right_mark w s (go_to q_role s) (go_to q_open (expecting body s)) refl refl
  steps q_open w s n = wanted open_mark w s (go_to q_stmt (block_opened lim s)) refl
  steps q_stmt w s n = statement_steps w s
  steps q_arms w s n = either_of w (same_sort (sort w) or_word) s (go_to q_open s) (statement lim w s) (on w s (go_to q_open s) refl) (statement_steps w s)
  steps q_payload w s n = one_of left_mark from_word w s (go_to q_first s) (go_to q_sender s) refl refl
  steps q_first w s n = one_of right_mark a_name w s (go_to q_from s) (go_to q_types (name_met (start w) (bytes w) s)) refl refl
  steps q_types w s n = one_of comma_mark right_mark w s (go_to q_type s) (go_to q_from s) refl refl
  steps q_type w s n = wanted a_name w s (go_to q_types (name_met (start w) (bytes w) s)) refl
  steps q_from w s n = wanted from_word w s (go_to q_sender s) refl
  steps q_sender w s n = wanted a_name w s (go_to q_to (sender_met lim (start w) (bytes w) s)) refl
  steps q_to w s n = wanted to_word w s (go_to q_receiver s) refl
  steps q_receiver w s n = wanted a_name w s (go_to q_sent (receiver_met lim (start w) (bytes w) s)) refl
  steps q_sent w s n = wanted semi_mark w s (go_to q_stmt (message_ends lim (start w) s)) refl
  steps q_at w s n = wanted at_word w s (go_to q_chooser s) refl
  steps q_chooser w s n = wanted a_name w s (go_to q_open (chooser_met lim (start w) (bytes w) s)) refl
  steps q_rec w s n = wanted a_name w s (go_to q_open (rec_met lim (start w) (bytes w) s)) refl
  steps q_target w s n = wanted a_name w s (go_to q_again (continue_met lim (start w) (bytes w) s)) refl
  steps q_again w s n = wanted semi_mark w s (go_to q_stmt s) refl
  steps q_finish w s n = wanted end_of_text w s (go_to q_done s) refl
  steps q_done w s n = breaks w s
  steps q_stopped w s n = absurd (n refl)

  -- at the end of the text the reader ends or stops
  pub halts : (q : Control) (b : ℕ) (x : List ℕ) (s : ReaderState) → (((read_at lim q (token end_of_text b x) s).control ≡ q_done) ⊎ ((read_at lim q (token end_of_text b x) s).control ≡ q_stopped))
  unfolding read_at statement
  halts q_module b x s = inr refl
  halts q_name b x s = inr refl
  halts q_dots b x s = inr refl
  halts q_global b x s = inr refl
  halts q_protocol b x s = inr refl
  halts q_title b x s = inr refl
  halts q_left b x s = inr refl
  halts q_role b x s = inr refl
  halts q_listed b x s = inr refl
  halts q_roles b x s = inr refl
  halts q_open b x s = inr refl
  halts q_stmt b x s = inr refl
  halts q_arms b x s = inr refl
  halts q_payload b x s = inr refl
  halts q_first b x s = inr refl
  halts q_types b x s = inr refl
  halts q_type b x s = inr refl
  halts q_from b x s = inr refl
  halts q_sender b x s = inr refl
  halts q_to b x s = inr refl
  halts q_receiver b x s = inr refl
  halts q_sent b x s = inr refl
  halts q_at b x s = inr refl
  halts q_chooser b x s = inr refl
  halts q_rec b x s = inr refl
  halts q_target b x s = inr refl
  halts q_again b x s = inr refl
  halts q_finish b x s = inl refl
  halts q_done b x s = inr refl
  halts q_stopped b x s = inr refl

  -- a reader that has stopped does nothing more
  pub stays : (ws : List Token) (s : ReaderState) → s.control ≡ q_stopped → ((run lim ws s).control ≡ q_stopped) × ((run lim ws s).log ≡ s.log)
  unfolding run read_at
  stays [] s e = (e, refl)
  stays (w ∷ ws) s e =
      let k = stays ws (read_at lim s.control w s) (ap (λ (q : Control). (read_at lim q w s).control) e) in
      (k.0, k.1 ∙ ap (λ (q : Control). (read_at lim q w s).log) e)
