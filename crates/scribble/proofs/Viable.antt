-- A token is refused exactly where no text goes on with it: what was read before can be completed, and with the token it cannot. Assumes nothing.
use Prim.Native.Nat.{ℕ}
use mathlib.Core.List.{List, [], ◌∷◌, ◌++◌}
use mathlib.Core.Path.{◌≡◌, refl, ap, sym, subst, ◌∙◌}
use native.Mathlib.Omega.{arith}
use Rattle.table.specs.Limits.{Limits}
use Rattle.scribble.specs.Tokens.{Sort, Token, token, a_name, module_word, global_word, protocol_word, role_word, at_word, from_word, to_word, open_mark, close_mark, left_mark, right_mark, semi_mark, end_of_text}
use Rattle.scribble.specs.Grammar.{SyntaxTree, protocol, IsText}
use Rattle.scribble.proofs.Acting.{block_closes_left, block_closes_go, behind}
use Rattle.scribble.proofs.Agree.{arms, run_text}
use Rattle.scribble.proofs.Sound.{has_tree}
use Rattle.scribble.specs.mirror.Acts.{do_tree}
use Rattle.scribble.specs.Outcome.{AllAt, none_at, one_at}
use Rattle.scribble.specs.mirror.Reader.{ReaderState, Control, Form, body, looped, chosen, Frame, top, q_module, q_name, q_dots, q_global, q_protocol, q_title, q_left, q_role, q_listed, q_roles, q_open, q_stmt, q_arms, q_payload, q_first, q_types, q_type, q_from, q_sender, q_to, q_receiver, q_sent, q_at, q_chooser, q_rec, q_target, q_again, q_finish, q_done, q_stopped, go_to, name_met, expecting, begun, sender_met, receiver_met, chooser_met, rec_met, continue_met, block_opened, message_ends, block_closes, block_behind, role_listed, read_at, run}

module _ (lim : Limits) where
  pub run_append : (ws vs : List Token) (s : ReaderState) → run lim (ws ++ vs) s ≡ run lim vs (run lim ws s)
  unfolding run
  run_append [] vs s = refl
  run_append (w ∷ ws) vs s = run_append ws vs (read_at lim s.control w s)

-- the tokens that complete a text stand at one place, pl
module _ (lim : Limits) (pl : ℕ) where
  -- from here on the tokens can be such that the text is read to its end
  abbrev Ends : ReaderState → Type 0
  Ends s = (more : List Token) × AllAt pl more × ((run lim more s).control ≡ q_done)

  step : (k : Sort) (s : ReaderState) → Ends (read_at lim s.control (token k pl []) s) → Ends s
  unfolding run
  step k s (more, a, e) = (token k pl [] ∷ more, one_at refl a, e)

  v_finish : (s : ReaderState) → Ends (go_to q_finish s)
  unfolding run
  v_finish s = (token end_of_text pl [] ∷ [], one_at refl none_at, refl)

  -- every open block is closed
  closing : (s : ReaderState) → Ends (block_closes lim pl s) → Ends (go_to q_stmt s)
  unfolding run
  closing s (more, a, e) = (token close_mark pl [] ∷ more, one_at refl a, ap (λ (x : ReaderState). (run lim more x).control) (block_closes_go lim q_stmt pl s) ∙ e)

  v_arms : (s : ReaderState) → Ends (block_closes lim pl s) → Ends (go_to q_arms s)
  unfolding run
  v_arms s (more, a, e) = (token close_mark pl [] ∷ more, one_at refl a, ap (λ (x : ReaderState). x.control) (arms lim (token close_mark pl [] ∷ more) s tt) ∙ (ap (λ (x : ReaderState). (run lim more x).control) (block_closes_go lim q_stmt pl s) ∙ e))

  at : (q : Control) (s : ReaderState) → s.control ≡ q → Ends (go_to q s) → Ends s
  at q s e v = subst (λ (x : Control). Ends (go_to x s)) (sym e) v

  after_close : (f : Form) (s : ReaderState) → s.control ≡ behind f → Ends (go_to q_stmt s) → Ends (block_closes lim pl s) → Ends s
  after_close body s e v w = at q_finish s e (v_finish s)
  after_close (looped x) s e v w = at q_stmt s e v
  after_close (chosen p q r a) s e v w = at q_arms s e (v_arms s w)

  closed_control : (f : Form) (s : ReaderState) → (block_behind lim f s).control ≡ behind f
  closed_control body s = refl
  closed_control (looped x) s = refl
  closed_control (chosen p q r a) s = refl

  closed_none : (s : ReaderState) → s.frames ≡ [] → Ends (block_closes lim pl s)
  unfolding block_closes
  closed_none s e =
      at q_finish (block_closes lim pl s) (closed_control (top s.frames).form _ ∙ ap (λ (fs : List Frame). behind (top fs).form) e) (v_finish (block_closes lim pl s))

  close_all : (fs : List Frame) (s : ReaderState) → s.frames ≡ fs → Ends (block_closes lim pl s)
  close_all [] s e = closed_none s e
  close_all (f ∷ fs) s e =
      let k = block_closes_left lim pl s f fs e in
      let w = close_all fs (block_closes lim pl s) k.0 in
      after_close f.form (block_closes lim pl s) k.1 (closing (block_closes lim pl s) w) w

  v_stmt : (s : ReaderState) → Ends (go_to q_stmt s)
  v_stmt s = closing s (close_all s.frames s refl)

  v_open : (s : ReaderState) → Ends (go_to q_open s)
  unfolding read_at
  v_open s = step open_mark (go_to q_open s) (v_stmt (block_opened lim s))

  v_sent : (s : ReaderState) → Ends (go_to q_sent s)
  unfolding read_at
  v_sent s = step semi_mark (go_to q_sent s) (v_stmt (message_ends lim pl (go_to q_sent s)))

  v_receiver : (s : ReaderState) → Ends (go_to q_receiver s)
  unfolding read_at
  v_receiver s = step a_name (go_to q_receiver s) (v_sent (receiver_met lim pl [] (go_to q_receiver s)))

  v_to : (s : ReaderState) → Ends (go_to q_to s)
  unfolding read_at
  v_to s = step to_word (go_to q_to s) (v_receiver s)

  v_sender : (s : ReaderState) → Ends (go_to q_sender s)
  unfolding read_at
  v_sender s = step a_name (go_to q_sender s) (v_to (sender_met lim pl [] (go_to q_sender s)))

  v_from : (s : ReaderState) → Ends (go_to q_from s)
  unfolding read_at
  v_from s = step from_word (go_to q_from s) (v_sender s)

  v_types : (s : ReaderState) → Ends (go_to q_types s)
  unfolding read_at
  v_types s = step right_mark (go_to q_types s) (v_from s)

  v_chooser : (s : ReaderState) → Ends (go_to q_chooser s)
  unfolding read_at
  v_chooser s = step a_name (go_to q_chooser s) (v_open (chooser_met lim pl [] (go_to q_chooser s)))

  v_again : (s : ReaderState) → Ends (go_to q_again s)
  unfolding read_at
  v_again s = step semi_mark (go_to q_again s) (v_stmt s)

  v_roles : (s : ReaderState) → Ends (go_to q_roles s)
  unfolding read_at
  v_roles s = step right_mark (go_to q_roles s) (v_open (expecting body s))

  v_listed : (s : ReaderState) → Ends (go_to q_listed s)
  unfolding read_at
  v_listed s = step a_name (go_to q_listed s) (v_roles (role_listed lim pl [] (name_met pl [] (go_to q_listed s))))

  v_role : (s : ReaderState) → Ends (go_to q_role s)
  unfolding read_at
  v_role s = step role_word (go_to q_role s) (v_listed s)

  v_left : (s : ReaderState) → Ends (go_to q_left s)
  unfolding read_at
  v_left s = step left_mark (go_to q_left s) (v_role s)

  v_title : (s : ReaderState) → Ends (go_to q_title s)
  unfolding read_at
  v_title s = step a_name (go_to q_title s) (v_left (name_met pl [] s))

  v_protocol : (s : ReaderState) → Ends (go_to q_protocol s)
  unfolding read_at
  v_protocol s = step protocol_word (go_to q_protocol s) (v_title s)

  v_global : (s : ReaderState) → Ends (go_to q_global s)
  unfolding read_at
  v_global s = step global_word (go_to q_global s) (v_protocol s)

  v_dots : (s : ReaderState) → Ends (go_to q_dots s)
  unfolding read_at
  v_dots s = step semi_mark (go_to q_dots s) (v_global s)

  v_name : (s : ReaderState) → Ends (go_to q_name s)
  unfolding read_at
  v_name s = step a_name (go_to q_name s) (v_dots (name_met pl [] s))

  -- the reader has not stopped
  abbrev pub Going : Control → Type 0
  Going q = q ≡ q_stopped → ⊥

  viable : (q : Control) (s : ReaderState) → Going q → Ends (go_to q s)
  unfolding read_at run
  viable q_module s g = step module_word (go_to q_module s) (v_name s)
  viable q_name s g = v_name s
  viable q_dots s g = v_dots s
  viable q_global s g = v_global s
  viable q_protocol s g = v_protocol s
  viable q_title s g = v_title s
  viable q_left s g = v_left s
  viable q_role s g = v_role s
  viable q_listed s g = v_listed s
  viable q_roles s g = v_roles s
  viable q_open s g = v_open s
  viable q_stmt s g = v_stmt s
  viable q_arms s g = v_arms s (close_all s.frames s refl)
  viable q_payload s g = step from_word (go_to q_payload s) (v_sender s)
  viable q_first s g = step right_mark (go_to q_first s) (v_from s)
  viable q_types s g = v_types s
  viable q_type s g = step a_name (go_to q_type s) (v_types (name_met pl [] s))
  viable q_from s g = v_from s
  viable q_sender s g = v_sender s
  viable q_to s g = v_to s
  viable q_receiver s g = v_receiver s
  viable q_sent s g = v_sent s
  viable q_at s g = step at_word (go_to q_at s) (v_chooser s)
  viable q_chooser s g = v_chooser s
  viable q_rec s g = step a_name (go_to q_rec s) (v_open (rec_met lim pl [] (go_to q_rec s)))
  viable q_target s g = step a_name (go_to q_target s) (v_again (continue_met lim pl [] (go_to q_target s)))
  viable q_again s g = v_again s
  viable q_finish s g = v_finish s
  viable q_done s g = ([], none_at, refl)
  viable q_stopped s g = absurd (g refl)

  -- tokens that the reader has not refused can be completed to a text
  pub completed : (ws : List Token) → Going (run lim ws begun).control → (more : List Token) × AllAt pl more × (t : SyntaxTree) × IsText (ws ++ more) t
  completed ws g =
      let v = viable (run lim ws begun).control (run lim ws begun) g in
      let k = has_tree lim (ws ++ v.0) (ap (λ (s : ReaderState). s.control) (run_append lim ws v.0 begun) ∙ v.2) in
      (v.0, v.1, k.0, k.1)

module _ (lim : Limits) where
  stays : (ws : List Token) (s : ReaderState) → s.control ≡ q_stopped → (run lim ws s).control ≡ q_stopped
  unfolding run read_at
  stays [] s e = e
  stays (w ∷ ws) s e = stays ws (read_at lim s.control w s) (ap (λ (q : Control). (read_at lim q w s).control) e)

  tree_done : (t : SyntaxTree) → (do_tree lim t).control ≡ q_done
  unfolding do_tree
  tree_done (protocol m n rs b) = refl

  -- no text goes on from tokens that the reader has refused
  pub refused : (ws more : List Token) (t : SyntaxTree) → (run lim ws begun).control ≡ q_stopped → IsText (ws ++ more) t → ⊥
  unfolding do_tree
  refused ws more t e h =
      let stopped = stays more (run lim ws begun) e in
      let done = ap (λ (s : ReaderState). s.control) (sym (run_append lim ws more begun) ∙ run_text lim h) in
      let e' : q_stopped ≡ q_done = sym stopped ∙ (done ∙ tree_done t) in
      let z : ◌≡◌ {A = ℕ} 0 1 = cc in
      omega arith
