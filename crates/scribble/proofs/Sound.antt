-- What the reader takes to its end is a text of the grammar. Assumes nothing.
use Prim.Native.Nat.{ℕ}
use mathlib.Core.Bool.{Bool, true, false, cond}
use mathlib.Core.List.{List, [], ◌∷◌}
use mathlib.Core.Option.{none}
use mathlib.Core.Logic.{◌⊎◌, inl, inr, ⊎_elim}
use mathlib.Core.Path.{◌≡◌, refl, ap, sym, subst}
use native.Mathlib.Omega.{arith}
use Rattle.table.specs.Limits.{Limits}
use Rattle.scribble.specs.Tokens.{Sort, Token, token, sort, start, bytes, same_sort, a_name, module_word, global_word, protocol_word, role_word, choice_word, at_word, or_word, rec_word, continue_word, from_word, to_word, open_mark, close_mark, left_mark, right_mark, comma_mark, semi_mark, dot_mark, end_of_text}
use Rattle.scribble.specs.Grammar.{Name, name_at, message, choice, recursion, continue, ends, then, no_more, or, SyntaxTree, protocol, module_ends, module_dot, roles_end, roles_comma, types_end, types_comma, IsPayload, payload_left_out, payload_empty, payload_types, is_message, is_choice, is_rec, is_continue, block_ends, block_then, ors_none, ors_one, IsText, is_text}
use Rattle.scribble.specs.Names.{is_in, index_of}
use Rattle.scribble.specs.mirror.Reader.{ReaderState, Control, Form, body, looped, chosen, Frame, frame, top, around, is_chosen, q_module, q_name, q_dots, q_global, q_protocol, q_title, q_left, q_role, q_listed, q_roles, q_open, q_stmt, q_arms, q_payload, q_first, q_types, q_type, q_from, q_sender, q_to, q_receiver, q_sent, q_at, q_chooser, q_rec, q_target, q_again, q_finish, q_done, q_stopped, go_to, name_met, statement_begun, label_met, expecting, begun, end_as, framed, sender_met, receiver_met, chooser_met, rec_met, continue_met, special, block_opened, message_ends, message_in, block_closes, block_behind, role_listed, statement, read_at, run, role_met, want, either, broken}
use Rattle.scribble.proofs.Sorts.{same_sort_lem}
use Rattle.scribble.proofs.Acting.{label_frames}
use Rattle.scribble.proofs.Wanting.{Ended, Beyond, Behind, Next, Stmts, Opened, Sent, From, Types, Payload, Arms, Roles, Role, Protocol, Dots, Wants, Goal}

next : (k : Sort) (w : Token) (r : List Token) (B : List Token → Type 0) → sort w ≡ k → B r → Next k B (w ∷ r)
next k (token j b x) r B e h = (b, x, r, ap (λ (i : Sort). token i b x ∷ r) e, h)

-- the token was the wanted one
wanted : (k : Sort) (w : Token) (s s' : ReaderState) (ws : List Token) → Goal (want k w s s') ws → (sort w ≡ k) × Goal s' ws
wanted k w s s' ws h = go' (same_sort (sort w) k) refl h
  where
    go' : (t : Bool) → same_sort (sort w) k ≡ t → Goal (cond t s' (broken w s)) ws → (sort w ≡ k) × Goal s' ws
    go' true e h = (same_sort_lem (sort w) k e, h)
    go' false e h = absurd h

cases : {A B C : Type 0} → A ⊎ B → (A → C) → (B → C) → C
cases o f g = ⊎_elim f g o

tested : (k : Sort) (w : Token) (s s' : ReaderState) (ws : List Token) → Goal (cond (same_sort (sort w) k) s s') ws → (((sort w ≡ k) × Goal s ws) ⊎ (Goal s' ws))
tested k w s s' ws h = go' (same_sort (sort w) k) refl h
  where
    go' : (t : Bool) → same_sort (sort w) k ≡ t → Goal (cond t s s') ws → (((sort w ≡ k) × Goal s ws) ⊎ (Goal s' ws))
    go' true e h = inl (same_sort_lem (sort w) k e, h)
    go' false e h = inr h

-- the statements
message_in_lem : (fs : List Frame) (w : Token) (ws : List Token) → sort w ≡ a_name → Payload fs ws → Stmts fs (w ∷ ws)
message_in_lem fs (token k l ls) ws e (ns, r, p, (b, x, r₁, e₁, (c, y, r₂, e₂, (d, z, r₃, e₃, (f, u, r₄, e₄, (g, v, r₅, e₅, (blk, r₆, is_b, h))))))) =
    let p' = rw (e₁, e₂, e₃, e₄, e₅) at p in
    rw e (then (message (name_at l ls) ns (name_at c y) (name_at f u) g) blk, r₆, block_then (is_message p') is_b, h)

choice_in : (fs : List Frame) (w : Token) (ws : List Token) → sort w ≡ choice_word
    → Next at_word (λ (r : List Token). Next a_name (λ (r : List Token). Opened fs (chosen [] none 0 0) r) r) ws → Stmts fs (w ∷ ws)
choice_in fs (token k l ls) ws e (b, x, r₁, e₁, (c, y, r₂, e₂, (d, z, r₃, e₃, (blk, r₄, is_b, (os, r₅, is_os, (blk', r₆, is_b', h)))))) =
    rw (e, e₁, e₂, e₃) (then (choice l (name_at c y) blk os) blk', r₆, block_then (is_choice is_b is_os) is_b', h)

rec_in : (fs : List Frame) (w : Token) (ws : List Token) → sort w ≡ rec_word → Next a_name (λ (r : List Token). Opened fs (looped []) r) ws → Stmts fs (w ∷ ws)
rec_in fs (token k l ls) ws e (c, y, r₂, e₂, (d, z, r₃, e₃, (blk, r₄, is_b, (blk', r₆, is_b', h)))) =
    rw (e, e₂, e₃) (then (recursion l (name_at c y) blk) blk', r₆, block_then (is_rec is_b) is_b', h)

continue_in : (fs : List Frame) (w : Token) (ws : List Token) → sort w ≡ continue_word → Next a_name (λ (r : List Token). Sent fs r) ws → Stmts fs (w ∷ ws)
continue_in fs (token k l ls) ws e (c, y, r₂, e₂, (d, z, r₃, e₃, (blk, r₄, is_b, h))) =
    rw (e, e₂, e₃) (then (continue l (name_at c y)) blk, r₄, block_then is_continue is_b, h)

close_in : (fs : List Frame) (w : Token) (ws : List Token) → sort w ≡ close_mark → Behind fs ws → Stmts fs (w ∷ ws)
close_in fs (token k l ls) ws e h = rw e (ends l, ws, block_ends, h)

or_in : (fs : List Frame) (f : Form) (w : Token) (ws : List Token) → sort w ≡ or_word → is_chosen f ≡ true → Opened fs f ws → Arms fs (w ∷ ws)
or_in fs body w ws e c h = let z : ◌≡◌ {A = ℕ} 0 1 = cc in let y : ⊥ = omega arith in absurd y
or_in fs (looped x) w ws e c h = let z : ◌≡◌ {A = ℕ} 0 1 = cc in let y : ⊥ = omega arith in absurd y
or_in fs (chosen p q r₀ a) (token k l ls) ws e c (d, z, r₃, e₃, (blk, r₄, is_b, (os, r₅, is_os, st))) =
    rw (e, e₃) (or blk os, r₅, ors_one is_b is_os, st)

-- the innermost block is of its form
top_behind : (fs : List Frame) (ws : List Token) → Beyond (top fs).form (λ (r : List Token). Behind (around fs) r) ws → Behind fs ws
top_behind [] ws h = h
top_behind (f ∷ fs) ws h = h

relax : (fs : List Frame) (ws : List Token) → Stmts (frame (top fs).form false true ∷ around fs) ws → Stmts fs ws
relax fs ws (b, r, is_b, h) = (b, r, is_b, top_behind fs r h)

module _ (lim : Limits) where
  closed_behind : (f : Form) (t : Bool) (fs : List Frame) (b : ℕ) (s : ReaderState) (ws : List Token)
      → Goal (block_behind lim f (framed fs (end_as lim t b s))) ws → Beyond f (λ (r : List Token). Behind fs r) ws
  closed_behind body true fs b s ws h = h
  closed_behind body false fs b s ws h = h
  closed_behind (looped x) true fs b s ws h = h
  closed_behind (looped x) false fs b s ws h = h
  closed_behind (chosen p q r a) true fs b s ws h = h refl
  closed_behind (chosen p q r a) false fs b s ws h = h refl

  closes_behind : (b : ℕ) (s : ReaderState) (ws : List Token) → Goal (block_closes lim b s) ws → Behind s.frames ws
  unfolding block_closes
  closes_behind b s ws h = top_behind s.frames ws (closed_behind (top s.frames).form (top s.frames).done (around s.frames) b _ ws h)

  sent_in_behind : (f : Form) (t : Bool) (b : ℕ) (s : ReaderState) (ws : List Token) → (top s.frames).form ≡ f → Behind (message_in lim f t b s).frames ws → Behind s.frames ws
  unfolding message_in
  sent_in_behind body t b s ws e h = top_behind s.frames ws h
  sent_in_behind (looped x) t b s ws e h = top_behind s.frames ws h
  sent_in_behind (chosen p q r a) true b s ws e h = top_behind s.frames ws (subst (λ (f : Form). Beyond f (λ (r : List Token). Behind (around s.frames) r) ws) (sym e) h)
  sent_in_behind (chosen p q r a) false b s ws e h = top_behind s.frames ws h

  sent_relax : (b : ℕ) (s : ReaderState) (ws : List Token) → Stmts (message_ends lim b s).frames ws → Stmts s.frames ws
  unfolding message_ends
  sent_relax b s ws (blk, r, is_b, h) = (blk, r, is_b, sent_in_behind (top s.frames).form (top s.frames).unbegun b s r refl h)

  labels_frames : (b : ℕ) (x : List ℕ) (s : ReaderState) → (label_met lim b x s).frames ≡ s.frames
  unfolding label_met
  labels_frames b x s = label_frames lim (is_in x s.labels) b x (index_of x s.labels) s

  abbrev special_frames : ReaderState → List Frame
  special_frames s = frame (top s.frames).form false true ∷ around s.frames

  in_close : (w : Token) (s : ReaderState) (ws : List Token) → Goal (want close_mark w s (block_closes lim (start w) s)) ws → Stmts s.frames (w ∷ ws)
  in_close w s ws h = let g = wanted close_mark w s (block_closes lim (start w) s) ws h in close_in s.frames w ws g.0 (closes_behind (start w) s ws g.1)

  stmt_in : (w : Token) (s : ReaderState) (ws : List Token) → Goal (statement lim w s) ws → Stmts s.frames (w ∷ ws)
  unfolding statement special
  stmt_in w s ws h =
      let s₁ = special lim (start w) s in
      let s₂ = label_met lim (start w) (bytes w) (name_met (start w) (bytes w) (statement_begun lim (start w) s)) in
      let x₁ = want close_mark w s (block_closes lim (start w) s) in
      let x₂ = cond (same_sort (sort w) continue_word) (go_to q_target s₁) x₁ in
      let x₃ = cond (same_sort (sort w) rec_word) (go_to q_rec s₁) x₂ in
      let x₄ = cond (same_sort (sort w) choice_word) (go_to q_at s₁) x₃ in
      cases (tested a_name w (go_to q_payload s₂) x₄ ws h)
      (λ g. message_in_lem s.frames w ws g.0 (subst (λ (fs : List Frame). Payload fs ws) (labels_frames (start w) (bytes w) (name_met (start w) (bytes w) (statement_begun lim (start w) s))) g.1))
      (λ h₄. cases (tested choice_word w (go_to q_at s₁) x₃ ws h₄) (λ g. relax s.frames (w ∷ ws) (choice_in (special_frames s) w ws g.0 g.1))
      (λ h₃. cases (tested rec_word w (go_to q_rec s₁) x₂ ws h₃) (λ g. relax s.frames (w ∷ ws) (rec_in (special_frames s) w ws g.0 g.1))
      (λ h₂. cases (tested continue_word w (go_to q_target s₁) x₁ ws h₂) (λ g. relax s.frames (w ∷ ws) (continue_in (special_frames s) w ws g.0 g.1))
      (λ h₁. in_close w s ws h₁))))

  -- lists
  dot_in : (w : Token) (ws : List Token) → sort w ≡ dot_mark → Next a_name (λ (r : List Token). Dots r) ws → Dots (w ∷ ws)
  dot_in (token k b x) ws e (c, y, r, e₁, (ns, r₁, m, h)) = rw (e, e₁) (name_at c y ∷ ns, r₁, module_dot m, h)

  dots_end : (w : Token) (ws : List Token) → sort w ≡ semi_mark → Next global_word (λ (r : List Token). Protocol r) ws → Dots (w ∷ ws)
  dots_end (token k b x) ws e h = rw e ([], ws, module_ends, h)

  role_in : (w : Token) (ws : List Token) → sort w ≡ comma_mark → Role ws → Roles (w ∷ ws)
  role_in (token k b x) ws e (c, y, r, e₁, (d, z, r₁, e₂, (ns, r₂, m, h))) = rw (e, e₁, e₂) (name_at d z ∷ ns, r₂, roles_comma m, h)

  roles_over : (w : Token) (ws : List Token) → sort w ≡ right_mark → Opened [] body ws → Roles (w ∷ ws)
  roles_over (token k b x) ws e h = rw e ([], ws, roles_end, h)

  type_in : (fs : List Frame) (w : Token) (ws : List Token) → sort w ≡ comma_mark → Next a_name (λ (r : List Token). Types fs r) ws → Types fs (w ∷ ws)
  type_in fs (token k b x) ws e (c, y, r, e₁, (ns, r₁, m, h)) = rw (e, e₁) (name_at c y ∷ ns, r₁, types_comma m, h)

  types_over : (fs : List Frame) (w : Token) (ws : List Token) → sort w ≡ right_mark → From fs ws → Types fs (w ∷ ws)
  types_over fs (token k b x) ws e h = rw e ([], ws, types_end, h)

  abbrev First : List Frame → List Token → Type 0
  First fs ws = (ns : List Name) × (r : List Token) × ((b : ℕ) (x : List ℕ) → IsPayload (token left_mark b x ∷ ws) ns r) × From fs r

  first_end : (fs : List Frame) (w : Token) (ws : List Token) → sort w ≡ right_mark → From fs ws → First fs (w ∷ ws)
  first_end fs (token k b x) ws e h = rw e ([], ws, (λ c y. payload_empty), h)

  first_in : (fs : List Frame) (w : Token) (ws : List Token) → sort w ≡ a_name → Types fs ws → First fs (w ∷ ws)
  first_in fs (token k b x) ws e (ns, r, m, h) = rw e (name_at b x ∷ ns, r, (λ c y. payload_types m), h)

  payload_in : (fs : List Frame) (w : Token) (ws : List Token) → sort w ≡ left_mark → First fs ws → Payload fs (w ∷ ws)
  payload_in fs (token k b x) ws e (ns, r, m, h) = rw e (ns, r, m b x, h)

  end_in : (w : Token) (ws : List Token) → sort w ≡ end_of_text → ws ≡ [] → Ended (w ∷ ws)
  end_in (token k b x) ws e h = rw (e, h) (b, x, refl)

  -- one of two tokens
  either_in : (k k' : Sort) (w : Token) (s s₁ s₂ : ReaderState) (ws : List Token) {C : Type 0} → Goal (either lim k k' w s s₁ s₂) ws
      → (sort w ≡ k → Goal s₁ ws → C) → (sort w ≡ k' → Goal s₂ ws → C) → C
  either_in k k' w s s₁ s₂ ws h f g =
      cases (tested k w s₁ (want k' w s s₂) ws h) (λ p. f p.0 p.1) (λ h'. let p = wanted k' w s s₂ ws h' in g p.0 p.1)

  one_in : (k : Sort) (B : List Token → Type 0) (w : Token) (s s₁ : ReaderState) (ws : List Token) → Goal (want k w s s₁) ws → (Goal s₁ ws → B ws) → Next k B (w ∷ ws)
  one_in k B w s s₁ ws h f = let p = wanted k w s s₁ ws h in next k w ws B p.0 (f p.1)

  -- if the rest is what is wanted after a token, the token and the rest are what was wanted before it
  before : (q : Control) (w : Token) (s : ReaderState) (ws : List Token) → Goal (read_at lim q w s) ws → Wants q s (w ∷ ws)
  unfolding read_at chooser_met rec_met continue_met sender_met receiver_met role_met
  before q_module w s ws h = one_in module_word _ w s (go_to q_name s) ws h (λ g. g)
  before q_name w s ws h = one_in a_name _ w s (go_to q_dots (name_met (start w) (bytes w) s)) ws h (λ g. g)
  before q_dots w s ws h = either_in dot_mark semi_mark w s (go_to q_name s) (go_to q_global s) ws h (λ e g. dot_in w ws e g) (λ e g. dots_end w ws e g)
  before q_global w s ws h = one_in global_word _ w s (go_to q_protocol s) ws h (λ g. g)
  before q_protocol w s ws h = one_in protocol_word _ w s (go_to q_title s) ws h (λ g. g)
  before q_title w s ws h = one_in a_name _ w s (go_to q_left (name_met (start w) (bytes w) s)) ws h (λ g. g)
  before q_left w s ws h = one_in left_mark _ w s (go_to q_role s) ws h (λ g. g)
  before q_role w s ws h = one_in role_word _ w s (go_to q_listed s) ws h (λ g. g)
  before q_listed w s ws h = one_in a_name _ w s (go_to q_roles (role_listed lim (start w) (bytes w) (name_met (start w) (bytes w) s))) ws h (λ g. g)
  before q_roles w s ws h = either_in comma_mark right_mark w s (go_to q_role s) (go_to q_open (expecting body s)) ws h (λ e g. role_in w ws e g) (λ e g. roles_over w ws e g)
  before q_open w s ws h = one_in open_mark _ w s (go_to q_stmt (block_opened lim s)) ws h (λ g. g)
  before q_stmt w s ws h = stmt_in w s ws h
  before q_arms w s ws h = λ c.
      cases (tested or_word w (go_to q_open s) (statement lim w s) ws h)
      (λ p. or_in s.frames s.pending w ws p.0 c p.1)
      (λ g. (no_more, w ∷ ws, ors_none, stmt_in w s ws g))
  before q_payload w s ws h =
      either_in left_mark from_word w s (go_to q_first s) (go_to q_sender s) ws h (λ e g. payload_in s.frames w ws e g) (λ e g. ([], w ∷ ws, payload_left_out, next from_word w ws _ e g))
  before q_first w s ws h =
      either_in right_mark a_name w s (go_to q_from s) (go_to q_types (name_met (start w) (bytes w) s)) ws h (λ e g. first_end s.frames w ws e g) (λ e g. first_in s.frames w ws e g)
  before q_types w s ws h = either_in comma_mark right_mark w s (go_to q_type s) (go_to q_from s) ws h (λ e g. type_in s.frames w ws e g) (λ e g. types_over s.frames w ws e g)
  before q_type w s ws h = one_in a_name _ w s (go_to q_types (name_met (start w) (bytes w) s)) ws h (λ g. g)
  before q_from w s ws h = one_in from_word _ w s (go_to q_sender s) ws h (λ g. g)
  before q_sender w s ws h = one_in a_name _ w s (go_to q_to (sender_met lim (start w) (bytes w) s)) ws h (λ g. g)
  before q_to w s ws h = one_in to_word _ w s (go_to q_receiver s) ws h (λ g. g)
  before q_receiver w s ws h = one_in a_name _ w s (go_to q_sent (receiver_met lim (start w) (bytes w) s)) ws h (λ g. g)
  before q_sent w s ws h = one_in semi_mark _ w s (go_to q_stmt (message_ends lim (start w) s)) ws h (λ g. sent_relax (start w) s ws g)
  before q_at w s ws h = one_in at_word _ w s (go_to q_chooser s) ws h (λ g. g)
  before q_chooser w s ws h = one_in a_name _ w s (go_to q_open (chooser_met lim (start w) (bytes w) s)) ws h (λ g. g)
  before q_rec w s ws h = one_in a_name _ w s (go_to q_open (rec_met lim (start w) (bytes w) s)) ws h (λ g. g)
  before q_target w s ws h = one_in a_name _ w s (go_to q_again (continue_met lim (start w) (bytes w) s)) ws h (λ g. g)
  before q_again w s ws h = one_in semi_mark _ w s (go_to q_stmt s) ws h (λ g. g)
  before q_finish w s ws h = let p = wanted end_of_text w s (go_to q_done s) ws h in end_in w ws p.0 p.1
  before q_done w s ws h = absurd h
  before q_stopped w s ws h = absurd h

  reads : (ws : List Token) (s : ReaderState) → (run lim ws s).control ≡ q_done → Goal s ws
  unfolding run
  reads [] s e = subst (λ (q : Control). Wants q s []) (sym e) refl
  reads (w ∷ ws) s e = before s.control w s ws (reads ws (read_at lim s.control w s) e)

  -- what is read to its end has a tree
  pub has_tree : (ws : List Token) → (run lim ws begun).control ≡ q_done → (t : SyntaxTree) × IsText ws t
  has_tree ws e = tree (reads ws begun e)
    where
      tree : Goal begun ws → (t : SyntaxTree) × IsText ws t
      tree (a, sa, r₁, e₁, (b, sb, r₂, e₂, (ns, r₃, m, (c, sc, r₄, e₄, (d, sd, r₅, e₅, (f, sf, r₆, e₆, (g, sg, r₇, e₇, (h, sh, r₈, e₈, (i, si, r₉, e₉, (rs, u₁, is_r, (j, sj, u₂, e', (blk, u₃, is_b, (k, sk, e''))))))))))))) =
          rw (e₁, e₂) (protocol (name_at b sb ∷ ns) (name_at f sf) (name_at i si ∷ rs) blk, is_text (rw (e₄, e₅, e₆, e₇, e₈, e₉) at m) (rw e' at is_r) (rw e'' at is_b))
