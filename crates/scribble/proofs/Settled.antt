-- A reader may stop early: once a fault is known, and it is not inside a statement, what is logged later is no earlier. Assumes nothing.
use Prim.Native.Nat.{ℕ, ◌<◌}
use mathlib.Core.Bool.{Bool, true, false, cond}
use mathlib.Core.List.{List, [], ◌∷◌, ◌++◌, append-nil}
use mathlib.Core.Logic.{inl}
use mathlib.Core.Path.{◌≡◌, refl, ap, sym, subst, ◌∙◌}
use native.Mathlib.Omega.{arith}
use Rattle.table.specs.Limits.{Limits}
use Rattle.scribble.specs.Tokens.{Sort, Token, sort, start, bytes, same_sort, tokens_of, a_name, module_word, global_word, protocol_word, role_word, choice_word, at_word, or_word, rec_word, continue_word, from_word, to_word, open_mark, close_mark, left_mark, right_mark, comma_mark, semi_mark, dot_mark, end_of_text}
use Rattle.scribble.specs.Refusals.{Fault, sooner, Finding, faulty, deciding, soonest}
use Rattle.scribble.specs.mirror.Reader.{ReaderState, Control, Form, body, looped, chosen, top, q_module, q_name, q_dots, q_global, q_protocol, q_title, q_left, q_role, q_listed, q_roles, q_open, q_stmt, q_arms, q_payload, q_first, q_types, q_type, q_from, q_sender, q_to, q_receiver, q_sent, q_at, q_chooser, q_rec, q_target, q_again, q_finish, q_done, q_stopped, begun, go_to, name_met, statement_begun, label_met, expecting, role_met, sender_met, receiver_met, chooser_met, rec_met, continue_met, special, block_opened, message_ends, block_closes, block_behind, role_listed, statement, read_at, run, want, either, broken}
use Rattle.scribble.proofs.Meet.{meet, meet_assoc, deciding_append, first_deciding, as_finding, later_is}
use Rattle.scribble.proofs.Seen.{AllSeen, none_seen, one_seen, inside, g_step}
use Rattle.scribble.proofs.Cut.{TokensBelow, no_token, one_token}
use Rattle.scribble.proofs.Tally.{label_met_keeps}
use Rattle.scribble.proofs.Viable.{run_append}
use Rattle.scribble.proofs.Rising.{Rising, none_rises, one_rises, text_rises, before_below, from_here}

-- inside a statement, the place where it began is such
abbrev Safe : (ℕ → Type 0) → ReaderState → Type 0
Safe P x = inside x.control ≡ true → P x.since

module _ (lim : Limits) (P : ℕ → Type 0) (w : Token) (h : P (start w)) where
  out : (x : ReaderState) → inside x.control ≡ false → Safe P x
  out x e f = let z : false ≡ true = sym e ∙ f in let y : ◌≡◌ {A = ℕ} 0 1 = cc in let v : ⊥ = omega arith in absurd v

  safe_of : (t : Bool) (x y : ReaderState) → Safe P x → Safe P y → Safe P (cond t x y)
  safe_of true x y a b = a
  safe_of false x y a b = b

  safe_want : (k : Sort) (s x : ReaderState) → Safe P x → Safe P (want k w s x)
  safe_want k s x a = safe_of (same_sort (sort w) k) x (broken w s) a (out (broken w s) refl)

  safe_either : (k k' : Sort) (s x y : ReaderState) → Safe P x → Safe P y → Safe P (either lim k k' w s x y)
  safe_either k k' s x y a b = safe_of (same_sort (sort w) k) x (want k' w s y) a (safe_want k' s y b)

  closed_out : (f : Form) (s : ReaderState) → inside (block_behind lim f s).control ≡ false
  closed_out body s = refl
  closed_out (looped x) s = refl
  closed_out (chosen p q r a) s = refl

  closes_out : (b : ℕ) (s : ReaderState) → inside (block_closes lim b s).control ≡ false
  unfolding block_closes
  closes_out b s = closed_out (top s.frames).form _

  -- a statement begins at the token
  safe_statement : (s : ReaderState) → Safe P (statement lim w s)
  unfolding statement special
  safe_statement s =
      let at = start w in
      let x = bytes w in
      let s₁ = special lim at s in
      let s₂ = name_met at x (statement_begun lim at s) in
      let x₁ = want close_mark w s (block_closes lim at s) in
      let x₂ = cond (same_sort (sort w) continue_word) (go_to q_target s₁) x₁ in
      let x₃ = cond (same_sort (sort w) rec_word) (go_to q_rec s₁) x₂ in
      let x₄ = cond (same_sort (sort w) choice_word) (go_to q_at s₁) x₃ in
      safe_of (same_sort (sort w) a_name) (go_to q_payload (label_met lim at x s₂)) x₄ (λ e. subst P (sym (label_met_keeps lim at x s₂).1) h)
      (safe_of (same_sort (sort w) choice_word) (go_to q_at s₁) x₃ (λ e. h)
      (safe_of (same_sort (sort w) rec_word) (go_to q_rec s₁) x₂ (λ e. h)
      (safe_of (same_sort (sort w) continue_word) (go_to q_target s₁) x₁ (λ e. h) (safe_want close_mark s (block_closes lim at s) (out (block_closes lim at s) (closes_out at s))))))

  safe_step : (q : Control) (s : ReaderState) → (inside q ≡ true → P s.since) → Safe P (read_at lim q w s)
  unfolding read_at sender_met receiver_met role_met
  safe_step q_module s k = safe_want module_word s (go_to q_name s) (out (go_to q_name s) refl)
  safe_step q_name s k = safe_want a_name s (go_to q_dots (name_met (start w) (bytes w) s)) (out (go_to q_dots (name_met (start w) (bytes w) s)) refl)
  safe_step q_dots s k = safe_either dot_mark semi_mark s (go_to q_name s) (go_to q_global s) (out (go_to q_name s) refl) (out (go_to q_global s) refl)
  safe_step q_global s k = safe_want global_word s (go_to q_protocol s) (out (go_to q_protocol s) refl)
  safe_step q_protocol s k = safe_want protocol_word s (go_to q_title s) (out (go_to q_title s) refl)
  safe_step q_title s k = safe_want a_name s (go_to q_left (name_met (start w) (bytes w) s)) (out (go_to q_left (name_met (start w) (bytes w) s)) refl)
  safe_step q_left s k = safe_want left_mark s (go_to q_role s) (out (go_to q_role s) refl)
  safe_step q_role s k = safe_want role_word s (go_to q_listed s) (out (go_to q_listed s) refl)
  safe_step q_listed s k = safe_want a_name s (go_to q_roles (role_listed lim (start w) (bytes w) (name_met (start w) (bytes w) s))) (out (go_to q_roles (role_listed lim (start w) (bytes w) (name_met (start w) (bytes w) s))) refl)
  safe_step q_roles s k = safe_either comma_mark right_mark s (go_to q_role s) (go_to q_open (expecting body s)) (out (go_to q_role s) refl) (out (go_to q_open (expecting body s)) refl)
  safe_step q_open s k = safe_want open_mark s (go_to q_stmt (block_opened lim s)) (out (go_to q_stmt (block_opened lim s)) refl)
  safe_step q_stmt s k = safe_statement s
  safe_step q_arms s k = safe_of (same_sort (sort w) or_word) (go_to q_open s) (statement lim w s) (out (go_to q_open s) refl) (safe_statement s)
  safe_step q_payload s k = safe_either left_mark from_word s (go_to q_first s) (go_to q_sender s) (λ e. k refl) (λ e. k refl)
  safe_step q_first s k = safe_either right_mark a_name s (go_to q_from s) (go_to q_types (name_met (start w) (bytes w) s)) (λ e. k refl) (λ e. k refl)
  safe_step q_types s k = safe_either comma_mark right_mark s (go_to q_type s) (go_to q_from s) (λ e. k refl) (λ e. k refl)
  safe_step q_type s k = safe_want a_name s (go_to q_types (name_met (start w) (bytes w) s)) (λ e. k refl)
  safe_step q_from s k = safe_want from_word s (go_to q_sender s) (λ e. k refl)
  safe_step q_sender s k = safe_want a_name s (go_to q_to (sender_met lim (start w) (bytes w) s)) (λ e. k refl)
  safe_step q_to s k = safe_want to_word s (go_to q_receiver s) (λ e. k refl)
  safe_step q_receiver s k = safe_want a_name s (go_to q_sent (receiver_met lim (start w) (bytes w) s)) (λ e. k refl)
  safe_step q_sent s k = safe_want semi_mark s (go_to q_stmt (message_ends lim (start w) s)) (out (go_to q_stmt (message_ends lim (start w) s)) refl)
  safe_step q_at s k = safe_want at_word s (go_to q_chooser s) (λ e. k refl)
  safe_step q_chooser s k = safe_want a_name s (go_to q_open (chooser_met lim (start w) (bytes w) s)) (out (go_to q_open (chooser_met lim (start w) (bytes w) s)) refl)
  safe_step q_rec s k = safe_want a_name s (go_to q_open (rec_met lim (start w) (bytes w) s)) (out (go_to q_open (rec_met lim (start w) (bytes w) s)) refl)
  safe_step q_target s k = safe_want a_name s (go_to q_again (continue_met lim (start w) (bytes w) s)) (out (go_to q_again (continue_met lim (start w) (bytes w) s)) refl)
  safe_step q_again s k = safe_want semi_mark s (go_to q_stmt s) (out (go_to q_stmt s) refl)
  safe_step q_finish s k = safe_want end_of_text s (go_to q_done s) (out (go_to q_done s) refl)
  safe_step q_done s k = out (broken w s) refl
  safe_step q_stopped s k = out (go_to q_stopped s) refl

-- faults behind a place do not come before one at it
no_earlier : (b n at : ℕ) {fs : List Fault} → AllSeen (λ p. b < p) at fs → meet (faulty b n) (deciding fs) ≡ faulty b n
unfolding deciding meet
no_earlier b n at none_seen = refl
no_earlier b n at (one_seen {f = f} {fs = fs} e l a) =
    ap (meet (faulty b n)) (first_deciding f fs)
    ∙ (sym (meet_assoc (faulty b n) (as_finding f) (deciding fs))
    ∙ (ap (λ (t : Bool). meet (cond t (as_finding f) (faulty b n)) (deciding fs)) (later_is f.place f.number b n (inl l)) ∙ no_earlier b n at a))

-- every fault's place is such
data AllPlaced (P : ℕ → Type 0) : List Fault → Type 0 where
  none_placed : AllPlaced P []
  one_placed : {f : Fault} {fs : List Fault} → P f.place → AllPlaced P fs → AllPlaced P (f ∷ fs)

both_placed : {P : ℕ → Type 0} {at : ℕ} {xs ys : List Fault} → AllPlaced P xs → AllSeen P at ys → AllPlaced P (xs ++ ys)
both_placed none_placed none_seen = none_placed
both_placed none_placed (one_seen e p b) = one_placed p (both_placed none_placed b)
both_placed (one_placed p a) b = one_placed p (both_placed a b)

soonest_placed : (P : ℕ → Type 0) (f : Fault) {fs : List Fault} → P f.place → AllPlaced P fs → P (soonest f fs).place
unfolding soonest
soonest_placed P f p none_placed = p
soonest_placed P f p (one_placed {f = g} {fs = fs} q a) = soonest_placed P (cond (sooner g f) g f) (by (sooner g f)) a
  where
    by : (t : Bool) → P (cond t g f).place
    by true = q
    by false = p

deciding_placed : (P : ℕ → Type 0) {fs : List Fault} (b n : ℕ) → AllPlaced P fs → deciding fs ≡ faulty b n → P b
unfolding deciding
deciding_placed P b n none_placed e = let y : ◌≡◌ {A = ℕ} 0 1 = cc in let v : ⊥ = omega arith in absurd v
deciding_placed P b n (one_placed {f = f} {fs = fs} p a) e = subst P (cc) (soonest_placed P f p a)

module _ (lim : Limits) where
  -- what is read from here on stands behind the fault that is known
  pub settled : {at : ℕ} {ws : List Token} → Rising at ws → (s : ReaderState) (b n : ℕ) → b < at → deciding s.log ≡ faulty b n → (inside s.control ≡ true → b < s.since)
      → deciding (run lim ws s).log ≡ faulty b n
  unfolding run
  settled none_rises s b n l e k = e
  settled {at} (one_rises {w = w} m r) s b n l e k =
      let h : b < start w = omega arith in
      let g = g_step lim (λ p. b < p) w h s.control s k in
      let x = read_at lim s.control w s in
      let e₁ : deciding x.log ≡ faulty b n
      = ap deciding g.1 ∙ (deciding_append s.log g.0 ∙ (ap (λ (j : Finding). meet j (deciding g.0)) e ∙ no_earlier b n (start w) g.2)) in
      settled r x b n (omega arith) e₁ (safe_step lim (λ p. b < p) w h s.control s k)

  -- what is logged by tokens before a place stands before it
  places_below : {e : ℕ} {ws : List Token} → TokensBelow e ws → (s : ReaderState) → (inside s.control ≡ true → s.since < e) → AllPlaced (λ p. p < e) s.log
      → AllPlaced (λ p. p < e) (run lim ws s).log
  unfolding run
  places_below no_token s k a = a
  places_below {e} (one_token {w = w} l u) s k a =
      let g = g_step lim (λ p. p < e) w l s.control s k in
      let x = read_at lim s.control w s in
      places_below u x (safe_step lim (λ p. p < e) w l s.control s k) (subst (λ (fs : List Fault). AllPlaced (λ p. p < e) fs) (sym g.1) (both_placed a g.2))

  -- THEOREM: with a fault known and no statement begun, the tokens to come change nothing
  pub early : (text : List ℕ) (before rest : List Token) (b n : ℕ) → tokens_of text ≡ before ++ rest → deciding (run lim before begun).log ≡ faulty b n
      → inside (run lim before begun).control ≡ false → deciding (run lim (tokens_of text) begun).log ≡ faulty b n
  early text before [] b n q e i = ap (λ (ws : List Token). deciding (run lim ws begun).log) (q ∙ append-nil before) ∙ e
  early text before (w ∷ rest) b n q e i =
      let s = run lim before begun in
      let up = subst (λ (ws : List Token). Rising 0 ws) q (text_rises text).0 in
      let low = before_below before w rest up in
      let not_in : inside begun.control ≡ true → 0 < start w = λ z. (let y : ◌≡◌ {A = ℕ} 0 1 = cc in let v : ⊥ = omega arith in absurd v) in
      let l : b < start w = deciding_placed (λ p. p < start w) b n (places_below low begun not_in none_placed) e in
      let k : inside s.control ≡ true → b < s.since = λ z. (let y : false ≡ true = sym i ∙ z in let u : ◌≡◌ {A = ℕ} 0 1 = cc in let v : ⊥ = omega arith in absurd v) in
      ap (λ (ws : List Token). deciding (run lim ws begun).log) q
      ∙ (ap (λ (x : ReaderState). deciding x.log) (run_append lim before (w ∷ rest) begun) ∙ settled (from_here before w rest up) s b n l e k)
