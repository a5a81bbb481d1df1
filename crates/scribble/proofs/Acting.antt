-- What is done for a tree does not look at the place where the reader stands; and a block that has been read leaves the blocks around it as they were. Assumes nothing.
use Prim.Native.Nat.{ℕ}
use mathlib.Core.Bool.{Bool, true, false}
use mathlib.Core.List.{List, [], ◌∷◌}
use mathlib.Core.Option.{some}
use mathlib.Core.Path.{◌≡◌, refl, ap, sym, subst, ◌∙◌}
use native.Mathlib.Omega.{arith}
use Rattle.table.specs.Limits.{Limits}
use Rattle.scribble.specs.Tokens.{Token, token}
use Rattle.scribble.specs.Grammar.{Name, name_at, Stmt, message, choice, recursion, continue, Block, ends, then, Blocks, no_more, or}
use Rattle.scribble.specs.Names.{spelled, stands_at, is_in, index_of}
use Rattle.scribble.specs.mirror.Reader.{ReaderState, Control, Form, body, looped, chosen, Frame, frame, top, around, receiver_of, rows_made, q_stmt, q_arms, q_finish, go_to, name_met, statement_begun, label_met, label_as, list_as, end_as, framed, sender_met, receiver_met, chooser_met, rec_met, continue_met, special, block_opened, message_ends, message_in, block_closes, block_behind, role_listed, statement, role_met}
use Rattle.scribble.specs.mirror.Acts.{names_met, message_read, do_stmt, do_block, do_blocks}

-- what is done does not look at the place where the reader stands
module _ (lim : Limits) where
  pub label_as_go : (t : Bool) (q : Control) (b : ℕ) (x : List ℕ) (l : ℕ) (s : ReaderState) → label_as lim t b x l (go_to q s) ≡ go_to q (label_as lim t b x l s)
  label_as_go true q b x l s = refl
  label_as_go false q b x l s = refl

  pub label_met_go : (q : Control) (b : ℕ) (x : List ℕ) (s : ReaderState) → label_met lim b x (go_to q s) ≡ go_to q (label_met lim b x s)
  unfolding label_met
  label_met_go q b x s = label_as_go (is_in x s.labels) q b x (index_of x s.labels) s

  pub list_as_go : (t : Bool) (q : Control) (b : ℕ) (x : List ℕ) (s : ReaderState) → list_as lim t b x (go_to q s) ≡ go_to q (list_as lim t b x s)
  list_as_go true q b x s = refl
  list_as_go false q b x s = refl

  pub role_listed_go : (q : Control) (b : ℕ) (x : List ℕ) (s : ReaderState) → role_listed lim b x (go_to q s) ≡ go_to q (role_listed lim b x s)
  unfolding role_listed
  role_listed_go q b x s = list_as_go (is_in x s.roles) q b x s

  pub sender_met_go : (q : Control) (b : ℕ) (x : List ℕ) (s : ReaderState) → sender_met lim b x (go_to q s) ≡ go_to q (sender_met lim b x s)
  unfolding sender_met
  sender_met_go q b x s = refl

  pub receiver_met_go : (q : Control) (b : ℕ) (x : List ℕ) (s : ReaderState) → receiver_met lim b x (go_to q s) ≡ go_to q (receiver_met lim b x s)
  unfolding receiver_met
  receiver_met_go q b x s = refl

  pub names_met_go : (q : Control) (ns : List Name) (s : ReaderState) → names_met ns (go_to q s) ≡ go_to q (names_met ns s)
  unfolding names_met
  names_met_go q [] s = refl
  names_met_go q (name_at b x ∷ ns) s = names_met_go q ns (name_met b x s)

  pub message_in_go : (f : Form) (t : Bool) (q : Control) (b : ℕ) (s : ReaderState) → message_in lim f t b (go_to q s) ≡ go_to q (message_in lim f t b s)
  unfolding message_in
  message_in_go body t q b s = refl
  message_in_go (looped x) t q b s = refl
  message_in_go (chosen p r e a) true q b s = refl
  message_in_go (chosen p r e a) false q b s = refl

  pub message_ends_go : (q : Control) (b : ℕ) (s : ReaderState) → message_ends lim b (go_to q s) ≡ go_to q (message_ends lim b s)
  unfolding message_ends
  message_ends_go q b s = message_in_go (top s.frames).form (top s.frames).unbegun q b s

  pub block_behind_go : (f : Form) (t : Bool) (fs : List Frame) (q : Control) (b : ℕ) (s : ReaderState)
      → block_behind lim f (framed fs (end_as lim t b (go_to q s))) ≡ block_behind lim f (framed fs (end_as lim t b s))
  block_behind_go body true fs q b s = refl
  block_behind_go body false fs q b s = refl
  block_behind_go (looped x) true fs q b s = refl
  block_behind_go (looped x) false fs q b s = refl
  block_behind_go (chosen p r e a) true fs q b s = refl
  block_behind_go (chosen p r e a) false fs q b s = refl

  pub block_closes_go : (q : Control) (b : ℕ) (s : ReaderState) → block_closes lim b (go_to q s) ≡ block_closes lim b s
  unfolding block_closes
  block_closes_go q b s = block_behind_go (top s.frames).form (top s.frames).done (around s.frames) q b _

  -- behind a choice a statement is read as anywhere
  pub statement_go : (q q' : Control) (w : Token) (s : ReaderState) → statement lim w (go_to q s) ≡ statement lim w (go_to q' s)
  unfolding statement special
  statement_go q q' (token k b x) s = rw (label_met_go q b x (name_met b x (statement_begun lim b s)), label_met_go q' b x (name_met b x (statement_begun lim b s)), block_closes_go q b s, block_closes_go q' b s)

  pub message_read_go : (l : Name) (ns : List Name) (p r : Name) (e : ℕ) (q : Control) (s : ReaderState) → message_read lim l ns p r e (go_to q s) ≡ go_to q (message_read lim l ns p r e s)
  unfolding message_read
  message_read_go l ns p r e q s =
      let s₁ = name_met (stands_at l) (spelled l) (statement_begun lim (stands_at l) s) in
      let s₂ = label_met lim (stands_at l) (spelled l) s₁ in
      let s₃ = names_met ns s₂ in
      let s₄ = sender_met lim (stands_at p) (spelled p) s₃ in
      let s₅ = receiver_met lim (stands_at r) (spelled r) s₄ in
      rw (label_met_go q (stands_at l) (spelled l) s₁, names_met_go q ns s₂, sender_met_go q (stands_at p) (spelled p) s₃, receiver_met_go q (stands_at r) (spelled r) s₄) (message_ends_go q e s₅)

  mutual
    unfolding do_stmt special chooser_met rec_met continue_met

    pub stmt_go : (t : Stmt) (q : Control) (s : ReaderState) → do_stmt lim t (go_to q s) ≡ do_stmt lim t s
    stmt_go (message l ns p r e) q s = ap (go_to q_stmt) (message_read_go l ns p r e q s)
    stmt_go (choice c p first others) q s = ap (do_blocks lim others) (block_go first q (block_opened lim (chooser_met lim (stands_at p) (spelled p) (special lim c s))))
    stmt_go (recursion c x b) q s = block_go b q (block_opened lim (rec_met lim (stands_at x) (spelled x) (special lim c s)))
    stmt_go (continue c x) q s = refl

    pub block_go : (b : Block) (q : Control) (s : ReaderState) → do_block lim b (go_to q s) ≡ do_block lim b s
    block_go (ends c) q s = block_closes_go q c s
    block_go (then t b) q s = ap (do_block lim b) (stmt_go t q s)

-- where the reader stands behind a block
abbrev pub behind : Form → Control
behind body = q_finish
behind (looped x) = q_stmt
behind (chosen p q r a) = q_arms

pub finish_arms : q_finish ≡ q_arms → ⊥
finish_arms e = let z : ◌≡◌ {A = ℕ} 0 1 = cc in omega arith

pub stmt_arms : q_stmt ≡ q_arms → ⊥
stmt_arms e = let z : ◌≡◌ {A = ℕ} 0 1 = cc in omega arith

-- an arm that is closed may have another behind it
abbrev pub Waits : Form → Form → Type 0
Waits body g = Unit {0}
Waits (looped x) g = Unit {0}
Waits (chosen p q r a) g = behind g ≡ q_arms

-- the innermost block is still of its form, and those around it are as they were
abbrev pub Keeps : Frame → List Frame → ReaderState → Type 0
Keeps f fs s = (g : Frame) × (s.frames ≡ g ∷ fs) × (behind g.form ≡ behind f.form)

abbrev pub Left : Frame → List Frame → ReaderState → Type 0
Left f fs s = (s.frames ≡ fs) × (s.control ≡ behind f.form) × Waits f.form s.pending

-- what waits for a form waits for another that is read on in the same way
pub waits : (f g : Form) → behind f ≡ q_arms → Waits f g → behind g ≡ q_arms
waits body g e w = absurd (finish_arms e)
waits (looped x) g e w = absurd (stmt_arms e)
waits (chosen p q r a) g e w = w

pub waits_as : (g f h : Form) → behind g ≡ behind f → Waits g h → Waits f h
waits_as g body h e w = tt
waits_as g (looped x) h e w = tt
waits_as g (chosen p q r a) h e w = waits g h e w

pub left_as : (g f : Frame) (fs : List Frame) (s : ReaderState) → behind g.form ≡ behind f.form → Left g fs s → Left f fs s
left_as g f fs s e k = (k.0, k.1 ∙ e, waits_as g.form f.form s.pending e k.2)

module _ (lim : Limits) where
  pub block_behind_left : (f : Form) (t : Bool) (fs : List Frame) (b : ℕ) (s : ReaderState)
      → Left (frame f false false) fs (block_behind lim f (framed fs (end_as lim t b s)))
  block_behind_left body true fs b s = (refl, refl, tt)
  block_behind_left body false fs b s = (refl, refl, tt)
  block_behind_left (looped x) true fs b s = (refl, refl, tt)
  block_behind_left (looped x) false fs b s = (refl, refl, tt)
  block_behind_left (chosen p r e a) true fs b s = (refl, refl, refl)
  block_behind_left (chosen p r e a) false fs b s = (refl, refl, refl)

  pub block_closes_left : (b : ℕ) (s : ReaderState) (f : Frame) (fs : List Frame) → s.frames ≡ f ∷ fs → Left f fs (block_closes lim b s)
  unfolding block_closes
  block_closes_left b s f fs e = rw e (block_behind_left f.form f.done fs b _)

  pub label_frames : (t : Bool) (b : ℕ) (x : List ℕ) (l : ℕ) (s : ReaderState) → (label_as lim t b x l s).frames ≡ s.frames
  label_frames true b x l s = refl
  label_frames false b x l s = refl

  pub names_frames : (ns : List Name) (s : ReaderState) → (names_met ns s).frames ≡ s.frames
  unfolding names_met
  names_frames [] s = refl
  names_frames (name_at b x ∷ ns) s = names_frames ns (name_met b x s)

  pub message_in_keeps : (f : Form) (t d : Bool) (b : ℕ) (s : ReaderState) (fs : List Frame) → s.frames ≡ frame f t d ∷ fs → Keeps (frame f t d) fs (message_in lim f t b s)
  unfolding message_in
  message_in_keeps body t d b s fs e = (frame body false d, rw e, refl)
  message_in_keeps (looped x) t d b s fs e = (frame (looped x) false d, rw e, refl)
  message_in_keeps (chosen p q r a) true d b s fs e = (frame (chosen p (some (receiver_of q s.receiver)) r (rows_made s)) false d, rw e, refl)
  message_in_keeps (chosen p q r a) false d b s fs e = (frame (chosen p q r a) false d, rw e, refl)

  pub message_ends_keeps : (b : ℕ) (s : ReaderState) (f : Frame) (fs : List Frame) → s.frames ≡ f ∷ fs → Keeps f fs (message_ends lim b s)
  unfolding message_ends
  message_ends_keeps b s f fs e =
      subst (λ (h : List Frame). Keeps f fs (message_in lim (top h).form (top h).unbegun b s)) (sym e) (message_in_keeps f.form f.unbegun f.done b s fs e)

  pub message_read_keeps : (l : Name) (ns : List Name) (p q : Name) (e : ℕ) (s : ReaderState) (f : Frame) (fs : List Frame)
      → s.frames ≡ f ∷ fs → Keeps f fs (message_read lim l ns p q e s)
  unfolding message_read sender_met receiver_met label_met role_met
  message_read_keeps l ns p q e s f fs h =
      let s₁ = name_met (stands_at l) (spelled l) (statement_begun lim (stands_at l) s) in
      let s₂ = label_met lim (stands_at l) (spelled l) s₁ in
      let s₃ = receiver_met lim (stands_at q) (spelled q) (sender_met lim (stands_at p) (spelled p) (names_met ns s₂)) in
      let g : s₃.frames ≡ f ∷ fs = names_frames ns s₂ ∙ (label_frames (is_in (spelled l) s₁.labels) (stands_at l) (spelled l) (index_of (spelled l) s₁.labels) s₁ ∙ h) in
      message_ends_keeps e s₃ f fs g

  mutual
    unfolding do_stmt special chooser_met rec_met continue_met

    pub stmt_keeps : (t : Stmt) (s : ReaderState) (f : Frame) (fs : List Frame) → s.frames ≡ f ∷ fs → Keeps f fs (do_stmt lim t s)
    stmt_keeps (message l ns p q e) s f fs h = message_read_keeps l ns p q e s f fs h
    stmt_keeps (choice c p first others) s f fs h =
        let s₁ = chooser_met lim (stands_at p) (spelled p) (special lim c s) in
        let k = block_left first (block_opened lim s₁) (frame s₁.pending true false) (frame f.form false true ∷ fs) (rw h) in
        (frame f.form false true, (blocks_left others (do_block lim first (block_opened lim s₁)) k.2 k.1).0 ∙ k.0, refl)
    stmt_keeps (recursion c x b) s f fs h =
        let s₁ = rec_met lim (stands_at x) (spelled x) (special lim c s) in
        let k = block_left b (block_opened lim s₁) (frame s₁.pending true false) (frame f.form false true ∷ fs) (rw h) in
        (frame f.form false true, k.0, refl)
    stmt_keeps (continue c x) s f fs h = (frame f.form false true, rw h, refl)

    pub block_left : (b : Block) (s : ReaderState) (f : Frame) (fs : List Frame) → s.frames ≡ f ∷ fs → Left f fs (do_block lim b s)
    block_left (ends c) s f fs h = block_closes_left c s f fs h
    block_left (then t b) s f fs h =
        let k = stmt_keeps t s f fs h in
        left_as k.0 f fs (do_block lim b (do_stmt lim t s)) k.2 (block_left b (do_stmt lim t s) k.0 fs k.1)

    -- behind the first block of a choice
    pub blocks_left : (bs : Blocks) (s : ReaderState) → behind s.pending ≡ q_arms → s.control ≡ q_arms
        → ((do_blocks lim bs s).frames ≡ s.frames) × ((do_blocks lim bs s).control ≡ q_arms)
    blocks_left no_more s w c = (refl, c)
    blocks_left (or b bs) s w c =
        let k = block_left b (block_opened lim s) (frame s.pending true false) s.frames refl in
        let m = blocks_left bs (do_block lim b (block_opened lim s)) (waits s.pending _ w k.2) (k.1 ∙ w) in
        (m.0 ∙ k.0, m.1)
