-- The rows that a reader writes for a tree without faults are the table of the tree. Assumes nothing.
use Prim.Native.Nat.{ℕ, suc, ◌+◌, ◌*◌, ◌/◌, ◌<◌}
use mathlib.Core.Bool.{and-false, Bool, true, false, cond, ◌&&◌, ◌||◌}
use mathlib.Core.List.{List, [], ◌∷◌, ◌++◌, append_assoc, append-nil}
use mathlib.Core.Option.{Option, none, some}
use mathlib.Core.Path.{◌≡◌, refl, sym, subst, ◌∙◌, ap, ap₂}
use native.Mathlib.Omega.{arith}
use native.Mathlib.Nat.{mul-div_cancel}
use lib.Dec.{eqb}
use lib.ListN.{length, set, length-append, length-set}
use lib.Seq.{set-append_left}
use borrow.Author.Tests.{ne_eqb}
use Rattle.table.specs.Limits.{Limits}
use Rattle.table.specs.Tree.{Global, exchange, Arms, nil, arm, rows_in_arms}
use Rattle.scribble.specs.Grammar.{Name, Stmt, message, Block, Blocks}
use Rattle.scribble.specs.Names.{spelled, stands_at, index_of, is_in}
use Rattle.scribble.specs.Laid.{laid, laid_arms}
use Rattle.scribble.specs.Meaning.{labels_of, labels_in, labels_among, global_of, global_in, arms_among, joined, receiver_in}
use Rattle.scribble.specs.Refusals.{is_last, message_start, Fault, blame, fault_when, CHOICE, MANY, rows_met, Finding}
use Rattle.scribble.specs.mirror.Reader.{ReaderState, Form, body, looped, chosen, Frame, frame, is_chosen, added, recs_in, framed, logged, name_met, statement_begun, role_met, label_met, label_as, special, rows_made, receiver_of, role_number, armed, message_in, sender_met, receiver_met, chooser_met, rec_met, continue_met, block_opened, block_behind, block_closes, end_as}
use Rattle.scribble.specs.mirror.Acts.{message_read, do_stmt, do_block, do_blocks}
use Rattle.scribble.proofs.Tally.{at_count, names_log, special_frames}
use Rattle.scribble.proofs.Blames.{hears, spoken, spoken_keeps, sent_as, sent_plain, closes_as, Read, at_spoken}
use Rattle.scribble.proofs.Found.{plain, message_told, armed_told, chooser_told, rec_told, stmt_told, block_told, arm_told}
use Rattle.scribble.proofs.Fine.{IsEnd, is_end, FineStmt, fine_message, fine_choice, fine_rec, fine_continue, Fine, fine_end, fine_then, fine_last, FineArm, fine_arm, FineArms, fine_none, fine_or}
use Rattle.scribble.proofs.Numbered.{Later, later_first, later_as, label_number}
use Rattle.scribble.proofs.Laying.{arms_length, snoc, last_row, row4, one_more, set_word, last_bounds, last_snoc, join_arms, join_nil, join_snoc}

count_is : (s : ReaderState) (n : ℕ) → length s.rows ≡ n * 4 → rows_made s ≡ n
count_is s n e = ap (λ (k : ℕ). k / 4) e ∙ mul-div_cancel n {n = 4} (omega arith)

module _ (lim : Limits) where
  label_as_writes : (t : Bool) (b : ℕ) (x : List ℕ) (k : ℕ) (s : ReaderState) → ((label_as lim t b x k s).rows ≡ s.rows) × ((label_as lim t b x k s).label ≡ k)
  label_as_writes true b x k s = (refl, refl)
  label_as_writes false b x k s = (refl, refl)

  -- a message up to its `;` writes nothing, and its label has its number
  spoken_writes : (l : Name) (xs : List Name) (p q : Name) (s : ReaderState)
      → ((spoken lim l xs p q s).rows ≡ s.rows) × ((spoken lim l xs p q s).label ≡ index_of (spelled l) s.labels)
  unfolding sender_met receiver_met role_met label_met
  spoken_writes l xs p q s =
      let s₂ = name_met (stands_at l) (spelled l) (statement_begun lim (stands_at l) s) in
      let s₃ = label_met lim (stands_at l) (spelled l) s₂ in
      let k = label_as_writes (is_in (spelled l) s.labels) (stands_at l) (spelled l) (index_of (spelled l) s.labels) s₂ in
      let n = names_log xs s₃ in
      (ap (λ (z : ReaderState). z.rows) n ∙ k.0, ap (λ (z : ReaderState). z.label) n ∙ k.1)

  closed_writes : (f : Form) (fs : List Frame) (b : ℕ) (s : ReaderState)
      → ((block_behind lim f (framed fs (end_as lim true b s))).rows ≡ s.rows) × ((block_behind lim f (framed fs (end_as lim false b s))).rows ≡ s.rows ++ (0 ∷ 0 ∷ 0 ∷ 0 ∷ []))
  closed_writes body fs b s = (refl, refl)
  closed_writes (looped x) fs b s = (refl, refl)
  closed_writes (chosen p q r a) fs b s = (refl, refl)

  closes_last : (b : ℕ) (s : ReaderState) (f : Form) (x : Bool) (fs : List Frame) → s.frames ≡ frame f x true ∷ fs → (block_closes lim b s).rows ≡ s.rows
  closes_last b s f x fs g = ap (λ (z : ReaderState). z.rows) (closes_as lim b s f x true fs g) ∙ (closed_writes f fs b (logged (fault_when (is_chosen f && x) (blame b CHOICE b)) s)).0

  closes_end : (b : ℕ) (s : ReaderState) (f : Form) (x : Bool) (fs : List Frame) → s.frames ≡ frame f x false ∷ fs → (block_closes lim b s).rows ≡ s.rows ++ (0 ∷ 0 ∷ 0 ∷ 0 ∷ [])
  closes_end b s f x fs g = ap (λ (z : ReaderState). z.rows) (closes_as lim b s f x false fs g) ∙ (closed_writes f fs b (logged (fault_when (is_chosen f && x) (blame b CHOICE b)) s)).1

-- the receiver of the Exchange at row r is set, and the arm at row y, if there is one, is linked to row m
abbrev patched : ℕ → ℕ → ℕ → ℕ → List ℕ → List ℕ
patched r y to m rows = cond (eqb y 0) (set rows (r * 4 + 2) to) (set (set rows (r * 4 + 2) to) (y * 4 + 3) m)

patched_before : (r y to m : ℕ) (rows more : List ℕ) → r * 4 + 2 < length rows → y * 4 + 3 < length rows → patched r y to m (rows ++ more) ≡ patched r y to m rows ++ more
patched_before r y to m rows more i j = by (eqb y 0)
  where
    by : (t : Bool)
        → cond t (set (rows ++ more) (r * 4 + 2) to) (set (set (rows ++ more) (r * 4 + 2) to) (y * 4 + 3) m)
        ≡ cond t (set rows (r * 4 + 2) to) (set (set rows (r * 4 + 2) to) (y * 4 + 3) m) ++ more
    by true = set-append_left rows more (r * 4 + 2) to i
    by false =
        let k = length-set rows (r * 4 + 2) to in
        ap (λ (z : List ℕ). set z (y * 4 + 3) m) (set-append_left rows more (r * 4 + 2) to i)
        ∙ set-append_left (set rows (r * 4 + 2) to) more (y * 4 + 3) m (omega arith)

-- the arms of a choice with one more: as the reader patches them
patch_more : (base : List ℕ) (from to r k : ℕ) (G : Global ℕ) (cs : Arms ℕ) (l : ℕ) (H : Global ℕ) → length base ≡ r * 4
    → let y = last_row (arm k G cs) (suc r) in let m = suc r + rows_in_arms (arm k G cs) in
    patched r y to m (base ++ row4 1 from to (suc r) (laid_arms (arm k G cs) (suc r))) ++ laid_arms (arm l H nil) m
    ≡ base ++ row4 1 from to (suc r) (laid_arms (arm k G (snoc cs l H)) (suc r))
patch_more base from to r k G cs l H e =
    let y = last_row (arm k G cs) (suc r) in
    let m = suc r + rows_in_arms (arm k G cs) in
    let row : List ℕ = 1 ∷ from ∷ to ∷ suc r ∷ [] in
    let arms = laid_arms (arm k G cs) (suc r) in
    let b = (last_bounds k G cs (suc r)).0 in
    let len : length (base ++ row) ≡ suc r * 4 = length-append base row ∙ omega arith in
    ap (λ (t : Bool). cond t (set (base ++ row4 1 from to (suc r) arms) (r * 4 + 2) to) (set (set (base ++ row4 1 from to (suc r) arms) (r * 4 + 2) to) (y * 4 + 3) m) ++ laid_arms (arm l H nil) m)
    (ne_eqb y 0 (λ z. omega arith))
    ∙ (ap (λ (z : List ℕ). set z (y * 4 + 3) m ++ laid_arms (arm l H nil) m) (set_word base (1 ∷ from ∷ []) to to r (suc r ∷ arms) e ∙ sym (append_assoc base row arms))
    ∙ (one_more cs k G (base ++ row) (suc r) m l H len refl ∙ append_assoc base row (laid_arms (arm k G (snoc cs l H)) (suc r))))

-- what a message of its own writes, and what one that begins a block of a choice writes
abbrev alone : List ℕ → ℕ → ℕ → ℕ → List ℕ
alone rows p q l = (rows ++ (1 ∷ p ∷ q ∷ suc (length rows / 4) ∷ [])) ++ (2 ∷ l ∷ (length rows / 4 + 2) ∷ 0 ∷ [])

abbrev within : ℕ → ℕ → List ℕ → ℕ → ℕ → List ℕ
within r y rows q l = patched r y q (length rows / 4) (rows ++ (2 ∷ l ∷ suc (length rows / 4) ∷ 0 ∷ []))

-- names: all labels of the text
module _ (lim : Limits) (e : ℕ) (h : Finding) (roles names : List (List ℕ)) where
  message_rows : (l : Name) (xs : List Name) (p q : Name) (b : ℕ) (s : ReaderState) (f : Form) (x : Bool) (fs : List Frame) {N L C R : List Fault} (ns : List Name)
      → s.frames ≡ frame f x false ∷ fs → is_chosen f && x ≡ false → Read lim e h roles s N L C R ns → Later names (ns ++ (l ∷ []))
      → (do_stmt lim (message l xs p q b) s).rows
      ≡ s.rows ++ (1 ∷ index_of (spelled p) roles ∷ index_of (spelled q) roles ∷ suc (rows_made s) ∷ 2 ∷ index_of (spelled l) names ∷ suc (suc (rows_made s)) ∷ 0 ∷ [])
  unfolding do_stmt message_read
  message_rows l xs p q b s f x fs ns g y a z =
      let s₁ = spoken lim l xs p q s in
      let a₁ = at_spoken lim e h roles l xs p q b (added f (recs_in fs)) s f x false fs ns g a in
      let w = spoken_writes lim l xs p q s in
      let same = sent_as lim b s₁ f x false fs ((spoken_keeps lim l xs p q s).0 ∙ g) ∙ sent_plain lim f x b s₁ y in
      let number = w.1 ∙ (ap (index_of (spelled l)) a.labels_are ∙ label_number names ns l z) in
      let P = index_of (spelled p) roles in
      let Q = index_of (spelled q) roles in
      let M = index_of (spelled l) names in
      let two : rows_made s + 2 ≡ suc (suc (rows_made s)) = omega arith in
      ap (λ (v : ReaderState). v.rows) same
      ∙ (ap (λ (v : List ℕ). alone v (role_number s₁.sender s₁) (role_number s₁.receiver s₁) s₁.label) w.0
      ∙ (ap₂ (λ (v u : List ℕ). alone s.rows (role_number v s₁) (role_number u s₁) s₁.label) a₁.1 a₁.2
      ∙ (ap (λ (v : List (List ℕ)). alone s.rows (index_of (spelled p) v) (index_of (spelled q) v) s₁.label) a₁.0.roles_are
      ∙ (ap (λ (v : ℕ). alone s.rows P Q v) number
      ∙ (append_assoc s.rows (1 ∷ P ∷ Q ∷ suc (rows_made s) ∷ []) (2 ∷ M ∷ (rows_made s + 2) ∷ 0 ∷ [])
      ∙ ap (λ (v : ℕ). s.rows ++ (1 ∷ P ∷ Q ∷ suc (rows_made s) ∷ 2 ∷ M ∷ v ∷ 0 ∷ [])) two)))))

  armed_writes : (b : ℕ) (p : List ℕ) (q : Option (List ℕ)) (r y : ℕ) (s : ReaderState) → (armed lim b p q r y s).rows ≡ within r y s.rows (role_number (receiver_of q s.receiver) s) s.label
  unfolding armed
  armed_writes b p q r y s = refl

  armed_rows : (l : Name) (xs : List Name) (p q : Name) (b : ℕ) (s : ReaderState) (from : List ℕ) (q₀ : Option (List ℕ)) (r y : ℕ) (fs : List Frame) {N L C R : List Fault} (ns : List Name)
      → s.frames ≡ frame (chosen from q₀ r y) true false ∷ fs → receiver_of q₀ (spelled q) ≡ spelled q
      → r * 4 + 2 < length s.rows → y * 4 + 3 < length s.rows → Read lim e h roles s N L C R ns → Later names (ns ++ (l ∷ []))
      → (do_stmt lim (message l xs p q b) s).rows ≡ patched r y (index_of (spelled q) roles) (rows_made s) s.rows ++ (2 ∷ index_of (spelled l) names ∷ suc (rows_made s) ∷ 0 ∷ [])
  unfolding do_stmt message_read message_in
  armed_rows l xs p q b s from q₀ r y fs ns g k i j a z =
      let s₁ = spoken lim l xs p q s in
      let a₁ = at_spoken lim e h roles l xs p q b (recs_in fs) s (chosen from q₀ r y) true false fs ns g a in
      let w = spoken_writes lim l xs p q s in
      let same = sent_as lim b s₁ (chosen from q₀ r y) true false fs ((spoken_keeps lim l xs p q s).0 ∙ g) in
      let number = w.1 ∙ (ap (index_of (spelled l)) a.labels_are ∙ label_number names ns l z) in
      let Q = index_of (spelled q) roles in
      let M = index_of (spelled l) names in
      ap (λ (v : ReaderState). v.rows) same
      ∙ (armed_writes b from q₀ r y s₁
      ∙ (ap (λ (v : List ℕ). within r y v (role_number (receiver_of q₀ s₁.receiver) s₁) s₁.label) w.0
      ∙ (ap (λ (v : List ℕ). within r y s.rows (role_number (receiver_of q₀ v) s₁) s₁.label) a₁.2
      ∙ (ap (λ (v : List (List ℕ)). within r y s.rows (index_of (receiver_of q₀ (spelled q)) v) s₁.label) a₁.0.roles_are
      ∙ (ap (λ (v : List ℕ). within r y s.rows (index_of v roles) s₁.label) k
      ∙ (ap (λ (v : ℕ). within r y s.rows Q v) number
      ∙ patched_before r y Q (rows_made s) s.rows (2 ∷ M ∷ suc (rows_made s) ∷ 0 ∷ []) i j))))))

  -- a block of a choice as a tree
  arm_shape : {from to : List ℕ} {b : Block} → FineArm from to b → (recs : List (List ℕ)) → (l : ℕ) × (G : Global ℕ) × (global_in roles names b recs ≡ exchange (index_of from roles) (index_of to roles) (arm l G nil))
  unfolding global_in
  arm_shape (fine_arm {l = l} {b = b} i j f) recs =
      (index_of (spelled l) names, global_in roles names b recs, ap₂ (λ (x y : List ℕ). exchange (index_of x roles) (index_of y roles) (arm (index_of (spelled l) names) (global_in roles names b recs) nil)) i j)

  closes_behind : {b : Block} → IsEnd b → (s : ReaderState) (f : Form) (x : Bool) (fs : List Frame) → s.frames ≡ frame f x true ∷ fs → (do_block lim b s).rows ≡ s.rows
  unfolding do_block
  closes_behind (is_end {c = c}) s f x fs g = closes_last lim c s f x fs g

  last_one : (k : ℕ) (G : Global ℕ) (here : ℕ) → here ≡ last_row (arm k G nil) here
  unfolding last_row
  last_one k G here = refl

  two_more : (R : List Fault) (l : Name) (b n : ℕ) → n ≡ length R → length (R ++ (blame (stands_at l) MANY b ∷ blame (stands_at l) MANY b ∷ [])) ≡ suc (suc n)
  two_more R l b n w = length-append R (blame (stands_at l) MANY b ∷ blame (stands_at l) MANY b ∷ []) ∙ omega arith

  mutual
    unfolding do_block global_in labels_in laid rows_met chooser_met rec_met continue_met special role_met recs_in join_arms

    -- a choice, rec or continue
    stmt_rows : {t : Stmt} → FineStmt t → is_last t ≡ true → (G : Global ℕ) (s : ReaderState) (f : Form) (x : Bool) (fs : List Frame) {N L C R : List Fault} (ns : List Name)
        → s.frames ≡ frame f x false ∷ fs → Read lim e h roles s N L C R ns → Later names (ns ++ labels_of t)
        → (do_stmt lim t s).rows ≡ s.rows ++ laid (global_of roles names t (added f (recs_in fs)) G) (rows_made s)
    stmt_rows fine_message i G s f x fs ns g a z = let w : ◌≡◌ {A = ℕ} 0 1 = cc in let v : ⊥ = omega arith in absurd v
    stmt_rows (fine_choice {c = c} {to = to} {p = p} {first = first} {others = others} fa fas) i G s f x fs {N} {L} {C} {R} ns g a z =
        let s₂ = block_opened lim (chooser_met lim (stands_at p) (spelled p) (special lim c s)) in
        let from = index_of (spelled p) roles in
        let at = index_of to roles in
        let fs₁ = frame f false true ∷ fs in
        let recs = added f (recs_in fs) in
        let r = rows_made s in
        let o₁ = chooser_told lim e h roles c p s f x false fs g a in
        let n₀ = at_count lim e h roles s a in
        let n₁ = at_count lim e h roles s₂ o₁.0 in
        let len = length-append R (blame c MANY (stands_at p) ∷ []) in
        let base : length s.rows ≡ r * 4 = a.rows_are ∙ ap (λ (k : ℕ). k * 4) (sym n₀) in
        let next : rows_made s₂ ≡ suc r = omega arith in
        let rows₂ : s₂.rows ≡ s.rows ++ (1 ∷ from ∷ 0 ∷ suc r ∷ []) = ap (λ (v : List (List ℕ)). s.rows ++ (1 ∷ index_of (spelled p) v ∷ 0 ∷ suc r ∷ [])) a.roles_are in
        let size : length s₂.rows ≡ r * 4 + 4 = ap length rows₂ ∙ (length-append s.rows (1 ∷ from ∷ 0 ∷ suc r ∷ []) ∙ omega arith) in
        let z₁ = later_as names (ns ++ (labels_in first ++ labels_among others)) ((ns ++ labels_in first) ++ labels_among others) (sym (append_assoc ns (labels_in first) (labels_among others))) z in
        let k = arm_rows fa s₂ none r 0 fs₁ ns o₁.1 refl (omega arith) (omega arith) o₁.0 (later_first names (ns ++ labels_in first) (labels_among others) z₁) in
        let m = arm_told lim e h roles first s₂ (spelled p) none r 0 fs₁ ns o₁.1 o₁.0 in
        let sh = arm_shape fa recs in
        let M = sh.0 in
        let H = sh.1 in
        let rows₃ : (do_block lim first s₂).rows ≡ s.rows ++ row4 1 from at (suc r) (laid_arms (arm M H nil) (suc r))
        = k.0
        ∙ (ap (λ (v : ℕ). set s₂.rows (r * 4 + 2) at ++ laid_arms (joined (global_in roles names first recs) nil) v) next
        ∙ (ap (λ (v : Global ℕ). set s₂.rows (r * 4 + 2) at ++ laid_arms (joined v nil) (suc r)) sh.2
        ∙ (ap (λ (v : List ℕ). v ++ laid_arms (arm M H nil) (suc r)) (ap (λ (v : List ℕ). set v (r * 4 + 2) at) rows₂ ∙ set_word s.rows (1 ∷ from ∷ []) 0 at r (suc r ∷ []) base)
        ∙ append_assoc s.rows (1 ∷ from ∷ at ∷ suc r ∷ []) (laid_arms (arm M H nil) (suc r))))) in
        arms_rows fas (do_block lim first s₂) r (suc r) fs₁ (ns ++ labels_in first) s.rows M H nil (k.1 ∙ ap (λ (v : ℕ). chosen (spelled p) (some to) r v) next) m.1 m.0 z₁ base rows₃ (last_one M H (suc r))
        ∙ ap (λ (v : Global ℕ). s.rows ++ (1 ∷ from ∷ receiver_in v ∷ suc r ∷ laid_arms (joined v (arms_among roles names others recs)) (suc r))) (sym sh.2)
    stmt_rows (fine_rec {c = c} {x = n} {b = b} fb) i G s f x fs {N} {L} {C} {R} ns g a z =
        let s₂ = block_opened lim (rec_met lim (stands_at n) (spelled n) (special lim c s)) in
        let o₁ = rec_told lim e h roles c n s f x false fs g a in
        let n₀ = at_count lim e h roles s a in
        let n₁ = at_count lim e h roles s₂ o₁.0 in
        let len = length-append R (blame c MANY (stands_at n) ∷ []) in
        let next : rows_made s₂ ≡ suc (rows_made s) = omega arith in
        let G₁ = global_in roles names b (spelled n ∷ added f (recs_in fs)) in
        block_rows_lem fb s₂ (looped (spelled n)) true (frame f false true ∷ fs) ns o₁.1 refl o₁.0 z
        ∙ (ap (λ (v : ℕ). (s.rows ++ (3 ∷ suc (rows_made s) ∷ 0 ∷ 0 ∷ [])) ++ laid G₁ v) next ∙ append_assoc s.rows (3 ∷ suc (rows_made s) ∷ 0 ∷ 0 ∷ []) (laid G₁ (suc (rows_made s))))
    stmt_rows (fine_continue {c = c} {x = n}) i G s f x fs ns g a z =
        ap (λ (v : List Frame). s.rows ++ (4 ∷ index_of (spelled n) (recs_in v) ∷ 0 ∷ 0 ∷ [])) (special_frames lim s c f x false fs g)

    pub block_rows_lem : {b : Block} → Fine b → (s : ReaderState) (f : Form) (x : Bool) (fs : List Frame) {N L C R : List Fault} (ns : List Name)
        → s.frames ≡ frame f x false ∷ fs → is_chosen f && x ≡ false → Read lim e h roles s N L C R ns → Later names (ns ++ labels_in b)
        → (do_block lim b s).rows ≡ s.rows ++ laid (global_in roles names b (added f (recs_in fs))) (rows_made s)
    block_rows_lem (fine_end {c = c}) s f x fs ns g y a z = closes_end lim c s f x fs g
    block_rows_lem (fine_then {l = l} {p = p} {q = q} {xs = xs} {e = b} {b = rest} fb) s f x fs {N} {L} {C} {R} ns g y a z =
        let t = message l xs p q b in
        let k = message_told lim e h roles l xs p q b s f x false fs ns g y a in
        let z₁ = later_as names (ns ++ ((l ∷ []) ++ labels_in rest)) ((ns ++ (l ∷ [])) ++ labels_in rest) (sym (append_assoc ns (l ∷ []) (labels_in rest))) z in
        let rows₁ = message_rows l xs p q b s f x fs ns g y a (later_first names (ns ++ (l ∷ [])) (labels_in rest) z₁) in
        let n₀ = at_count lim e h roles s a in
        let n₁ = at_count lim e h roles (do_stmt lim t s) k.0 in
        let len = length-append R (blame (stands_at l) MANY b ∷ blame (stands_at l) MANY b ∷ []) in
        let next : rows_made (do_stmt lim t s) ≡ suc (suc (rows_made s)) = n₁ ∙ two_more R l b (rows_made s) n₀ in
        let G₁ = global_in roles names rest (added f (recs_in fs)) in
        let row : List ℕ = 1 ∷ index_of (spelled p) roles ∷ index_of (spelled q) roles ∷ suc (rows_made s) ∷ 2 ∷ index_of (spelled l) names ∷ suc (suc (rows_made s)) ∷ 0 ∷ [] in
        block_rows_lem fb (do_stmt lim t s) f false fs (ns ++ (l ∷ [])) k.1 (and-false (is_chosen f)) k.0 z₁
        ∙ (ap₂ (λ (v : List ℕ) (u : ℕ). v ++ laid G₁ u) rows₁ next
        ∙ (append_assoc s.rows row (laid G₁ (suc (suc (rows_made s))))
        ∙ ap (λ (v : List ℕ). s.rows ++ (row ++ v)) (sym (append-nil (laid G₁ (suc (suc (rows_made s))))))))
    block_rows_lem (fine_last {t = t} {b = b} ft i eb) s f x fs ns g y a z =
        let k = stmt_told lim e h roles t s f x false fs ns g (plain t (is_chosen f && x) y) a in
        let g₁ = k.1 ∙ ap (λ (v : Bool). frame f false (v || false) ∷ fs) i in
        let z₁ = later_as names (ns ++ (labels_of t ++ labels_in b)) ((ns ++ labels_of t) ++ labels_in b) (sym (append_assoc ns (labels_of t) (labels_in b))) z in
        closes_behind eb (do_stmt lim t s) f false fs g₁
        ∙ stmt_rows ft i (global_in roles names b (added f (recs_in fs))) s f x fs ns g a (later_first names (ns ++ labels_of t) (labels_in b) z₁)

    arm_rows : {from to : List ℕ} {b : Block} → FineArm from to b → (s : ReaderState) (q₀ : Option (List ℕ)) (r y : ℕ) (fs : List Frame) {N L C R : List Fault} (ns : List Name)
        → s.frames ≡ frame (chosen from q₀ r y) true false ∷ fs → receiver_of q₀ to ≡ to
        → r * 4 + 2 < length s.rows → y * 4 + 3 < length s.rows → Read lim e h roles s N L C R ns → Later names (ns ++ labels_in b)
        → ((do_block lim b s).rows ≡ patched r y (index_of to roles) (rows_made s) s.rows ++ laid_arms (joined (global_in roles names b (recs_in fs)) nil) (rows_made s))
        × ((do_block lim b s).pending ≡ chosen from (some to) r (rows_made s))
    arm_rows {from} {to} (fine_arm {l = l} {p = p} {q = q} {xs = xs} {e = b} {b = rest} i j fb) s q₀ r y fs {N} {L} {C} {R} ns g k u v a z =
        let t = message l xs p q b in
        let o = message_start (stands_at l) (spelled p) (spelled q) b in
        let M = index_of (spelled l) names in
        let k₁ = armed_told lim e h roles l xs p q b s from q₀ r y fs ns g a in
        let z₁ = later_as names (ns ++ ((l ∷ []) ++ labels_in rest)) ((ns ++ (l ∷ [])) ++ labels_in rest) (sym (append_assoc ns (l ∷ []) (labels_in rest))) z in
        let k_q = subst (λ (w : List ℕ). receiver_of q₀ w ≡ w) (sym j) k in
        let rows₁ = armed_rows l xs p q b s from q₀ r y fs ns g k_q u v a (later_first names (ns ++ (l ∷ [])) (labels_in rest) z₁) in
        let n₀ = at_count lim e h roles s a in
        let n₁ = at_count lim e h roles (do_stmt lim t s) k₁.0 in
        let len = length-append R (blame (stands_at l) MANY b ∷ []) in
        let next : rows_made (do_stmt lim t s) ≡ suc (rows_made s) = omega arith in
        let same_count = ap (λ (w : List ℕ). length w / 4) (spoken_writes lim l xs p q s).0 in
        let G₁ = global_in roles names rest (recs_in fs) in
        let front = patched r y (index_of to roles) (rows_made s) s.rows in
        let f₁ = chosen from (hears q₀ o) r (rows_made (spoken lim l xs p q s)) in
        let m = block_told lim e h roles rest (do_stmt lim t s) f₁ false false fs (ns ++ (l ∷ [])) k₁.1 refl k₁.0 in (
          block_rows_lem fb (do_stmt lim t s) f₁ false fs (ns ++ (l ∷ [])) k₁.1 refl k₁.0 z₁
              ∙ (ap₂ (λ (w : List ℕ) (n : ℕ). w ++ laid G₁ n) (rows₁ ∙ ap (λ (w : List ℕ). patched r y (index_of w roles) (rows_made s) s.rows ++ (2 ∷ M ∷ suc (rows_made s) ∷ 0 ∷ [])) j) next
              ∙ (append_assoc front (2 ∷ M ∷ suc (rows_made s) ∷ 0 ∷ []) (laid G₁ (suc (rows_made s)))
              ∙ ap (λ (w : List ℕ). front ++ (2 ∷ M ∷ suc (rows_made s) ∷ 0 ∷ w)) (sym (append-nil (laid G₁ (suc (rows_made s))))))),
          m.2 ∙ (ap (λ (w : List ℕ). chosen from (some w) r (rows_made (spoken lim l xs p q s))) (k_q ∙ j) ∙ ap (λ (w : ℕ). chosen from (some to) r w) same_count),
        )

    arms_rows : {from to : List ℕ} {bs : Blocks} → FineArms from to bs → (s : ReaderState) (r y : ℕ) (fs : List Frame) {N L C R : List Fault} (ns : List Name) (base : List ℕ) (k : ℕ) (G : Global ℕ) (cs : Arms ℕ)
        → s.pending ≡ chosen from (some to) r y → s.frames ≡ fs → Read lim e h roles s N L C R ns → Later names (ns ++ labels_among bs)
        → length base ≡ r * 4 → s.rows ≡ base ++ row4 1 (index_of from roles) (index_of to roles) (suc r) (laid_arms (arm k G cs) (suc r)) → y ≡ last_row (arm k G cs) (suc r)
        → (do_blocks lim bs s).rows ≡ base ++ row4 1 (index_of from roles) (index_of to roles) (suc r) (laid_arms (arm k G (join_arms cs (arms_among roles names bs (recs_in fs)))) (suc r))
    arms_rows {from} {to} fine_none s r y fs ns base k G cs w g a z len rows last =
        rows ∙ ap (λ (v : Arms ℕ). base ++ row4 1 (index_of from roles) (index_of to roles) (suc r) (laid_arms (arm k G v) (suc r))) (sym (join_nil cs))
    arms_rows {from} {to} (fine_or {b = b} {bs = bs} fa fas) s r y fs ns base k G cs w g a z len rows last =
        let g₁ = ap₂ (λ (v : Form) (u : List Frame). frame v true false ∷ u) w g in
        let recs = recs_in fs in
        let m = suc r + rows_in_arms (arm k G cs) in
        let arms = laid_arms (arm k G cs) (suc r) in
        let len₁ : length s.rows ≡ m * 4 = ap length rows ∙ (length-append base (row4 1 (index_of from roles) (index_of to roles) (suc r) arms) ∙ (let h₁ = arms_length (arm k G cs) (suc r) in omega arith)) in
        let here : rows_made s ≡ m = count_is s m len₁ in
        let bd = last_bounds k G cs (suc r) in
        let z₁ = later_as names (ns ++ (labels_in b ++ labels_among bs)) ((ns ++ labels_in b) ++ labels_among bs) (sym (append_assoc ns (labels_in b) (labels_among bs))) z in
        let lo : r * 4 + 2 < length s.rows = omega arith in
        let hi : y * 4 + 3 < length s.rows = omega arith in
        let ar = arm_rows fa (block_opened lim s) (some to) r y fs ns g₁ refl lo hi a (later_first names (ns ++ labels_in b) (labels_among bs) z₁) in
        let told = arm_told lim e h roles b (block_opened lim s) from (some to) r y fs ns g₁ a in
        let sh = arm_shape fa recs in
        let M = sh.0 in
        let H = sh.1 in
        let last_row = last_row (arm k G cs) (suc r) in
        let rows₁ : (do_block lim b (block_opened lim s)).rows ≡ base ++ row4 1 (index_of from roles) (index_of to roles) (suc r) (laid_arms (arm k G (snoc cs M H)) (suc r))
        = ar.0
        ∙ (ap (λ (v : Global ℕ). patched r y (index_of to roles) (rows_made s) s.rows ++ laid_arms (joined v nil) (rows_made s)) sh.2
        ∙ (ap (λ (v : ℕ). patched r y (index_of to roles) v s.rows ++ laid_arms (arm M H nil) v) here
        ∙ (ap (λ (v : List ℕ). patched r y (index_of to roles) m v ++ laid_arms (arm M H nil) m) rows
        ∙ (ap (λ (v : ℕ). patched r v (index_of to roles) m (base ++ row4 1 (index_of from roles) (index_of to roles) (suc r) arms) ++ laid_arms (arm M H nil) m) last
        ∙ patch_more base (index_of from roles) (index_of to roles) r k G cs M H len)))) in
        arms_rows fas (do_block lim b (block_opened lim s)) r (rows_made s) fs (ns ++ labels_in b) base k G (snoc cs M H) ar.1 told.1 told.0 z₁ len rows₁ (here ∙ sym (last_snoc k G cs (suc r) M H))
        ∙ (ap (λ (v : Arms ℕ). base ++ row4 1 (index_of from roles) (index_of to roles) (suc r) (laid_arms (arm k G v) (suc r))) (join_snoc cs M H (arms_among roles names bs recs))
        ∙ ap (λ (v : Global ℕ). base ++ row4 1 (index_of from roles) (index_of to roles) (suc r) (laid_arms (arm k G (join_arms cs (joined v (arms_among roles names bs recs)))) (suc r))) (sym sh.2))
