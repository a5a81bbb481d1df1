-- Every row of a sound part that is laid out in a block is well formed for a step: rule 12 holds of it. Assumes nothing.
use Prim.Native.Nat.{ℕ, suc, ◌+◌, ◌≤◌, ◌<◌}
use mathlib.Core.Bool.{true, false, ◌&&◌, ◌||◌, or-true}
use mathlib.Core.List.{List}
use mathlib.Core.Logic.{◌≢◌}
use mathlib.Core.Path.{◌≡◌, refl, ap}
use native.Mathlib.Decide.{dec_lt}
use native.Mathlib.Omega.{arith}
use lib.Dec.{ltb, eqb}
use lib.ListN.{get_or, length}
use borrow.Author.Tests.{lt-ltb, ne_eqb}
use Rattle.table.specs.Limits.{Limits}
use Rattle.parts.specs.Part.{Part, PartArms}
use Rattle.parts.specs.Layout.{size, size_arms, next_arm}
use Rattle.blocks.specs.Block.{PartRow, End, Arm, Loop, Back, Send, Receive, part_row, block_rows, is_arm, is_loop, is_head, label}
use Rattle.blocks.specs.Head.{head}
use Rattle.blocks.specs.Tables.{to_arm, row_holds, row_good}
use Rattle.protocol.proofs.Parts.Fits.{HeadBack}
use Rattle.parts.proofs.Rising.{Above, label as next_label}
use Rattle.protocol.proofs.Parts.Sound.{SomePart, some_part, Sound, s_send, s_receive, s_loop, s_back, SoundArms, s_arm}
use Rattle.protocol.proofs.Start.Begins.{deeper}
use Rattle.protocol.proofs.Blocks.Laid.{Laid, l_end, l_send, l_receive, l_loop, l_back, LaidArms, l_nil, l_arm}
use Rattle.protocol.proofs.Blocks.Leads.{Leads, leads_here, leads_head, Around, around_new, around_loop, raise, settle, lead}

pub laid_first : {row : ℕ → PartRow} {i : ℕ} {around : List ℕ} {P : Part} → Laid row i around P → is_arm (row i) ≡ false
laid_first (l_end e) = ap is_arm e
laid_first (l_send e arms) = ap is_arm e
laid_first (l_receive e arms) = ap is_arm e
laid_first (l_loop e body) = ap is_arm e
laid_first (l_back e) = ap is_arm e

first_arm : {row : ℕ → PartRow} {i : ℕ} {around : List ℕ} {ps : PartArms} → LaidArms row i around ps → SomePart ps → is_arm (row i) ≡ true
first_arm (l_arm e body arms) some_part = ap is_arm e
first_arm l_nil h = elim h [ ]

some_size : {ps : PartArms} → SomePart ps → 0 < size_arms ps
unfolding size
some_size some_part = omega arith

size_some : {row : ℕ → PartRow} {i : ℕ} {around : List ℕ} {P : Part} → Laid row i around P → 0 < size P
unfolding size
size_some (l_end e) = omega arith
size_some (l_send e arms) = omega arith
size_some (l_receive e arms) = omega arith
size_some (l_loop e body) = omega arith
size_some (l_back e) = omega arith

module _ (lim : Limits) (ts : List ℕ) (roles r : ℕ) where
  pub end_holds : (i : ℕ) → row_holds lim ts roles r i (End 0 0 0) ≡ true
  unfolding row_holds
  end_holds i = refl

  loop_holds : (i : ℕ) → suc i < block_rows ts roles → is_arm (part_row ts roles r (suc i)) ≡ false → row_holds lim ts roles r i (Loop (suc i) 0 0) ≡ true
  unfolding row_holds
  loop_holds i h e = rw (lt-ltb i (suc i) (omega arith), lt-ltb (suc i) (block_rows ts roles) h, e)

  back_holds : (i j : ℕ) → j < i → is_loop (part_row ts roles r j) ≡ true → row_holds lim ts roles r i (Back j 0 0) ≡ true
  unfolding row_holds
  back_holds i j h e = rw (lt-ltb j i h, e)

  send_holds : (i q : ℕ) → q < roles → q ≢ r → suc i < block_rows ts roles → is_arm (part_row ts roles r (suc i)) ≡ true
      → row_holds lim ts roles r i (Send q (suc i) 0) ≡ true
  unfolding row_holds
  send_holds i q g n h e = rw (lt-ltb q roles g, ne_eqb q r n, lt-ltb i (suc i) (omega arith), lt-ltb (suc i) (block_rows ts roles) h, e)

  receive_holds : (i q : ℕ) → q < roles → q ≢ r → suc i < block_rows ts roles → is_arm (part_row ts roles r (suc i)) ≡ true
      → row_holds lim ts roles r i (Receive q (suc i) 0) ≡ true
  unfolding row_holds
  receive_holds i q g n h e = rw (lt-ltb q roles g, ne_eqb q r n, lt-ltb i (suc i) (omega arith), lt-ltb (suc i) (block_rows ts roles) h, e)

  -- the next arm of an arm: none, or one with a greater label
  next_holds : (i j l : ℕ) {around : List ℕ} {ps : PartArms} → i < j → j + size_arms ps ≤ block_rows ts roles
      → LaidArms (part_row ts roles r) j around ps → Above l ps
      → (eqb (next_arm j ps) 0 || (to_arm ts roles r i (next_arm j ps) && ltb l (label (part_row ts roles r (next_arm j ps))))) ≡ true
  unfolding next_arm size
  next_holds i j l h fits l_nil b = refl
  next_holds i j l h fits (l_arm {l = k} e body arms) (next_label less b) =
      rw (lt-ltb i j h, lt-ltb j (block_rows ts roles) (omega arith), e, lt-ltb l k less) (or-true (eqb j 0))

  arm_holds : (i l n : ℕ) → 0 < i → l < lim.labels → suc i < block_rows ts roles → is_arm (part_row ts roles r (suc i)) ≡ false
      → (eqb n 0 || (to_arm ts roles r i n && ltb l (label (part_row ts roles r n)))) ≡ true → row_holds lim ts roles r i (Arm l (suc i) n) ≡ true
  unfolding row_holds
  arm_holds i l n pos g h e f =
      rw (ne_eqb i 0 (λ t. omega arith), lt-ltb l lim.labels g, lt-ltb i (suc i) (omega arith), lt-ltb (suc i) (block_rows ts roles) h, e) f

  good_head : (i n : ℕ) → row_holds lim ts roles r i (part_row ts roles r i) ≡ true → Leads (part_row ts roles r) n i → n ≤ block_rows ts roles
      → row_good lim ts roles r i ≡ true
  unfolding head
  good_head i n h l le = rw (h, leads_head ts roles r (block_rows ts roles) l le) (or-true (is_arm (part_row ts roles r i)))

  good_arm : (i l c n : ℕ) → part_row ts roles r i ≡ Arm l c n → row_holds lim ts roles r i (Arm l c n) ≡ true → row_good lim ts roles r i ≡ true
  good_arm i l c n e h = rw (e, h)

  pub good_end : (i : ℕ) → part_row ts roles r i ≡ End 0 0 0 → row_good lim ts roles r i ≡ true
  good_end i e = good_head i 0 (rw e (end_holds i)) (leads_here (ap is_head e)) (omega arith)

  abbrev Rows : ℕ → ℕ → Type 0
  Rows i m = (k : ℕ) → i ≤ k → k < i + m → row_good lim ts roles r k ≡ true

  one_row : (i : ℕ) → row_good lim ts roles r i ≡ true → Rows i 1
  one_row i g k h h' = let e : k ≡ i = omega arith in rw e g

  more_rows : (i m n : ℕ) → Rows i m → Rows (i + m) n → Rows i (m + n)
  more_rows i m n f g k h h' = go (dec_lt k (i + m))
    where
      go : Dec (k < i + m) → row_good lim ts roles r k ≡ true
      go (yes t) = f k h t
      go (no t) = g k (omega arith) (omega arith)

  same_rows : (i m j n : ℕ) → i ≡ j → m ≡ n → Rows j n → Rows i m
  same_rows i m j n e f g k h h' = g k (omega arith) (omega arith)

  mutual
    unfolding size

    pub rows_good : {i : ℕ} {around : List ℕ} {P : Part} → Laid (part_row ts roles r) i around P → (b d : ℕ) → i ≡ b + d
        → Sound roles lim.labels r (length around) P → Around (part_row ts roles r) b d around → i + size P ≤ block_rows ts roles
        → ((j : ℕ) → j < d → HeadBack j P → ⊥) → Rows i (size P)
    rows_good {i} (l_end e) b d at s a fits acts =
        one_row i (good_end i e)
    rows_good {i} (l_send {q = q} e arms) b d at (s_send g n one ss) a fits acts =
        let here : Leads (part_row ts roles r) 0 i = leads_here (ap is_head e) in
        let h : suc i < block_rows ts roles = omega (arith, some_size one) in
        let holds : row_holds lim ts roles r i (part_row ts roles r i) ≡ true = rw e (send_holds i q g n h (first_arm arms one)) in
        same_rows i _ i _ refl (omega arith) (more_rows i 1 _ (one_row i (good_head i 0 holds here (omega arith)))
        (same_rows (i + 1) _ (suc i) _ (omega arith) refl
        (arms_good arms (suc i) (omega arith) (omega arith) ss (settle (part_row ts roles r) (suc i) 0 i a at here (omega arith)) (omega arith))))
    rows_good {i} (l_receive {q = q} e arms) b d at (s_receive g n one ss) a fits acts =
        let here : Leads (part_row ts roles r) 0 i = leads_here (ap is_head e) in
        let h : suc i < block_rows ts roles = omega (arith, some_size one) in
        let holds : row_holds lim ts roles r i (part_row ts roles r i) ≡ true = rw e (receive_holds i q g n h (first_arm arms one)) in
        same_rows i _ i _ refl (omega arith) (more_rows i 1 _ (one_row i (good_head i 0 holds here (omega arith)))
        (same_rows (i + 1) _ (suc i) _ (omega arith) refl
        (arms_good arms (suc i) (omega arith) (omega arith) ss (settle (part_row ts roles r) (suc i) 0 i a at here (omega arith)) (omega arith))))
    rows_good {i} (l_loop e body) b d at (s_loop no_zero s) a fits acts =
        let (n, l, k) = lead (part_row ts roles r) (l_loop e body) at (s_loop no_zero s) a acts in
        let h : suc i < block_rows ts roles = omega (arith, size_some body) in
        let holds : row_holds lim ts roles r i (part_row ts roles r i) ≡ true = rw e (loop_holds i h (laid_first body)) in
        let at' : suc i ≡ b + suc d = omega arith in
        same_rows i _ i _ refl (omega arith) (more_rows i 1 _ (one_row i (good_head i n holds l (omega arith)))
        (same_rows (i + 1) _ (suc i) _ (omega arith) refl
        (rows_good body b (suc d) at' s (around_new e at a) (omega arith) (deeper no_zero acts))))
    rows_good {i} {around} (l_back {k = k} e) b d at (s_back k<) a fits acts =
        let (n, l, h) = lead (part_row ts roles r) {roles = roles} {labels = lim.labels} {r = r} (l_back e) at (s_back k<) a acts in
        let (loops, less) = around_loop (part_row ts roles r) k a k< in
        let below : get_or around k 0 < i = omega arith in
        let holds : row_holds lim ts roles r i (part_row ts roles r i) ≡ true = rw e (back_holds i (get_or around k 0) below loops) in
        one_row i (good_head i n holds l (omega arith))

    arms_good : {i : ℕ} {around : List ℕ} {ps : PartArms} → LaidArms (part_row ts roles r) i around ps → (b : ℕ) → b ≤ i → 0 < i
        → SoundArms roles lim.labels r (length around) ps → Around (part_row ts roles r) b 0 around → i + size_arms ps ≤ block_rows ts roles
        → Rows i (size_arms ps)
    arms_good l_nil b h pos ss a fits = λ k u v. absurd (omega arith)
    arms_good {i} (l_arm {l = l} {P = P} {ps = ps} e body arms) b h pos (s_arm g before s ss) a fits =
        let h' : suc i < block_rows ts roles = omega (arith, size_some body) in
        let next = next_holds i (suc i + size P) l (omega arith) (omega arith) arms before in
        let holds = arm_holds i l (next_arm (suc i + size P) ps) pos g h' (laid_first body) next in
        let at : suc i ≡ suc i + 0 = omega arith in
        let rest = arms_good arms b (omega arith) (omega arith) ss a (omega arith) in
        let first = rows_good body (suc i) 0 at s (raise (part_row ts roles r) (suc i) (omega arith) a) (omega arith) (λ j t. absurd (omega arith)) in
        same_rows i _ i _ refl (omega arith) (more_rows i 1 _ (one_row i (good_arm i l (suc i) (next_arm (suc i + size P) ps) e holds))
        (same_rows (i + 1) _ (suc i) _ (omega arith) refl (more_rows (suc i) (size P) (size_arms ps) first rest)))
