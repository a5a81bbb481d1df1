-- What the rows of a block say, as the proof of demand 3 sees them: heads behave as heads, and a laid out part is stood for. Assumes nothing.
use Prim.Native.Nat.{ℕ, zero, suc, ◌+◌, ◌≤◌, ◌<◌}
use mathlib.Core.Bool.{Bool, true, false, cond, ◌||◌, true≢false}
use mathlib.Core.List.{List, [], ◌∷◌}
use mathlib.Core.Path.{◌≡◌, refl, sym, ◌∙◌, ap}
use native.Mathlib.Decide.{dec_lt}
use native.Mathlib.Omega.{arith}
use lib.Dec.{ltb}
use lib.ListN.{get_or, length}
use borrow.Author.Tests.{lt-ltb, le-ltb}
use Rattle.table.specs.Limits.{Limits}
use Rattle.table.proofs.Tests.{both}
use Rattle.parts.specs.Part.{Part, PartArms}
use Rattle.parts.specs.Layout.{size, size_arms, next_arm}
use Rattle.blocks.specs.Block.{PartRow, End, Arm, Loop, Back, Send, Receive, Other, part_row, block_rows, is_arm, is_head}
use Rattle.blocks.specs.Head.{onward, follow, head, has_head, arm_then, chain, arms_of}
use Rattle.blocks.specs.Tables.{row_holds, row_good}
use Rattle.protocol.proofs.Invariant.View.{View, v_end, v_send, v_receive, v_loop, v_back}
use Rattle.protocol.proofs.Parts.Sound.{SomePart, some_part, Sound, s_send, s_receive, s_loop, s_back, SoundArms, s_arm}
use Rattle.protocol.proofs.Start.Encodes.{
  Nth,
  n_here,
  n_there,
  arm_at,
  Encodes,
  e_end,
  e_send,
  e_receive,
  e_loop,
  e_back,
  EncodesArms,
  ea_nil,
  ea_arm,
  Heads,
}
use Rattle.protocol.proofs.Blocks.Laid.{Laid, l_end, l_send, l_receive, l_loop, l_back, LaidArms, l_nil, l_arm}
use Rattle.protocol.proofs.Blocks.Leads.{follow_stays}

-- row x of role r; a row that nobody can stand on leads to itself
abbrev pub look : List ℕ → ℕ → ℕ → ℕ → PartRow → View
look ts roles r x (End a b c) = v_end
look ts roles r x (Arm l c n) = v_loop x
look ts roles r x (Loop y a b) = v_loop y
look ts roles r x (Back y a b) = v_back y
look ts roles r x (Send q f a) = v_send q (arms_of ts roles r f)
look ts roles r x (Receive q f a) = v_receive q (arms_of ts roles r f)
look ts roles r x Other = v_loop x

-- an absent role has ended
unfoldable pub view_of : List ℕ → ℕ → ℕ → ℕ → View
view_of ts roles r x =
    cond (ltb r roles) (cond (ltb x (block_rows ts roles)) (look ts roles r x (part_row ts roles r x)) (v_loop x)) v_end

-- a role stands still at such a row
abbrev acting : View → Bool
acting v_end = true
acting (v_send q arms) = true
acting (v_receive q arms) = true
acting (v_loop y) = false
acting (v_back y) = false

look_acting : (ts : List ℕ) (roles r x : ℕ) (w : PartRow) → acting (look ts roles r x w) ≡ is_head w
look_acting ts roles r x (End a b c) = refl
look_acting ts roles r x (Arm l c n) = refl
look_acting ts roles r x (Loop y a b) = refl
look_acting ts roles r x (Back y a b) = refl
look_acting ts roles r x (Send q f a) = refl
look_acting ts roles r x (Receive q f a) = refl
look_acting ts roles r x Other = refl

same_loop : {y z : ℕ} → v_loop y ≡ v_loop z → y ≡ z
same_loop e = cc

same_back : {y z : ℕ} → v_back y ≡ v_back z → y ≡ z
same_back e = cc

loop≢back : {B : Type 0} {y z : ℕ} → v_loop y ≡ v_back z → B
loop≢back e = let t : ◌≡◌ {A = ℕ} 0 1 = cc in absurd (omega arith)

back≢loop : {B : Type 0} {y z : ℕ} → v_back y ≡ v_loop z → B
back≢loop e = let t : ◌≡◌ {A = ℕ} 0 1 = cc in absurd (omega arith)

nth_get : (k : ℕ) (xs : List ℕ) → k < length xs → Nth k xs (get_or xs k 0)
nth_get k [] h = absurd (omega arith)
nth_get zero (x ∷ xs) h = n_here
nth_get (suc k) (x ∷ xs) h = n_there (nth_get k xs (omega arith))

module _ (ts : List ℕ) (roles r : ℕ) where
  onward_more : (f g : ℕ → ℕ) (x : ℕ) (w : PartRow) → ((y : ℕ) → is_head (part_row ts roles r (f y)) ≡ true → g y ≡ f y)
      → is_head (part_row ts roles r (onward f x w)) ≡ true → onward g x w ≡ onward f x w
  unfolding onward
  onward_more f g x (End a b c) h e = refl
  onward_more f g x (Arm l c n) h e = refl
  onward_more f g x (Loop y a b) h e = h y e
  onward_more f g x (Back y a b) h e = h y e
  onward_more f g x (Send q t a) h e = refl
  onward_more f g x (Receive q t a) h e = refl
  onward_more f g x Other h e = refl

  follow_more : (m x : ℕ) → is_head (part_row ts roles r (follow m ts roles r x)) ≡ true → follow (suc m) ts roles r x ≡ follow m ts roles r x
  unfolding follow
  follow_more zero x e = follow_stays ts roles r 1 x e
  follow_more (suc m) x e =
      onward_more (λ y. follow m ts roles r y) (λ y. follow (suc m) ts roles r y) x (part_row ts roles r x) (λ y h. follow_more m y h) e

  module _ (present : r < roles) where
    pub view_in : (x : ℕ) → x < block_rows ts roles → view_of ts roles r x ≡ look ts roles r x (part_row ts roles r x)
    unfolding view_of
    view_in x h = rw (lt-ltb r roles present, lt-ltb x (block_rows ts roles) h)

    pub view_out : (x : ℕ) → block_rows ts roles ≤ x → view_of ts roles r x ≡ v_loop x
    unfolding view_of
    view_out x h = rw (lt-ltb r roles present, le-ltb x (block_rows ts roles) h)

    pub view_row : (x : ℕ) (w : PartRow) → x < block_rows ts roles → part_row ts roles r x ≡ w → view_of ts roles r x ≡ look ts roles r x w
    view_row x w h e = view_in x h ∙ ap (look ts roles r x) e

    stands : (x : ℕ) → acting (view_of ts roles r x) ≡ true → is_head (part_row ts roles r x) ≡ true
    stands x e = go (dec_lt x (block_rows ts roles))
      where
        go : Dec (x < block_rows ts roles) → is_head (part_row ts roles r x) ≡ true
        go (yes h) = sym (look_acting ts roles r x (part_row ts roles r x)) ∙ (sym (ap acting (view_in x h)) ∙ e)
        go (no h) = absurd (true≢false (sym e ∙ ap acting (view_out x (omega arith))))

    pub head_stays : (x : ℕ) → acting (view_of ts roles r x) ≡ true → head ts roles r x ≡ x
    unfolding head
    head_stays x e = follow_stays ts roles r (block_rows ts roles) x (stands x e)

    module _ (lim : Limits) (good : (x : ℕ) → x < block_rows ts roles → row_good lim ts roles r x ≡ true) where
      pub has_head_lem : (x : ℕ) → x < block_rows ts roles → is_arm (part_row ts roles r x) ≡ false → has_head ts roles r x ≡ true
      has_head_lem x h e =
          let (a, b) = both (row_holds lim ts roles r x (part_row ts roles r x)) (is_arm (part_row ts roles r x) || has_head ts roles r x) (good x h) in
          rw e at b

      -- one step on from a row that leads on
      head_on : (x y : ℕ) → x < block_rows ts roles → is_arm (part_row ts roles r x) ≡ false
          → ((go : ℕ → ℕ) → onward go x (part_row ts roles r x) ≡ go y) → head ts roles r x ≡ head ts roles r y
      unfolding head follow
      head_on x y h e on = go (block_rows ts roles) h (has_head_lem x h e)
        where
          go : (n : ℕ) → x < n → is_head (part_row ts roles r (follow n ts roles r x)) ≡ true → follow n ts roles r x ≡ follow n ts roles r y
          go zero t i = absurd (omega arith)
          go (suc n) t i =
              let step : follow (suc n) ts roles r x ≡ follow n ts roles r y = on (λ j. follow n ts roles r j) in
              step ∙ sym (follow_more n y (rw step at i))

      loop_on : (x y : ℕ) (w : PartRow) → x < block_rows ts roles → part_row ts roles r x ≡ w → look ts roles r x w ≡ v_loop y
          → head ts roles r x ≡ head ts roles r y
      unfolding onward
      loop_on x y (End a b c) h e f = let t : ◌≡◌ {A = ℕ} 0 1 = cc in absurd (omega arith)
      loop_on x y (Arm l c n) h e f = ap (head ts roles r) (same_loop f)
      loop_on x y (Loop z a b) h e f = head_on x y h (ap is_arm e) (λ go. rw (e, onward) (ap go (same_loop f)))
      loop_on x y (Back z a b) h e f = back≢loop f
      loop_on x y (Send q t a) h e f = let t : ◌≡◌ {A = ℕ} 0 1 = cc in absurd (omega arith)
      loop_on x y (Receive q t a) h e f = let t : ◌≡◌ {A = ℕ} 0 1 = cc in absurd (omega arith)
      loop_on x y Other h e f = ap (head ts roles r) (same_loop f)

      back_on : (x y : ℕ) (w : PartRow) → x < block_rows ts roles → part_row ts roles r x ≡ w → look ts roles r x w ≡ v_back y
          → head ts roles r x ≡ head ts roles r y
      unfolding onward
      back_on x y (End a b c) h e f = let t : ◌≡◌ {A = ℕ} 0 1 = cc in absurd (omega arith)
      back_on x y (Arm l c n) h e f = loop≢back f
      back_on x y (Loop z a b) h e f = loop≢back f
      back_on x y (Back z a b) h e f = head_on x y h (ap is_arm e) (λ go. rw (e, onward) (ap go (same_back f)))
      back_on x y (Send q t a) h e f = let t : ◌≡◌ {A = ℕ} 0 1 = cc in absurd (omega arith)
      back_on x y (Receive q t a) h e f = let t : ◌≡◌ {A = ℕ} 0 1 = cc in absurd (omega arith)
      back_on x y Other h e f = loop≢back f

      pub heads : Heads (view_of ts roles r) (head ts roles r)
      heads = record {
        on_end = λ x e. head_stays x (ap acting e);
        on_send = λ x q arms e. head_stays x (ap acting e);
        on_receive = λ x q arms e. head_stays x (ap acting e);
        on_loop = λ x y e. on_loop x y e (dec_lt x (block_rows ts roles));
        on_back = λ x y e. on_back x y e (dec_lt x (block_rows ts roles));
      }
        where
          on_loop : (x y : ℕ) → view_of ts roles r x ≡ v_loop y → Dec (x < block_rows ts roles) → head ts roles r x ≡ head ts roles r y
          on_loop x y e (yes h) = loop_on x y (part_row ts roles r x) h refl (sym (view_in x h) ∙ e)
          on_loop x y e (no h) = ap (head ts roles r) (same_loop (sym (view_out x (omega arith)) ∙ e))

          on_back : (x y : ℕ) → view_of ts roles r x ≡ v_back y → Dec (x < block_rows ts roles) → head ts roles r x ≡ head ts roles r y
          on_back x y e (yes h) = back_on x y (part_row ts roles r x) h refl (sym (view_in x h) ∙ e)
          on_back x y e (no h) = loop≢back (sym (view_out x (omega arith)) ∙ e)

    -- ---- the chain of a laid out action

    chain_none : (n : ℕ) → chain n ts roles r 0 ≡ []
    unfolding chain
    chain_none zero = refl
    chain_none (suc n) = refl

    pub chain_arm : (n i l c m : ℕ) → 0 < i → part_row ts roles r i ≡ Arm l c m → chain (suc n) ts roles r i ≡ arm_at l c ∷ chain n ts roles r m
    unfolding chain arm_then
    chain_arm n zero l c m h e = absurd (omega arith)
    chain_arm n (suc i) l c m h e = rw (e, arm_then)

    first_row : (i : ℕ) {ps : PartArms} → SomePart ps → next_arm i ps ≡ i
    unfolding next_arm
    first_row i some_part = refl

    mutual
      unfolding size next_arm

      pub encodes : {labels i : ℕ} {around : List ℕ} {P : Part} → Laid (part_row ts roles r) i around P → Sound roles labels r (length around) P
          → i + size P ≤ block_rows ts roles → Encodes (view_of ts roles r) i around P
      encodes {i = i} (l_end e) s h = e_end (view_row i _ (omega arith) e)
      encodes {i = i} (l_send e arms) (s_send g n one ss) h =
          e_send (view_row i _ (omega arith) e)
          (rw (first_row (suc i) one) at (encodes_arms arms ss (block_rows ts roles) (omega arith) (omega arith) (omega arith)))
      encodes {i = i} (l_receive e arms) (s_receive g n one ss) h =
          e_receive (view_row i _ (omega arith) e)
          (rw (first_row (suc i) one) at (encodes_arms arms ss (block_rows ts roles) (omega arith) (omega arith) (omega arith)))
      encodes {i = i} (l_loop e body) (s_loop acts s) h = e_loop (view_row i _ (omega arith) e) (encodes body s (omega arith))
      encodes {i = i} {around = around} (l_back {k = k} e) (s_back k<) h = e_back (view_row i _ (omega arith) e) (nth_get k around k<)

      encodes_arms : {labels i : ℕ} {around : List ℕ} {ps : PartArms} → LaidArms (part_row ts roles r) i around ps
          → SoundArms roles labels r (length around) ps → (n : ℕ) → 0 < i → i + size_arms ps ≤ block_rows ts roles → size_arms ps ≤ n
          → EncodesArms (view_of ts roles r) (chain n ts roles r (next_arm i ps)) around ps
      encodes_arms l_nil ss n pos h fuel = rw (chain_none n) ea_nil
      encodes_arms (l_arm e body arms) (s_arm g b s ss) zero pos h fuel = absurd (omega arith)
      encodes_arms {i = i} (l_arm {l = l} {P = P} {ps = ps} e body arms) (s_arm g b s ss) (suc n) pos h fuel =
          rw (chain_arm n i l (suc i) (next_arm (suc i + size P) ps) pos e)
          (ea_arm (encodes body s (omega arith)) (encodes_arms arms ss n (omega arith) (omega arith) (omega arith)))
