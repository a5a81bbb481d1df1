-- What the rows of actions say, over rows that are well formed for a step. Assumes nothing.
use Prim.Native.Nat.{ℕ, ◌<◌}
use mathlib.Core.Bool.{true, false, ◌&&◌, ◌||◌, not, true≢false}
use mathlib.Core.List.{List}
use mathlib.Core.Option.{some}
use mathlib.Core.Path.{◌≡◌, refl, sym, ◌∙◌}
use lib.Dec.{ltb, eqb}
use borrow.Author.Tests.{ltb-true, eq-eqb, not-true}
use Rattle.table.specs.Limits.{Limits}
use Rattle.table.proofs.Tests.{both}
use Rattle.blocks.specs.Block.{PartRow, End, Arm, Loop, Back, Send, Receive, Other, part_row, block_rows, is_arm}
use Rattle.blocks.specs.Head.{head, has_head, arms_of, find}
use Rattle.blocks.proofs.Sound as blocks
use Rattle.blocks.proofs.Sound.{Reached}
use Rattle.blocks.specs.Tables.{to_arm, is_peer, row_holds, row_good}

module _ (lim : Limits) (ts : List ℕ) (roles r : ℕ) where
  -- ---- what one row's test says

  first_link : (i f : ℕ) → to_arm ts roles r i f ≡ true → (i < f) × (f < block_rows ts roles) × (is_arm (part_row ts roles r f) ≡ true)
  first_link i f e =
      let (e₁, f₁) = both (ltb i f && ltb f (block_rows ts roles)) (is_arm (part_row ts roles r f)) e in
      let (e₂, f₂) = both (ltb i f) (ltb f (block_rows ts roles)) e₁ in
      (ltb-true i f e₂, ltb-true f (block_rows ts roles) f₂, f₁)

  -- a peer, and the first arm
  pub record Action (q f i : ℕ) : Type 0 where
    pub peer_in : q < roles
    pub peer_other : q ≡ r → ⊥
    pub first_above : i < f
    pub first_in : f < block_rows ts roles
    pub first_is : is_arm (part_row ts roles r f) ≡ true

  action_test : (i q f x : ℕ) → (is_peer roles r q && to_arm ts roles r i f && eqb x 0) ≡ true → Action q f i
  action_test i q f x e =
      let (e₁, f₁) = both (is_peer roles r q && to_arm ts roles r i f) (eqb x 0) e in
      let (e₂, f₂) = both (is_peer roles r q) (to_arm ts roles r i f) e₁ in
      let (e₃, f₃) = both (ltb q roles) (not (eqb q r)) e₂ in
      let (above, within, arm) = first_link i f f₂ in
      record {
        peer_in = ltb-true q roles e₃;
        peer_other = λ h. true≢false (sym (eq-eqb q r h) ∙ not-true (eqb q r) f₃);
        first_above = above;
        first_in = within;
        first_is = arm;
      }

  pub send_row : (i q f x : ℕ) → row_holds lim ts roles r i (Send q f x) ≡ true → Action q f i
  unfolding row_holds
  send_row i q f x e = action_test i q f x e

  pub receive_row : (i q f x : ℕ) → row_holds lim ts roles r i (Receive q f x) ≡ true → Action q f i
  unfolding row_holds
  receive_row i q f x e = action_test i q f x e

  first_no_arm : (w : PartRow) → row_holds lim ts roles r 0 w ≡ true → is_arm w ≡ false
  unfolding row_holds
  first_no_arm (End a b c) e = refl
  first_no_arm (Arm l c n) e = absurd (true≢false (sym e))
  first_no_arm (Loop b x y) e = refl
  first_no_arm (Back j x y) e = refl
  first_no_arm (Send q f x) e = refl
  first_no_arm (Receive q f x) e = refl
  first_no_arm Other e = refl

  -- ---- rows that are all well formed
  module _ (good : (x : ℕ) → x < block_rows ts roles → row_good lim ts roles r x ≡ true) where
    pub holds : (x : ℕ) → x < block_rows ts roles → row_holds lim ts roles r x (part_row ts roles r x) ≡ true
    holds x h = (both (row_holds lim ts roles r x (part_row ts roles r x)) (is_arm (part_row ts roles r x) || has_head ts roles r x) (good x h)).0

    pub head_in : (x : ℕ) → x < block_rows ts roles → head ts roles r x < block_rows ts roles
    head_in x h = blocks.head_in lim ts roles r holds x h

    pub first_row : 0 < block_rows ts roles → is_arm (part_row ts roles r 0) ≡ false
    first_row h = first_no_arm (part_row ts roles r 0) (holds 0 h)

    -- the arm of a chain that is found
    pub found_arm : (l c f : ℕ) → f < block_rows ts roles → find l (arms_of ts roles r f) ≡ some c → Reached lim ts roles r l c
    found_arm l c f h e = blocks.chain_found lim ts roles r holds l c (block_rows ts roles) f h e
