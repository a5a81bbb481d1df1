-- What good tables hold: sizes, rows, links, heads, arms. Assumes nothing.
use Prim.Native.Nat.{ℕ, zero, suc, ◌<◌}
use mathlib.Core.Bool.{Bool, true, false, cond, ◌&&◌, ◌||◌, not, true≢false}
use mathlib.Core.List.{List}
use mathlib.Core.Logic.{⊎_elim}
use mathlib.Core.Option.{Option, none, some}
use mathlib.Core.Path.{◌≡◌, refl, sym, ◌∙◌}
use lib.Dec.{eqb, ltb}
use native.Mathlib.Omega.{arith}
use borrow.Author.Tests.{ltb-true, eqb-true, eqb-false, not-true}
use Rattle.words.specs.Below.{every}
use Rattle.words.proofs.Below.{every_at}
use Rattle.table.specs.Limits.{Limits, base}
use Rattle.table.specs.Rules.{roles_broken}
use Rattle.blocks.specs.Block.{PartRow, End, Arm, Loop, Back, Send, Receive, Other, part_row, block_rows, is_arm, is_head, is_loop, label}
use Rattle.blocks.specs.Head.{onward, follow, head, arm_then, chain, arms_of, find}
use Rattle.blocks.specs.Tables.{tables_good, sizes_good, row_holds, row_good, to_arm, to_other, is_peer}
use Rattle.blocks.specs.mirror.Rows.{said}
use Rattle.blocks.specs.declared.rows.Row.{Row}
use Rattle.blocks.proofs.Walk.{Onward}
use Rattle.blocks.proofs.Good.{both, Sized}

either : (a b : Bool) → (a || b) ≡ true → (a ≡ false) → b ≡ true
either true b e f = absurd (true≢false f)
either false b e f = e

pub good_sized : (ts : List ℕ) (roles : ℕ) → tables_good base ts roles ≡ true → Sized ts roles (block_rows ts roles)
unfolding tables_good
good_sized ts roles e =
    let (ab, blocks) = both (not (roles_broken base roles) && sizes_good base ts roles) _ e in
    let (a, b) = both (not (roles_broken base roles)) (sizes_good base ts roles) ab in
    record { roles_good = not-true (roles_broken base roles) a; sizes_hold = b; rows_are = refl }

module _ (ts : List ℕ) (roles : ℕ) (good : tables_good base ts roles ≡ true) (r : ℕ) (present : r < roles) where
  row_good_lem : (i : ℕ) → i < block_rows ts roles → row_good base ts roles r i ≡ true
  unfolding tables_good
  row_good_lem i l =
      let (ab, blocks) = both (not (roles_broken base roles) && sizes_good base ts roles) _ good in
      every_at (λ k. row_good base ts roles r k) (block_rows ts roles) i
      (every_at (λ p. every (λ k. row_good base ts roles p k) (block_rows ts roles)) roles r blocks present) l

  pub row_holds_lem : (i : ℕ) → i < block_rows ts roles → row_holds base ts roles r i (part_row ts roles r i) ≡ true
  row_holds_lem i l = (both (row_holds base ts roles r i (part_row ts roles r i)) _ (row_good_lem i l)).0

  -- a row of the block that is no Arm has a head
  pub row_headed : (i : ℕ) → i < block_rows ts roles → is_arm (part_row ts roles r i) ≡ false → is_head (part_row ts roles r (head ts roles r i)) ≡ true
  row_headed i l f =
      either (is_arm (part_row ts roles r i)) (is_head (part_row ts roles r (head ts roles r i)))
      (both (row_holds base ts roles r i (part_row ts roles r i)) _ (row_good_lem i l)).1 f

-- what the links' tests say
module _ (ts : List ℕ) (roles r i j : ℕ) where
  pub to_arm_in : to_arm ts roles r i j ≡ true → j < block_rows ts roles
  to_arm_in e =
      let (ab, c) = both (ltb i j && ltb j (block_rows ts roles)) (is_arm (part_row ts roles r j)) e in
      ltb-true _ _ (both (ltb i j) (ltb j (block_rows ts roles)) ab).1

  pub to_other_in : to_other ts roles r i j ≡ true → (j < block_rows ts roles) × (is_arm (part_row ts roles r j) ≡ false)
  to_other_in e =
      let (ab, c) = both (ltb i j && ltb j (block_rows ts roles)) (not (is_arm (part_row ts roles r j))) e in
      (ltb-true _ _ (both (ltb i j) (ltb j (block_rows ts roles)) ab).1, not-true (is_arm (part_row ts roles r j)) c)

-- where a Loop and a Back that hold lead
module _ (lim : Limits) (ts : List ℕ) (roles r i : ℕ) where
  loop_inside : (b x y : ℕ) → row_holds lim ts roles r i (Loop b x y) ≡ true → b < block_rows ts roles
  unfolding row_holds
  loop_inside b x y h =
      (to_other_in ts roles r i b (both (to_other ts roles r i b) (eqb x 0) (both (to_other ts roles r i b && eqb x 0) (eqb y 0) h).0).0).0

  back_below : (j x y : ℕ) → row_holds lim ts roles r i (Back j x y) ≡ true → j < i
  unfolding row_holds
  back_below j x y h =
      let (abc, d) = both (ltb j i && is_loop (part_row ts roles r j) && eqb x 0) (eqb y 0) h in
      let (ab, c) = both (ltb j i && is_loop (part_row ts roles r j)) (eqb x 0) abc in
      ltb-true _ _ (both (ltb j i) (is_loop (part_row ts roles r j)) ab).0

  -- w holds and leads on to row j
  pub onward_inside : (w : Row) (j : ℕ) → i < block_rows ts roles → Onward w j → row_holds lim ts roles r i (said w) ≡ true → j < block_rows ts roles
  onward_inside w j l o h =
      ⊎_elim (λ (x, y, k). loop_inside j x y (rw k at h)) (λ (x, y, k). let low = back_below j x y (rw k at h) in omega arith) o

-- what a lookup of the label l found: l is a label, and the continuation c a row of the block that is no Arm
pub record Reached (lim : Limits) (ts : List ℕ) (roles r l c : ℕ) : Type 0 where
  pub low : l < lim.labels
  pub inside : c < block_rows ts roles
  pub no_arm : is_arm (part_row ts roles r c) ≡ false

none≢some : {c : ℕ} → ◌≡◌ {A = Option ℕ} none (some c) → ⊥
none≢some e = let z : ◌≡◌ {A = ℕ} 0 1 = cc in omega arith

same_some : {c d : ℕ} → ◌≡◌ {A = Option ℕ} (some d) (some c) → d ≡ c
same_some e = cc

module _ (lim : Limits) (ts : List ℕ) (roles r : ℕ) (holds : (i : ℕ) → i < block_rows ts roles → row_holds lim ts roles r i (part_row ts roles r i) ≡ true) where
  -- following stays in the block
  on_in : (n i : ℕ) (row : PartRow) → i < block_rows ts roles → ((j : ℕ) → j < block_rows ts roles → follow n ts roles r j < block_rows ts roles)
      → row_holds lim ts roles r i row ≡ true → onward (λ j. follow n ts roles r j) i row < block_rows ts roles
  unfolding onward
  on_in n i (End a b c) l ih h = l
  on_in n i (Arm k c m) l ih h = l
  on_in n i (Loop b x y) l ih h = ih b (loop_inside lim ts roles r i b x y h)
  on_in n i (Back j x y) l ih h = let low = back_below lim ts roles r i j x y h in ih j (omega arith)
  on_in n i (Send q f x) l ih h = l
  on_in n i (Receive q f x) l ih h = l
  on_in n i Other l ih h = l

  follow_in : (n i : ℕ) → i < block_rows ts roles → follow n ts roles r i < block_rows ts roles
  unfolding follow
  follow_in zero i l = l
  follow_in (suc n) i l = on_in n i (part_row ts roles r i) l (λ j m. follow_in n j m) (holds i l)

  pub head_in : (i : ℕ) → i < block_rows ts roles → head ts roles r i < block_rows ts roles
  unfolding head
  head_in i l = follow_in (block_rows ts roles) i l

  no_arms : (k n m : ℕ) → m ≡ 0 → find k (chain n ts roles r m) ≡ none
  unfolding find chain
  no_arms k zero m z = refl
  no_arms k (suc n) m z = rw (z, chain)

  -- the lookup's way along a chain: k is looked for, c is what is found, and n bounds the chain after this arm
  module _ (k c n : ℕ) (ih : (j : ℕ) → j < block_rows ts roles → find k (chain n ts roles r j) ≡ some c → Reached lim ts roles r k c) where
    next_found : (l i m : ℕ) (b : Bool) → eqb m 0 ≡ b → (eqb m 0 || to_arm ts roles r i m && ltb l (label (part_row ts roles r m))) ≡ true
        → find k (chain n ts roles r m) ≡ some c → Reached lim ts roles r k c
    next_found l i m true e t f = absurd (none≢some (sym (no_arms k n m (eqb-true m 0 e)) ∙ f))
    next_found l i m false e t f =
        ih m (to_arm_in ts roles r i m (both (to_arm ts roles r i m) (ltb l (label (part_row ts roles r m))) (either (eqb m 0) _ t e)).0) f

    here_found : (l d i m : ℕ) (b : Bool) → eqb k l ≡ b → row_holds lim ts roles r i (Arm l d m) ≡ true
        → cond b (some d) (find k (chain n ts roles r m)) ≡ some c → Reached lim ts roles r k c
    unfolding row_holds
    here_found l d i m b e h f =
        let (abc, next) = both (not (eqb i 0) && ltb l lim.labels && to_other ts roles r i d) (eqb m 0 || to_arm ts roles r i m && ltb l (label (part_row ts roles r m))) h in
        let (ab, other) = both (not (eqb i 0) && ltb l lim.labels) (to_other ts roles r i d) abc in
        let small : l < lim.labels = ltb-true _ _ (both (not (eqb i 0)) (ltb l lim.labels) ab).1 in
        let (inside, no_arm) = to_other_in ts roles r i d other in
        pick b e f small inside no_arm next
      where
        pick : (b : Bool) → eqb k l ≡ b → cond b (some d) (find k (chain n ts roles r m)) ≡ some c → l < lim.labels → d < block_rows ts roles
            → is_arm (part_row ts roles r d) ≡ false → (eqb m 0 || to_arm ts roles r i m && ltb l (label (part_row ts roles r m))) ≡ true → Reached lim ts roles r k c
        pick true e f small inside no_arm next =
            let same : k ≡ l = eqb-true k l e in
            rw (sym (same_some f)) record { low = rw same small; inside = inside; no_arm = no_arm }
        pick false e f small inside no_arm next = next_found l i m (eqb m 0) refl next f

    row_found : (i : ℕ) (row : PartRow) → row_holds lim ts roles r i row ≡ true → find k (arm_then (λ j. chain n ts roles r j) row) ≡ some c → Reached lim ts roles r k c
    unfolding find arm_then
    row_found i (End x y z) h f = absurd (none≢some f)
    row_found i (Arm l d m) h f = here_found l d i m (eqb k l) refl h f
    row_found i (Loop b x y) h f = absurd (none≢some f)
    row_found i (Back j x y) h f = absurd (none≢some f)
    row_found i (Send q x y) h f = absurd (none≢some f)
    row_found i (Receive q x y) h f = absurd (none≢some f)
    row_found i Other h f = absurd (none≢some f)

  pub chain_found : (k c n i : ℕ) → i < block_rows ts roles → find k (chain n ts roles r i) ≡ some c → Reached lim ts roles r k c
  unfolding find chain
  chain_found k c zero i l f = absurd (none≢some f)
  chain_found k c (suc n) zero l f = absurd (none≢some f)
  chain_found k c (suc n) (suc i) l f = row_found k c n (λ j m e. chain_found k c n j m e) (suc i) (part_row ts roles r (suc i)) (holds (suc i) l) f

  -- the arms of a Send or a Receive in the block
  pub sent_found : (i q f x k c : ℕ) → row_holds lim ts roles r i (Send q f x) ≡ true → find k (arms_of ts roles r f) ≡ some c → Reached lim ts roles r k c
  unfolding row_holds
  sent_found i q f x k c h e =
      chain_found k c (block_rows ts roles) f
      (to_arm_in ts roles r i f (both (is_peer roles r q) (to_arm ts roles r i f) (both (is_peer roles r q && to_arm ts roles r i f) (eqb x 0) h).0).1) e

  pub received_found : (i q f x k c : ℕ) → row_holds lim ts roles r i (Receive q f x) ≡ true → find k (arms_of ts roles r f) ≡ some c → Reached lim ts roles r k c
  unfolding row_holds
  received_found i q f x k c h e =
      chain_found k c (block_rows ts roles) f
      (to_arm_in ts roles r i f (both (is_peer roles r q) (to_arm ts roles r i f) (both (is_peer roles r q && to_arm ts roles r i f) (eqb x 0) h).0).1) e

-- the peer of an action is another role
peer_in : (roles r q : ℕ) → is_peer roles r q ≡ true → (q < roles) × (q ≡ r → ⊥)
peer_in roles r q e =
    let (a, b) = both (ltb q roles) (not (eqb q r)) e in (ltb-true _ _ a, eqb-false q r (not-true (eqb q r) b))

module _ (ts : List ℕ) (roles r i q f x : ℕ) where
  pub send_peer : row_holds base ts roles r i (Send q f x) ≡ true → (q < roles) × (q ≡ r → ⊥)
  unfolding row_holds
  send_peer h = peer_in roles r q (both (is_peer roles r q) (to_arm ts roles r i f) (both (is_peer roles r q && to_arm ts roles r i f) (eqb x 0) h).0).0

  pub receive_peer : row_holds base ts roles r i (Receive q f x) ≡ true → (q < roles) × (q ≡ r → ⊥)
  unfolding row_holds
  receive_peer h = peer_in roles r q (both (is_peer roles r q) (to_arm ts roles r i f) (both (is_peer roles r q && to_arm ts roles r i f) (eqb x 0) h).0).0
