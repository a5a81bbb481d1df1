-- Laws of the rows of a block: one step towards a head, one step along a chain. Assumes nothing.
use Prim.Native.Nat.{ℕ, zero, suc, ◌+◌, ◌-◌, ◌*◌, ◌<◌, ◌≤◌, min}
use mathlib.Core.Bool.{Bool, true, false, cond}
use mathlib.Core.List.{List, [], ◌∷◌}
use mathlib.Core.Logic.{◌⊎◌, ⊎_elim}
use mathlib.Core.Path.{◌≡◌, refl, sym, ◌∙◌, ap}
use mathlib.Core.Option.{some}
use lib.Dec.{eqb}
use native.Mathlib.Omega.{arith}
use borrow.Author.Tests.{eq-eqb, ne_eqb}
use Rattle.std.specs.Prelude.{Ok, Err}
use Rattle.blocks.specs.Block.{PartRow, part_row, block_rows, is_arm, is_head}
use Rattle.blocks.specs.Head.{onward, follow, head, arm_then, chain, arms_of, find, lowest_label, ArmAt}
use Rattle.blocks.specs.mirror.Rows.{said, row_at, follow_at, chain_at, found_of, lookup}
use Rattle.blocks.specs.declared.rows.Row.{Row}
use Rattle.blocks.specs.declared.rows.Row.TheVariants.{End, Arm, Loop, Back, Send, Receive, Other}

-- a row that is no Loop and no Back is where following stays
pub onward_stays : (go : ℕ → ℕ) (i : ℕ) (w : Row) → ((b x y : ℕ) → w ≡ Loop b x y → ⊥) → ((j x y : ℕ) → w ≡ Back j x y → ⊥) → onward go i (said w) ≡ i
unfolding onward
onward_stays go i (End a b c) h g = refl
onward_stays go i (Arm l c n) h g = refl
onward_stays go i (Loop b x y) h g = absurd (h b x y refl)
onward_stays go i (Back j x y) h g = absurd (g j x y refl)
onward_stays go i (Send q f x) h g = refl
onward_stays go i (Receive q f x) h g = refl
onward_stays go i (Other k a b c) h g = refl

-- a row that is no Arm ends a chain
pub chain_ends : (more : ℕ → List ArmAt) (w : Row) → ((l c n : ℕ) → w ≡ Arm l c n → ⊥) → arm_then more (said w) ≡ []
unfolding arm_then
chain_ends more (End a b c) h = refl
chain_ends more (Arm l c n) h = absurd (h l c n refl)
chain_ends more (Loop b x y) h = refl
chain_ends more (Back j x y) h = refl
chain_ends more (Send q f x) h = refl
chain_ends more (Receive q f x) h = refl
chain_ends more (Other k a b c) h = refl

-- w is row i of role r's block, and n is one more than m
pub follow_step : (ts : List ℕ) (roles r : ℕ) {n m : ℕ} (i : ℕ) (w : Row) → n ≡ suc m → said w ≡ part_row ts roles r i
    → follow n ts roles r i ≡ onward (λ j. follow m ts roles r j) i (said w)
unfolding follow
follow_step ts roles r i w e read = rw (e, read)

-- w is row i of the block that begins at `start`, and n is one more than m
pub step_at : (ts : List ℕ) (start : ℕ) {n m : ℕ} (i : ℕ) (w : Row) → n ≡ suc m → said w ≡ row_at ts start i
    → follow_at n ts start i ≡ onward (λ j. follow_at m ts start j) i (said w)
unfolding follow_at
step_at ts start i w e read = rw (e, read)

-- w is a Loop or a Back, and leads on to row j
abbrev pub Onward : Row → ℕ → Type 0
Onward w j = ((x : ℕ) × (y : ℕ) × (w ≡ Loop j x y)) ⊎ ((x : ℕ) × (y : ℕ) × (w ≡ Back j x y))

-- such a row is no Arm and no head
pub onward_kind : (w : Row) (j : ℕ) → Onward w j → (is_arm (said w) ≡ false) × (is_head (said w) ≡ false)
onward_kind w j = ⊎_elim (λ (x, y, e). rw e (refl, refl)) (λ (x, y, e). rw e (refl, refl))

pub follow_on : (ts : List ℕ) (roles r : ℕ) {n m : ℕ} (i j : ℕ) (w : Row) → n ≡ suc m → said w ≡ part_row ts roles r i → Onward w j
    → follow n ts roles r i ≡ follow m ts roles r j
unfolding onward
follow_on ts roles r i j w e read = ⊎_elim (λ (x, y, k). follow_step ts roles r i w e read ∙ rw k) (λ (x, y, k). follow_step ts roles r i w e read ∙ rw k)

pub on_at : (ts : List ℕ) (start : ℕ) {n m : ℕ} (i j : ℕ) (w : Row) → n ≡ suc m → said w ≡ row_at ts start i → Onward w j
    → follow_at n ts start i ≡ follow_at m ts start j
unfolding onward
on_at ts start i j w e read = ⊎_elim (λ (x, y, k). step_at ts start i w e read ∙ rw k) (λ (x, y, k). step_at ts start i w e read ∙ rw k)

chain_more : (ts : List ℕ) (start m i : ℕ) → (i ≡ 0 → ⊥) → chain_at (suc m) ts start i ≡ arm_then (λ j. chain_at m ts start j) (row_at ts start i)
unfolding chain_at
chain_more ts start m zero h = absurd (h refl)
chain_more ts start m (suc i) h = refl

-- w is row i of the block that begins at `start`, and k rows of n were met before it
module _ (ts : List ℕ) (start n k i : ℕ) (w : Row) (turning : k < n) (read : said w ≡ row_at ts start i) (z : i ≡ 0 → ⊥) where
  chain_step : chain_at (n - k) ts start i ≡ arm_then (λ j. chain_at (n - (k + 1)) ts start j) (said w)
  chain_step = let e : n - k ≡ suc (n - (k + 1)) = omega arith in rw (e, read) (chain_more ts start (n - (k + 1)) i z)

  pub lookup_ends : (l least : ℕ) → ((l c n : ℕ) → w ≡ Arm l c n → ⊥) → lookup l least (chain_at (n - k) ts start i) ≡ Err least
  unfolding lookup
  lookup_ends l least h = rw (chain_step, chain_ends (λ j. chain_at (n - (k + 1)) ts start j) w h)

  -- the row is an Arm
  module _ (a c x : ℕ) (arm : w ≡ Arm a c x) (l least : ℕ) where
    arm_read : chain_at (n - k) ts start i ≡ record { label = a; continuation = c } ∷ chain_at (n - (k + 1)) ts start x
    unfolding arm_then
    arm_read = chain_step ∙ rw arm

    pub lookup_here : a ≡ l → lookup l least (chain_at (n - k) ts start i) ≡ Ok c
    unfolding lookup
    lookup_here h = rw (arm_read, h, eq-eqb l l refl)

    pub lookup_on : (a ≡ l → ⊥) → lookup l least (chain_at (n - k) ts start i) ≡ lookup l (min least a) (chain_at (n - (k + 1)) ts start x)
    unfolding lookup
    lookup_on h = rw (arm_read, lookup, ne_eqb l a (λ q. h (sym q)))

-- every row was met
pub chain_met : (ts : List ℕ) (start n k i : ℕ) → n ≤ k → chain_at (n - k) ts start i ≡ []
unfolding chain_at
chain_met ts start n k i le = let e : n - k ≡ 0 = omega arith in rw (e, chain_at)

pub chain_none : (ts : List ℕ) (start n i : ℕ) → i ≡ 0 → chain_at n ts start i ≡ []
unfolding chain_at
chain_none ts start zero i e = refl
chain_none ts start (suc n) i e = rw (e, chain_at)

-- ---- the head and the chain of a role's block

onward_ext : (f g : ℕ → ℕ) → ((j : ℕ) → f j ≡ g j) → (i : ℕ) (row : PartRow) → onward f i row ≡ onward g i row
unfolding onward
onward_ext f g h i (PartRow.End a b c) = refl
onward_ext f g h i (PartRow.Arm l c n) = refl
onward_ext f g h i (PartRow.Loop b x y) = h b
onward_ext f g h i (PartRow.Back j x y) = h j
onward_ext f g h i (PartRow.Send q a x) = refl
onward_ext f g h i (PartRow.Receive q a x) = refl
onward_ext f g h i PartRow.Other = refl

arm_then_ext : (f g : ℕ → List ArmAt) → ((j : ℕ) → f j ≡ g j) → (row : PartRow) → arm_then f row ≡ arm_then g row
unfolding arm_then
arm_then_ext f g h (PartRow.End a b c) = refl
arm_then_ext f g h (PartRow.Arm l c n) = ap (λ (arms : List ArmAt). record { label = l; continuation = c } ∷ arms) (h n)
arm_then_ext f g h (PartRow.Loop b x y) = refl
arm_then_ext f g h (PartRow.Back j x y) = refl
arm_then_ext f g h (PartRow.Send q a x) = refl
arm_then_ext f g h (PartRow.Receive q a x) = refl
arm_then_ext f g h PartRow.Other = refl

module _ (ts : List ℕ) (roles r : ℕ) where
  follow_at_lem : (n i : ℕ) → follow n ts roles r i ≡ follow_at n ts (r * block_rows ts roles) i
  unfolding follow follow_at
  follow_at_lem zero i = refl
  follow_at_lem (suc n) i = onward_ext (λ j. follow n ts roles r j) (λ j. follow_at n ts (r * block_rows ts roles) j) (λ j. follow_at_lem n j) i (part_row ts roles r i)

  pub head_at : (i : ℕ) → head ts roles r i ≡ follow_at (block_rows ts roles) ts (r * block_rows ts roles) i
  unfolding head
  head_at i = follow_at_lem (block_rows ts roles) i

  chain_at_lem : (n i : ℕ) → chain n ts roles r i ≡ chain_at n ts (r * block_rows ts roles) i
  unfolding chain chain_at
  chain_at_lem zero i = refl
  chain_at_lem (suc n) zero = refl
  chain_at_lem (suc n) (suc i) = arm_then_ext (λ j. chain n ts roles r j) (λ j. chain_at n ts (r * block_rows ts roles) j) (λ j. chain_at_lem n j) (part_row ts roles r (suc i))

  pub arms_at : (first : ℕ) → arms_of ts roles r first ≡ chain_at (block_rows ts roles) ts (r * block_rows ts roles) first
  arms_at first = chain_at_lem (block_rows ts roles) first

-- one walk finds the arm, or the lowest label
pub lookup_is : (l k : ℕ) (arms : List ArmAt) → lookup l k arms ≡ found_of (find l arms) (lowest_label k arms)
unfolding lookup find lowest_label
lookup_is l k [] = refl
lookup_is l k (a ∷ as') = go (eqb l a.label) (lookup_is l (min k a.label) as')
  where
    go : (b : Bool) → lookup l (min k a.label) as' ≡ found_of (find l as') (lowest_label (min k a.label) as')
        → cond b (Ok a.continuation) (lookup l (min k a.label) as') ≡ found_of (cond b (some a.continuation) (find l as')) (lowest_label (min k a.label) as')
    go true h = refl
    go false h = h
