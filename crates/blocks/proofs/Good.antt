-- Laws of rule 12: a row that is followed, and what good tables hold. Assumes nothing.
use Prim.Native.Nat.{ℕ, ◌*◌, ◌<◌, ◌≤◌}
use mathlib.Core.Bool.{Bool, true, false, cond, ◌&&◌, ◌||◌, not, or-true, true≢false}
use mathlib.Core.List.{List}
use mathlib.Core.Path.{◌≡◌, refl, sym}
use lib.Dec.{eqb, ltb, leb}
use lib.ListN.{length}
use native.Mathlib.Omega.{arith}
use borrow.Author.Tests.{ltb-false, ltb-true, eqb-true, leb-true}
use Rattle.std.specs.Prelude.{Option, Some, None}
use Rattle.words.specs.Below.{every}
pub use Rattle.words.proofs.Below.{and_both as both}
use Rattle.words.proofs.Below.{or_neither}
use Rattle.table.specs.Limits.{base}
use Rattle.table.specs.Rules.{roles_broken}
use Rattle.blocks.specs.Block.{part_row, block_rows, is_arm, is_head}
use Rattle.blocks.specs.Head.{head}
use Rattle.blocks.specs.Tables.{row_holds, row_good, tables_good, sizes_good}
use Rattle.blocks.specs.mirror.Rows.{said}
use Rattle.blocks.specs.mirror.Tables.{sized_rows}
use Rattle.blocks.specs.mirror.Heads.{has_head_in}
use Rattle.blocks.specs.declared.rows.Row.{Row}
use Rattle.blocks.specs.declared.rows.Row.TheVariants.{End, Arm, Loop, Back, Send, Receive, Other}
use Rattle.blocks.proofs.Far.{stays}

pub roles_in_lem : (roles : ℕ) → roles_broken base roles ≡ false → (2 ≤ roles) × (roles ≤ 8)
roles_in_lem roles e = let (a, b) = or_neither (ltb roles 2) (ltb 8 roles) e in (ltb-false roles 2 a, ltb-false 8 roles b)

module _ (ts : List ℕ) (roles r i : ℕ) where
  stands_alone : (w : Row) → row_holds base ts roles r i (said w) ≡ true → ((b x y : ℕ) → w ≡ Loop b x y → ⊥) → ((j x y : ℕ) → w ≡ Back j x y → ⊥)
      → (is_arm (said w) || is_head (said w)) ≡ true
  unfolding row_holds
  stands_alone (End a b c) e h g = refl
  stands_alone (Arm l c n) e h g = refl
  stands_alone (Loop b x y) e h g = absurd (h b x y refl)
  stands_alone (Back j x y) e h g = absurd (g j x y refl)
  stands_alone (Send q f x) e h g = refl
  stands_alone (Receive q f x) e h g = refl
  stands_alone (Other k a b c) e h g = absurd (true≢false (sym e))

  -- w is row i
  module _ (w : Row) (read : said w ≡ part_row ts roles r i) where
    pub good_not : row_holds base ts roles r i (said w) ≡ false → row_good base ts roles r i ≡ false
    good_not e = rw (← read, e)

    pub good_headed : row_holds base ts roles r i (said w) ≡ true → has_head_in (block_rows ts roles) ts roles r i ≡ true → row_good base ts roles r i ≡ true
    unfolding head
    good_headed e h = rw (h, ← read, e) (or-true (is_arm (said w)))

    -- a row that is no Loop and no Back is its own head, and is a head if it holds and is no Arm
    pub good_alone : row_holds base ts roles r i (said w) ≡ true → ((b x y : ℕ) → w ≡ Loop b x y → ⊥) → ((j x y : ℕ) → w ≡ Back j x y → ⊥)
        → row_good base ts roles r i ≡ true
    unfolding head
    good_alone e h g = rw (stays ts roles r i read h g (block_rows ts roles), ← read, e) (stands_alone w e h g)

some≢none : {n : ℕ} → Some n ≡ None → ⊥
some≢none e = let z : ◌≡◌ {A = ℕ} 0 1 = cc in omega arith

same_some : {m n : ℕ} → Some m ≡ Some n → m ≡ n
same_some e = cc

-- what the sizes say
pub record Sized (ts : List ℕ) (roles rows : ℕ) : Type 0 where
  pub roles_good : roles_broken base roles ≡ false
  pub sizes_hold : sizes_good base ts roles ≡ true
  pub rows_are : rows ≡ block_rows ts roles

pub sized_some : (ts : List ℕ) (roles rows : ℕ) → Some rows ≡ sized_rows base ts roles → Sized ts roles rows
sized_some ts roles rows e = sized (roles_broken base roles) (sizes_good base ts roles) refl refl e
  where
    sized : (a b : Bool) → roles_broken base roles ≡ a → sizes_good base ts roles ≡ b → Some rows ≡ cond (not a && b) (Some (block_rows ts roles)) None
        → Sized ts roles rows
    sized true b f g e = absurd (some≢none e)
    sized false true f g e = record { roles_good = f; sizes_hold = g; rows_are = same_some e }
    sized false false f g e = absurd (some≢none e)

pub sized_none : (ts : List ℕ) (roles : ℕ) → ◌≡◌ {A = Option ℕ} None (sized_rows base ts roles) → tables_good base ts roles ≡ false
unfolding tables_good
sized_none ts roles e = sized (not (roles_broken base roles) && sizes_good base ts roles) refl e
  where
    sized : (b : Bool) → (not (roles_broken base roles) && sizes_good base ts roles) ≡ b → ◌≡◌ {A = Option ℕ} None (cond b (Some (block_rows ts roles)) None)
        → tables_good base ts roles ≡ false
    sized true f e = absurd (some≢none (sym e))
    sized false f e = rw f

-- the numbers of good sizes
pub sized_bounds : (ts : List ℕ) (roles rows : ℕ) → Sized ts roles rows → (2 ≤ roles) × (roles ≤ 8) × (0 < rows) × (rows ≤ 256) × (roles * rows * 4 ≡ length ts)
sized_bounds ts roles rows s =
    let (lo, hi) = roles_in_lem roles s.roles_good in
    let (ab, most) = both (eqb (roles * block_rows ts roles * 4) (length ts) && ltb 0 (block_rows ts roles)) (leb (block_rows ts roles) 256) s.sizes_hold in
    let (len, some) = both (eqb (roles * block_rows ts roles * 4) (length ts)) (ltb 0 (block_rows ts roles)) ab in
    rw s.rows_are (lo, hi, ltb-true _ _ some, leb-true _ _ most, eqb-true _ _ len)

-- good tables are good sizes and good blocks
pub tables_are : (ts : List ℕ) (roles rows : ℕ) → Sized ts roles rows
    → tables_good base ts roles ≡ every (λ p. every (λ i. row_good base ts roles p i) (block_rows ts roles)) roles
unfolding tables_good
tables_are ts roles rows s = rw (s.roles_good, s.sizes_hold)
