-- The tests of a call: what a call stands on where no test of rules 12 to 14 refused it. Assumes nothing.
use Prim.Native.Nat.{ℕ, ◌<◌, ◌≤◌}
use mathlib.Core.Bool.{Bool, true, false, cond, not}
use mathlib.Core.List.{List}
use mathlib.Core.Path.{◌≡◌, refl, sym}
use native.Mathlib.Omega.{arith}
use borrow.Author.Tests.{not-false}
use Rattle.std.specs.Prelude.{Result, Ok, Err}
use Rattle.table.specs.Limits.{base}
use Rattle.blocks.specs.Block.{block_rows}
use Rattle.blocks.specs.Tables.{tables_good}
use Rattle.state.specs.State as lists
use Rattle.state.specs.State.{are_pair, state_good}
use Rattle.state.specs.declared.Refusal.{Refusal}
use Rattle.state.specs.declared.Refusal.TheVariants.{Tables, State, Party}
use Rattle.state.specs.mirror.Judged.{grounded, judged, ground_of, paired_of}
use Rattle.blocks.proofs.Good.{sized_bounds}
use Rattle.blocks.proofs.Sound.{good_sized}
use Rattle.state.proofs.Sound.{pair_in}

-- ---- a test that did not refuse

pub ok≢err : {A B : Type 0} {a : A} {e : B} → ◌≡◌ {A = Result A B} (Err e) (Ok a) → ⊥
ok≢err e = let z : ◌≡◌ {A = ℕ} 0 1 = cc in omega arith

pub same_ok : {A B : Type 0} {a b : A} → ◌≡◌ {A = Result A B} (Ok a) (Ok b) → a ≡ b
same_ok e = cc

pub same_err : {A B : Type 0} {a b : B} → ◌≡◌ {A = Result A B} (Err a) (Err b) → a ≡ b
same_err e = cc

pub passes : {A : Type 0} (b : Bool) (x : Refusal) (rest : Result A Refusal) {a : A} → cond b (Err x) rest ≡ Ok a → (b ≡ false) × (rest ≡ Ok a)
passes true x rest e = absurd (ok≢err e)
passes false x rest e = (refl, e)

-- a refusal by rules 12 to 14 is the same whatever comes behind them
refused : {A B : Type 0} (t u v : Bool) (a : A) (rest : Result B Refusal) {e : Refusal}
    → Err e ≡ cond t (Err Tables) (cond u (Err State) (cond v (Err Party) (Ok a))) → Err e ≡ cond t (Err Tables) (cond u (Err State) (cond v (Err Party) rest))
refused true u v a rest f = cc
refused false true v a rest f = cc
refused false false true a rest f = cc
refused false false false a rest f = absurd (ok≢err f)

-- ---- rules 12 and 13

-- what a call that rules 12 and 13 let pass stands on
pub record Stood (ts : List ℕ) (roles : ℕ) (s : lists.State) : Type 0 where
  pub tables_hold : tables_good base ts roles ≡ true
  pub state_holds : state_good base ts roles s ≡ true

module _ (ts : List ℕ) (roles : ℕ) (s : lists.State) where
  pub grounded_ok : {A : Type 0} (rest : Result A Refusal) {a : A} → grounded base ts roles s rest ≡ Ok a → Stood ts roles s × (rest ≡ Ok a)
  grounded_ok rest e =
      let (a, e1) = passes (not (tables_good base ts roles)) Tables _ e in
      let (b, e2) = passes (not (state_good base ts roles s)) State _ e1 in
      (record { tables_hold = not-false _ a; state_holds = not-false _ b }, e2)

  pub ground_stands : Ok tt ≡ ground_of base ts roles s → Stood ts roles s
  ground_stands e = (grounded_ok (Ok tt) (sym e)).0

  pub grounded_err : {B : Type 0} (rest : Result B Refusal) {e : Refusal} → Err e ≡ ground_of base ts roles s → Err e ≡ grounded base ts roles s rest
  grounded_err rest f = refused (not (tables_good base ts roles)) (not (state_good base ts roles s)) false tt rest f

  pub grounded_rest : {B : Type 0} (rest : Result B Refusal) → Ok tt ≡ ground_of base ts roles s → rest ≡ grounded base ts roles s rest
  grounded_rest rest e = let st = ground_stands e in rw (st.tables_hold, st.state_holds)

  pub stood_roles : Stood ts roles s → (2 ≤ roles) × (roles ≤ 8)
  stood_roles st = let b = sized_bounds ts roles (block_rows ts roles) (good_sized ts roles st.tables_hold) in (b.0, b.1)

-- ---- rule 14

module _ (ts : List ℕ) (roles p q : ℕ) (s : lists.State) where
  pub judged_ok : {A : Type 0} (rest : Result A Refusal) {a : A} → judged base ts roles p q s rest ≡ Ok a
      → Stood ts roles s × (are_pair roles p q ≡ true) × (rest ≡ Ok a)
  judged_ok rest e =
      let (st, e1) = grounded_ok ts roles s _ e in
      let (two, e2) = passes (not (are_pair roles p q)) Party rest e1 in
      (st, not-false _ two, e2)

  pub judged_err : {B : Type 0} (rest : Result B Refusal) {e : Refusal} → Err e ≡ paired_of base ts roles p q s → Err e ≡ judged base ts roles p q s rest
  judged_err rest f =
      refused (not (tables_good base ts roles)) (not (state_good base ts roles s)) (not (are_pair roles p q)) tt rest f

  pub judged_rest : {B : Type 0} (rest : Result B Refusal) → Ok tt ≡ paired_of base ts roles p q s → rest ≡ judged base ts roles p q s rest
  judged_rest rest e = let (st, two, same) = judged_ok (Ok tt) (sym e) in rw (st.tables_hold, st.state_holds, two)

  -- the two roles of a pair
  pub paired_low : Ok tt ≡ paired_of base ts roles p q s → (p < roles) × (q < roles) × (p < 8) × (q < 8)
  paired_low e =
      let (st, two, same) = judged_ok (Ok tt) (sym e) in
      let b = stood_roles ts roles s st in
      let i = pair_in roles p q two in
      (i.0, i.1, omega (arith, b.1, i.0), omega (arith, b.1, i.1))
