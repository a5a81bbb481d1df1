-- A record whose set is the engine's awaited answer charges exactly the roles that could act. Assumes nothing.
use Prim.Native.Nat.{ℕ, ◌^◌, ◌≤◌, ◌<◌}
use mathlib.Core.Bool.{Bool, true, false, cond, not, ◌&&◌, and-false}
use mathlib.Core.List.{List}
use mathlib.Core.Logic.{◌≢◌}
use mathlib.Core.Path.{◌≡◌, refl, sym, ap, ◌∙◌}
use native.Mathlib.Nat.{zero-div}
use native.Mathlib.Omega.{arith}
use lib.Dec.{ltb, eqb}
use borrow.Author.Tests.{eqb-true, eqb-false, ltb-true, ltb-false, not-true}
use Rattle.words.specs.Below.{every, one, how_many, set_of}
use Rattle.words.proofs.Below.{and_both, or_neither, sum_zero, sum_at, sum_two}
use Rattle.table.specs.Limits.{Limits, base}
use Rattle.table.specs.Rules.{roles_broken}
use Rattle.blocks.specs.Block.{block_rows}
use Rattle.blocks.specs.Tables.{row_good, sizes_good, tables_good}
use Rattle.session.specs.State.{state_good}
use Rattle.session.specs.Awaited.{is_awaited, awaited_of}
use Rattle.session.specs.Promises.{Awaits}
use Rattle.session.specs.declared.Session.{Session}
use Rattle.session.specs.Answers.{Awaiting}
use Rattle.session.proofs.Accepted.{HasCall, awaited_acts, acts_awaited}
use Rattle.hours.specs.declared.Record.{Record}
use Rattle.hours.specs.Records.{at, spans, covers, roles_in, is_alone, is_nobody, alone}
use Rattle.hours.specs.Charges.{Charges, Unawaited}
use Rattle.hours.proofs.Sets.{in_set, many_in}

-- a record of any set of roles of the session
pub set_charges : (lim : Limits) (p : ℕ → Bool) (n : ℕ) → n ≤ lim.roles → (r : Record) → r.set ≡ set_of p n → Charges lim p n r
set_charges lim p n l r e =
    let many : roles_in lim r.set ≡ how_many p n = rw e (many_in p n lim.roles l) in
    record {
      alone = λ k. rw (many, e, in_set p n k);
      several = rw many;
      nobody = rw many;
    }

-- ---- the engine's awaited answer

module _ (lim : Limits) (ts : List ℕ) (roles : ℕ) (s : Session) where
  abbrev awaits : ℕ → Bool
  awaits = is_awaited lim ts roles s

  -- well formed tables have no more roles than the limit
  few_roles : tables_good lim ts roles ≡ true → roles ≤ lim.roles
  unfolding tables_good
  few_roles e =
      let sizes = (and_both (not (roles_broken lim roles) && sizes_good lim ts roles) (every (λ r. every (λ i. row_good lim ts roles r i) (block_rows ts roles)) roles) e).0 in
      let counted = (and_both (not (roles_broken lim roles)) (sizes_good lim ts roles) sizes).0 in
      ltb-false lim.roles roles (or_neither (ltb roles 2) (ltb lim.roles roles) (not-true (roles_broken lim roles) counted)).1

  pub record Asked (a : Awaiting) : Type 0 where
    pub tables : tables_good lim ts roles ≡ true
    pub state : state_good lim ts roles s ≡ true
    pub set : a.set ≡ set_of awaits roles

  -- accepted, the set is that of the awaited roles; refused, it is empty
  asked : (awaited_of lim ts roles s).number ≡ 0 → Asked (awaited_of lim ts roles s)
  unfolding awaited_of
  asked = by_tests (tables_good lim ts roles) (state_good lim ts roles s) refl refl
    where
      by_tests : (a b : Bool) → tables_good lim ts roles ≡ a → state_good lim ts roles s ≡ b → (awaited_of lim ts roles s).number ≡ 0 → Asked (awaited_of lim ts roles s)
      by_tests false b e f n = absurd (omega (arith, rw e at n))
      by_tests true false e f n = absurd (omega (arith, rw (e, f) at n))
      by_tests true true e f n = record { tables = e; state = f; set = rw (e, f) }

  -- a record of that answer's set
  pub engine_charges : (a : Awaiting) → Awaits lim ts roles s a → a.number ≡ 0 → (r : Record) → r.set ≡ a.set → Charges lim awaits roles r
  engine_charges a e n r same =
      let k = asked (ap (λ (x : Awaiting). x.number) (sym e) ∙ n) in
      set_charges lim awaits roles (few_roles k.tables) r (same ∙ ap (λ (x : Awaiting). x.set) e ∙ k.set)

  -- the empty set of a refused answer awaits nobody
  refused_set : (awaited_of lim ts roles s).number ≢ 0 → (awaited_of lim ts roles s).set ≡ 0
  unfolding awaited_of
  refused_set = by_tests (tables_good lim ts roles) (state_good lim ts roles s) refl refl
    where
      by_tests : (a b : Bool) → tables_good lim ts roles ≡ a → state_good lim ts roles s ≡ b → (awaited_of lim ts roles s).number ≢ 0 → (awaited_of lim ts roles s).set ≡ 0
      by_tests false b e f n = rw e
      by_tests true false e f n = rw (e, f)
      by_tests true true e f n = absurd (n (rw (e, f)))

-- ---- a role that is not awaited is never charged alone

pub never_alone : (lim : Limits) (k : ℕ) (r : Record) → Unawaited lim k r → is_alone lim k r ≡ false
never_alone lim k r u = by_number (eqb u.answer.number 0) refl
  where
    absent : (b : Bool) → ltb k u.roles ≡ b → u.answer.number ≡ 0 → (b && is_awaited lim u.tables u.roles u.state k) ≡ false
    absent true e n = u.not_awaited n (ltb-true k u.roles e)
    absent false e n = refl

    by_number : (b : Bool) → eqb u.answer.number 0 ≡ b → is_alone lim k r ≡ false
    by_number true e =
        let n = eqb-true u.answer.number 0 e in
        (engine_charges lim u.tables u.roles u.state u.answer u.promised n r u.same).alone k
        ∙ rw (absent (ltb k u.roles) refl n) (and-false r.awake)
    by_number false e =
        let z = refused_set lim u.tables u.roles u.state (λ n. eqb-false u.answer.number 0 e (ap (λ (x : Awaiting). x.number) u.promised ∙ n)) in
        let s : r.set ≡ 0 = u.same ∙ ap (λ (x : Awaiting). x.set) u.promised ∙ z in
        rw (s, zero-div (2 ^ k)) (and-false r.awake)

pub never_charged : (lim : Limits) (k : ℕ) (rs : List Record) → ((i : ℕ) → i < spans rs → Unawaited lim k (at rs i)) → alone lim k rs ≡ 0
never_charged lim k rs h =
    sum_zero (λ i. cond (is_alone lim k (at rs i)) (covers rs i) 0) (spans rs) (λ i l. rw (never_alone lim k (at rs i) (h i l)))

-- ---- the same by the calls themselves

module _ (ts : List ℕ) (roles : ℕ) (s : Session) (a : Awaiting) (promised : Awaits base ts roles s a) (accepted : a.number ≡ 0) (r : Record) (same : r.set ≡ a.set) where
  abbrev acts : ℕ → Bool
  acts = is_awaited base ts roles s

  charged : Charges base acts roles r
  charged = engine_charges base ts roles s a promised accepted r same

  known : Asked base ts roles s (awaited_of base ts roles s)
  known = asked base ts roles s (ap (λ (x : Awaiting). x.number) (sym promised) ∙ accepted)

  -- charged alone: that role, and no other, has a call that would be accepted
  pub alone_acts : (k : ℕ) → is_alone base k r ≡ true → (k < roles) × HasCall ts roles s k × ((j : ℕ) → j < roles → HasCall ts roles s j → j ≡ k)
  alone_acts k e =
      let all = (and_both r.awake ((ltb k roles && acts k) && eqb (how_many acts roles) 1) (sym (charged.alone k) ∙ e)).1 in
      let (here, single) = and_both (ltb k roles && acts k) (eqb (how_many acts roles) 1) all in
      let (inside, can) = and_both (ltb k roles) (acts k) here in
      let l = ltb-true k roles inside in
      (l, awaited_acts ts roles s known.tables known.state k l can, (λ j m c. only j m (acts_awaited ts roles s j c) can l (eqb-true (how_many acts roles) 1 single)))
    where
      both_one : (i j : ℕ) → i < j → j < roles → acts i ≡ true → acts j ≡ true → how_many acts roles ≡ 1 → ⊥
      both_one i j l m x y c =
          let t = sum_two (λ n. one (acts n)) roles i j l m in
          let x' = ap one x in
          let y' = ap one y in
          absurd (omega (arith, t, x', y', c))

      only : (j : ℕ) → j < roles → acts j ≡ true → acts k ≡ true → k < roles → how_many acts roles ≡ 1 → j ≡ k
      only j m x y l c = by_tests (ltb j k) (ltb k j) refl refl
        where
          by_tests : (d e : Bool) → ltb j k ≡ d → ltb k j ≡ e → j ≡ k
          by_tests true e f g = absurd (both_one j k (ltb-true j k f) l x y c)
          by_tests false true f g = absurd (both_one k j (ltb-true k j g) m y x c)
          by_tests false false f g = omega (arith, ltb-false j k f, ltb-false k j g)

  -- charged to nobody: no role has one
  pub nobody_acts : is_nobody base r ≡ true → (j : ℕ) → j < roles → HasCall ts roles s j → ⊥
  nobody_acts e j m c =
      let none = (and_both r.awake (eqb (how_many acts roles) 0) (sym charged.nobody ∙ e)).1 in
      let t = sum_at (λ n. one (acts n)) roles j m in
      let x = ap one (acts_awaited ts roles s j c) in
      absurd (omega (arith, t, x, eqb-true (how_many acts roles) 0 none))
