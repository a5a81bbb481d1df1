-- The parts of a table that the check accepts, one after the other on the stack. Assumes nothing.
use Prim.Native.Nat.{ℕ, ◌+◌, ◌*◌, ◌<◌, ◌≤◌}
use mathlib.Core.Bool.{true, false}
use mathlib.Core.List.{List, [], ◌++◌}
use mathlib.Core.Option.{Option, none, some}
use mathlib.Core.Path.{◌≡◌, refl, sym, ◌∙◌, ap, subst}
use native.Mathlib.Nat.{mul-le-mul, mul-le-mul_right, suc-mul}
use native.Mathlib.Numerals.{add-one}
use native.Mathlib.Omega.{arith}
use lib.ListN.{length, length-append}
use Rattle.words.specs.Rows.{rows_of}
use Rattle.table.specs.Tree.{Global, Arms, tree_of, rows_in, rows_in_arms}
use Rattle.table.specs.mirror.Kept.{Inside, i_end, i_exchange, i_loop, i_back, InsideArms, i_nil, i_arm, Static, t_end, t_exchange, t_loop, t_back, StaticArms, t_nil, t_arm, Good, Ranged, r_end, r_exchange, r_loop, r_back, RangedArms, r_nil, r_arm}
use Rattle.table.specs.Limits.{base}
use Rattle.table.specs.Check.{accepted, check_of}
use Rattle.table.proofs.Sizes.{measured}
use Rattle.table.proofs.Accepted.{obeys}
use Rattle.table.proofs.Trees.{tree_good, tree_static, tree_ranged, tree_inside}
use Rattle.table.proofs.Weight.{tree_rows}
use Rattle.parts.specs.Part.{Part}
use Rattle.parts.specs.Projection.{part_of, present}
use Rattle.parts.specs.Layout.{size}
use Rattle.parts.specs.mirror.Codes.{codes}
use Rattle.parts.specs.mirror.Grows.{Grows}
use Rattle.parts.specs.mirror.Stands.{Stands}
use Rattle.parts.proofs.Grown.{tree_grows}
use Rattle.parts.proofs.Rising.{holds_some}
use Rattle.parts.proofs.Laws.{part_size}
use Rattle.parts.proofs.Sizes.{words_twice}
use Rattle.projection.specs.mirror.Projects.{SMALL, Coded, s_end, s_exchange, s_loop, s_back, CodedArms, s_nil, s_arm, Stack, Outcome, fails, puts, Projects, words_of, parts_words}
use Rattle.projection.specs.mirror.Keeps.{Keeps}
use Rattle.projection.specs.mirror.Orders.{Orders}
use Rattle.projection.specs.declared.Projection.{Projection}
use Rattle.std.specs.Prelude.{Some, None, Result, Ok, Err}
use Rattle.std.specs.Option.{ok_or}
use Rattle.std.specs.Result.{result_ok, result_err}
use Rattle.std.proofs.lemmas.Option.{none-some, same_Some}
use Rattle.table.specs.declared.refusal.Refusal.{Refusal}
use Rattle.std.specs.Prelude.{Option as Maybe}
use Rattle.projection.proofs.Join.{between}
use Rattle.projection.proofs.Steps.{restack, none_some, some_same}
use borrow.Author.Count.{below_none, below_more}

-- a tree of so few rows has small depths
mutual
  unfolding rows_in rows_in_arms

  small_tree : {roles labels d : ℕ} {G : Global ℕ} → roles ≤ base.roles → labels ≤ SMALL → Static G → Ranged roles labels G → Inside d G → d + rows_in G ≤ SMALL → Coded G
  small_tree r l t_end r_end i_end f = s_end
  small_tree r l (t_exchange s) (r_exchange {p} {q} a b h) (i_exchange i) f =
      s_exchange {p = p} {q = q} (omega arith) (omega arith) (small_arms r l s h i (omega arith))
  small_tree r l (t_loop s) (r_loop h) (i_loop i) f = s_loop (small_tree r l s h i (omega arith))
  small_tree r l t_back r_back (i_back {k} b) f = s_back {k = k} (omega arith)

  small_arms : {roles labels d : ℕ} {cs : Arms ℕ} → roles ≤ base.roles → labels ≤ SMALL → StaticArms cs → RangedArms roles labels cs → InsideArms d cs → d + rows_in_arms cs ≤ SMALL → CodedArms cs
  small_arms r l t_nil r_nil i_nil f = s_nil
  small_arms r m (t_arm s ss) (r_arm {l} k h hs) (i_arm i is) f =
      s_arm {l = l} (omega arith) (small_tree r m s h i (omega arith)) (small_arms r m ss hs is (omega arith))

-- what the parts need of a table
record Sound (t : List ℕ) (roles : ℕ) : Type 0 where
  grows : Grows t 0 (tree_of t)
  good : Good {A = ℕ} (tree_of t)
  small : Coded {A = ℕ} (tree_of t)
  fits : rows_in {A = ℕ} (tree_of t) ≤ rows_of t
  most : roles ≤ base.roles
  few : rows_of t ≤ base.rows

sound : (t : List ℕ) (roles : ℕ) → check_of base t roles ≡ accepted → Sound t roles
sound t roles e =
    let m = measured base t roles (obeys base t roles e).sizes in
    let rows = tree_rows ℕ base t roles e in
    record {
      grows = tree_grows base t roles e;
      good = tree_good base t roles e;
      small = small_tree m.most (omega arith) (tree_static base t roles e) (tree_ranged base t roles e) (tree_inside base t roles e) (omega (arith, m.few));
      fits = rows;
      most = m.most;
      few = m.few;
    }

-- ---- one role after the other

-- the parts of the roles below k are on the stack
pub record Upto (t : List ℕ) (k : ℕ) (work : List ℕ) (at : ℕ) : Type 0 where
  pub stack : Stack work at (parts_words t k)
  pub low : at ≤ k * (rows_of t * 2)
  pub each : (j : ℕ) → j < k → present (part_of t j) ≡ true

pub upto_none : (t work : List ℕ) → Upto t 0 work 0
unfolding parts_words
upto_none t work = record { stack = record { rest = work; is = refl; height = refl }; low = omega arith; each = below_none _ }

module _ (v : Projection) {roles at : ℕ} {work spare work' : List ℕ} {res : Maybe ℕ} (l : v.role < roles)
    (checked : check_of base v.table.now roles ≡ accepted) (keeps : Keeps v.table.now v.kept.now) (orders : Orders v.table.now v.order.now)
    (fits : roles * (rows_of v.table.now * 2) ≤ length work) (ls : rows_of v.table.now * 2 < length spare)
    (u : Upto v.table.now v.role work at) (h : Projects v (rows_of v.table.now) 0 work at spare work' res) where
  -- the parts before this one and this one have room
  room : at + rows_of v.table.now * 2 ≤ length work
  room = omega (arith, u.low, fits, suc-mul v.role (rows_of v.table.now * 2), mul-le-mul_right (rows_of v.table.now * 2) l)

  found : Outcome codes (parts_words v.table.now v.role) work' res (part_of v.table.now v.role)
  unfolding part_of
  found =
      let s = sound v.table.now roles checked in
      let m = s.most in
      h.gives (tree_of v.table.now) (parts_words v.table.now v.role) (record { role = omega arith; keeps = keeps; orders = orders }) s.grows s.fits s.good s.small u.stack
      (record { fits = omega (arith, room, s.fits); spares = omega (arith, ls, s.fits); few = omega (arith, s.fits, s.few) })

  pub lacking : res ≡ None → present (part_of v.table.now v.role) ≡ false
  lacking e = go (part_of v.table.now v.role) found
    where
      go : (o : Option Part) → Outcome codes (parts_words v.table.now v.role) work' res o → present o ≡ false
      go none (fails f) = refl
      go (some P) (puts f s) = absurd (none_some e f)

  rows : (P : Part) → part_of v.table.now v.role ≡ some P → size P ≤ rows_of v.table.now
  unfolding part_of
  rows P q = omega (arith, holds_some (part_size {A = ℕ} v.role (tree_of v.table.now)) q, (sound v.table.now roles checked).fits)

  pub upto_more : {d : ℕ} → res ≡ Some d → Upto v.table.now (v.role + 1) work' d
  unfolding parts_words
  upto_more {d} e = go (part_of v.table.now v.role) refl found
    where
      go : (o : Option Part) → part_of v.table.now v.role ≡ o → Outcome codes (parts_words v.table.now v.role) work' res o → Upto v.table.now (v.role + 1) work' d
      go none q (fails f) = absurd (none_some f e)
      go (some P) q (puts f s₀) =
          let s = subst (λ (x : ℕ). Stack work' x (parts_words v.table.now v.role ++ codes P)) (some_same f e) s₀ in
          record {
            stack = rw (add-one v.role) (restack (ap (λ (x : List ℕ). parts_words v.table.now v.role ++ x) (sym (ap words_of q))) s);
            low = rw (add-one v.role)
                (omega (arith, u.low, u.stack.height, s.height, length-append (parts_words v.table.now v.role) (codes P), words_twice P, suc-mul v.role (rows_of v.table.now * 2), rows P q));
            each = below_more _ _ u.each (ap present q);
          }

-- what stands in the place of a part that there is not
pub ok_or_none : {res : Maybe ℕ} {r : Result ℕ Refusal} {e d : Refusal} → r ≡ ok_or res e → r ≡ Err d → (res ≡ None) × (d ≡ e)
ok_or_none {res} {r} {e} {d} h is = go res (sym is ∙ h)
  where
    go : (res : Maybe ℕ) → Err d ≡ ok_or res e → (res ≡ None) × (d ≡ e)
    go None q = (refl, same_Some d e (ap result_err q))
    go (Some x) q = absurd (none-some x (ap result_ok q))

pub ok_or_some : {res : Maybe ℕ} {r : Result ℕ Refusal} (e : Refusal) {x : ℕ} → r ≡ ok_or res e → r ≡ Ok x → res ≡ Some x
ok_or_some {res} {r} e {x} h is = go res (sym is ∙ h)
  where
    go : (res : Maybe ℕ) → Ok x ≡ ok_or res e → res ≡ Some x
    go None q = absurd (none-some x (sym (ap result_ok q)))
    go (Some y) q = sym (ap result_ok q)

-- every role has a part
pub upto_all : {t : List ℕ} {k : ℕ} {work : List ℕ} {at : ℕ} → Upto t k work at → Stands work 0 (parts_words t k)
upto_all {t} {k} {work} u = between [] (parts_words t k) u.stack.rest work 0 refl u.stack.is

-- the words of all parts have room
pub all_words : (t : List ℕ) (roles : ℕ) → check_of base t roles ≡ accepted → roles * (rows_of t * 2) ≤ base.roles * (base.rows * 2)
all_words t roles e =
    let m = measured base t roles (obeys base t roles e).sizes in
    let twice : rows_of t * 2 ≤ base.rows * 2 = omega (arith, m.few) in
    mul-le-mul m.most twice
