-- `projection::project_all` meets its contract: each turn puts one part behind those before it. Assumes nothing.
use Prim.Native.Nat.{◌+◌, ◌*◌, ◌≤◌, ◌/◌}
use mathlib.Core.Bool.{not}
use mathlib.Core.Path.{◌≡◌, refl, sym, ◌∙◌, ap}
use native.Mathlib.Omega.{arith}
use lib.ListN.{length, drop, length-append, length-drop}
use borrow.Author.Tests.{lt-ltb, le-ltb}
use Rattle.std.proofs.lemmas.List.{length-take-le}
use Rattle.std.proofs.lemmas.Result.{err_from_is_err_and}
use Rattle.words.specs.Rows.{rows_of}
use Rattle.words.proofs.Below.{lowest_at, lowest_none}
use Rattle.table.specs.Limits.{base}
use Rattle.table.proofs.Accepted.{obeys}
use Rattle.table.proofs.Sizes.{measured}
use Rattle.projection.proofs.Tables.{upto_none, lacking, upto_more, upto_all, ok_or_none, ok_or_some}
use Rattle.projection.proofs.project_all.Goals as goal

pub loop-role-init : goal.loop-role-init
loop-role-init c = (refl, refl, upto_none _ _)

pub slice_bounds-spare-end : goal.slice_bounds-spare-end
slice_bounds-spare-end c =
    let few : rows_of c.args.table.now ≤ base.rows = (measured base _ _ (obeys base c.args.table.now c.args.roles c.requires.0).sizes).few in
    omega (arith, few, c.loop-role.invariant.1)

pub slice_bounds-project-end : goal.slice_bounds-project-end
slice_bounds-project-end c =
    let few : rows_of c.args.table.now ≤ base.rows = (measured base _ _ (obeys base c.args.table.now c.args.roles c.requires.0).sizes).few in
    sym (length-take-le _ c.loop-role.spare (omega (arith, few, c.loop-role.invariant.1)))

pub returns-in_err-at : goal.returns-in_err-at
returns-in_err-at c =
    let was = c.loop-role.invariant in
    let few : rows_of c.args.table.now ≤ base.rows = (measured base _ _ (obeys base c.args.table.now c.args.roles c.requires.0).sizes).few in
    let lent = length-take-le (length c.args.table.now / 4 * 2 + 1) c.loop-role.spare (omega (arith, few, was.1)) in
    let p = err_from_is_err_and c.from_residual.result c.from_residual.ensures.1 in
    let (none, refusal) = ok_or_none c.ok_or.ensures.value c.in_err-at.was in
    let low = lowest_at _ _ _ c.loop-role-test.true (λ k l. ap not (was.2.each k l))
    (ap not (lacking _ c.loop-role-test.true c.requires.0 (c.kept_roles-kept.ensures _ c.requires.0) (c.arms_in_order-order.ensures _ c.requires.0) (omega (arith, c.requires.1, was.0))
    (omega (arith, lent)) was.2 c.project-part.ensures none)) in
    rw (p.1, p.2, refusal)
    (record { lacks = rw (low, lt-ltb _ _ c.loop-role-test.true); stands = tt })

pub loop-role-preserved : goal.loop-role-preserved
loop-role-preserved c =
    let was = c.loop-role.invariant in
    let few : rows_of c.args.table.now ≤ base.rows = (measured base _ _ (obeys base c.args.table.now c.args.roles c.requires.0).sizes).few in
    let words = length c.args.table.now / 4 * 2 + 1 in
    let lent = length-take-le words c.loop-role.spare (omega (arith, few, was.1)) in (
      c.project-part.auto.work ∙ was.0,
      omega (arith, length-append c.project-part.new.spare (drop words c.loop-role.spare), length-drop words c.loop-role.spare, c.project-part.auto.spare, lent, was.1, few),
      upto_more _ c.loop-role-test.true c.requires.0 (c.kept_roles-kept.ensures _ c.requires.0) (c.arms_in_order-order.ensures _ c.requires.0) (omega (arith, c.requires.1, was.0))
          (omega (arith, lent)) was.2 c.project-part.ensures (ok_or_some _ c.ok_or.ensures.value c.in_ok-at.was),
    )

pub returns : goal.returns
returns c =
    let was = c.loop-role.invariant in
    let e : c.args.roles ≡ c.loop-role.role = omega (arith, c.loop-role-test.false) in
    record {
      lacks = rw (e, lowest_none _ _ (λ k l. ap not (was.2.each k l)), le-ltb c.loop-role.role c.loop-role.role (omega arith));
      stands = rw e (upto_all was.2);
    }
