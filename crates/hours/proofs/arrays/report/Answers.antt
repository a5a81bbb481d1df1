-- `arrays::report` meets its contract. Assumes nothing.
use Rattle.std.proofs.Common.{◌≡◌, get_or, sym, ◌∙◌}
use Rattle.std.proofs.lemmas.Result.{err_from_is_err_and}
use Rattle.table.specs.Limits.{base}
use Rattle.hours.specs.Arrays.{record_of, records_of}
use Rattle.hours.proofs.Recorded.{uneven_by, even_by, records_length, records_at, uneven_roles, uneven_records, even_is}
use Rattle.hours.proofs.arrays.report.Goals as goal
use Rattle.hours.proofs.arrays.report.Goals.{then-flags-length-via-then-flags-length, then-flags-length-via-else-flags-length+then-sets-length}

pub returns-in_err-check_roles : goal.returns-in_err-check_roles
returns-in_err-check_roles c =
    let a = c.args in
    let p = err_from_is_err_and c.from_residual.result c.from_residual.ensures.1 in
    let uneven = uneven_by a.minutes.now a.flags.now a.sets.now (elim c.then-flags-length.branch [
      | then-flags-length-via-then-flags-length w ↦ λ flags sets. w.if-flags-length.true flags
      | then-flags-length-via-else-flags-length+then-sets-length w ↦ λ flags sets. w.if-sets-length.true sets
    ]) in
    rw (p.1, p.2) (uneven_roles base a.minutes.now a.flags.now a.sets.now a.roles uneven _ (sym c.check_roles.ensures ∙ c.in_err-check_roles.was))

pub returns-then-flags-length : goal.returns-then-flags-length
returns-then-flags-length c =
    let a = c.args in
    let uneven = uneven_by a.minutes.now a.flags.now a.sets.now (elim c.then-flags-length.branch [
      | then-flags-length-via-then-flags-length w ↦ λ flags sets. w.if-flags-length.true flags
      | then-flags-length-via-else-flags-length+then-sets-length w ↦ λ flags sets. w.if-sets-length.true sets
    ]) in
    uneven_records base a.minutes.now a.flags.now a.sets.now a.roles uneven (sym c.check_roles.ensures ∙ c.in_ok-check_roles.was)

pub returns : goal.returns
returns c =
    let a = c.args in
    let ms = a.minutes.now in
    let ws = a.flags.now in
    let ss = a.sets.now in
    let flags = c.if-flags-length.false in
    let sets = c.if-sets-length.false in
    c.of_each.ensures (records_of ms ws ss) (record {
      long = records_length ms ws ss flags sets;
      each = λ i r l p. let is : r ≡ record_of (get_or ms i 0) (get_or ws i 0) (get_or ss i 0) = search p in is ∙ sym (records_at ms ws ss flags sets i l);
    })
    ∙ even_is base ms ws ss a.roles (even_by ms ws ss flags sets)
