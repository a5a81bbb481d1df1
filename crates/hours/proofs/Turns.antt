-- What is refused before a record is read, and the answer after the last. Assumes nothing.
use Prim.Native.Nat.{ℕ, ◌≤◌, ◌<◌}
use mathlib.Core.List.{List}
use mathlib.Core.Path.{◌≡◌, refl}
use mathlib.Core.Bool.{Bool, true, false}
use native.Mathlib.Omega.{arith}
use lib.Dec.{ltb}
use borrow.Author.Tests.{ltb-false}
use Rattle.words.proofs.Below.{or_neither as neither}
use Rattle.table.specs.Rules.{roles_broken}
use Rattle.hours.proofs.Finish.{early_is, fine_ends}
use Rattle.std.proofs.Common.{Ok, Err}
use lib.ListN.{length}
use Rattle.table.specs.Limits.{Limits}
use Rattle.hours.specs.Report.{MOST, MINUTE, earlier, refusal, report_of}
use Rattle.hours.specs.declared.refusal.Refusal.{Refusal}
use Rattle.hours.specs.declared.refusal.Refusal.TheVariants.{Roles, Records}
use Rattle.hours.specs.Said.{figures_of}
use Rattle.hours.specs.mirror.Sums.{WIDTH}
use Rattle.hours.specs.mirror.Tally.{refused, size_refused, Fine, finish_of}
use Rattle.hours.specs.declared.Record.{Record}
use Rattle.hours.specs.declared.tally.Tally.{Tally}

module _ (lim : Limits) where
  few_roles : (roles : ℕ) → roles_broken lim roles ≡ false → roles ≤ lim.roles
  few_roles roles e = ltb-false lim.roles roles (neither (ltb roles 2) (ltb lim.roles roles) e).1

  module _ (roles n : ℕ) where
    -- the sizes are not refused
    pub record Sized : Type 0 where
      pub counted : roles_broken lim roles ≡ false
      pub short : ltb MOST n ≡ false
      pub few : roles ≤ lim.roles

    pub sized : size_refused lim roles n ≡ Ok tt → Sized
    sized = by_tests (roles_broken lim roles) (ltb MOST n) refl refl
      where
        by_tests : (a b : Bool) → roles_broken lim roles ≡ a → ltb MOST n ≡ b → refused a Roles (refused b Records (Ok tt)) ≡ Ok tt → Sized
        by_tests true b e f g = absurd (grind (arith, g))
        by_tests false true e f g = absurd (grind (arith, g))
        by_tests false false e f g = record { counted = e; short = f; few = few_roles roles e }

  -- no record is read
  pub refused_is : (rs : List Record) (roles : ℕ) (r : Refusal) → size_refused lim roles (length rs) ≡ Err r → figures_of lim (Err r) ≡ report_of lim rs roles
  unfolding report_of
  refused_is rs roles r = by_tests (roles_broken lim roles) (ltb MOST (length rs)) refl refl
    where
      by_tests : (a b : Bool) → roles_broken lim roles ≡ a → ltb MOST (length rs) ≡ b → refused a Roles (refused b Records (Ok tt)) ≡ Err r
          → figures_of lim (Err r) ≡ report_of lim rs roles
      by_tests true b e f g = let q : r ≡ Roles = grind (arith, g) in rw (q, e)
      by_tests false true e f g = let q : r ≡ Records = grind (arith, g) in rw (q, e, f)
      by_tests false false e f g = absurd (grind (arith, g))

  module _ (wide : lim.roles ≤ WIDTH) (rs : List Record) (roles : ℕ) (s : Sized roles (length rs)) where
    pub early_report : (j : ℕ) → j < length rs → earlier rs j ≡ true → ((k : ℕ) → k < j → earlier rs k ≡ false) → refusal lim MINUTE j ≡ report_of lim rs roles
    unfolding report_of
    early_report j l e h = rw (s.counted, s.short) (early_is lim wide rs roles s.few j l e h)

    pub fine_report : (t : Tally) → Fine rs roles (length rs) t → finish_of lim t ≡ report_of lim rs roles
    unfolding report_of
    fine_report t f = rw (s.counted, s.short) (fine_ends lim wide rs roles s.few t f)
