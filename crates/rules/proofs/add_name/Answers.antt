-- `rules::add_name` meets its contract: one store, or none. Assumes nothing.
use mathlib.Core.Path.{refl}
use lib.ListN.{get_or-map}
use borrow.Author.Tests.{lt-ltb}
use Rattle.std.proofs.lemmas.List.{map-set}
use Rattle.std.specs.Prelude.{None}
use Rattle.rules.proofs.add_name.Goals as goal

pub returns-then-to-lt-ROWS-clause-by : goal.returns-then-to-lt-ROWS-clause-by
returns-then-to-lt-ROWS-clause-by c none = rw (lt-ltb _ _ c.if-to-lt-ROWS.true, map-set) refl

pub returns-then-to-lt-ROWS-clause-times : goal.returns-then-to-lt-ROWS-clause-times
returns-then-to-lt-ROWS-clause-times c =
    rw (lt-ltb _ _ c.if-to-lt-ROWS.true, map-set, get_or-map (λ n. n.times) c.args.names.now c.args.to (record { by = None; times = 0 })) refl
