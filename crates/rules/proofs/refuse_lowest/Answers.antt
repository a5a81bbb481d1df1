-- `rules::refuse_lowest` meets its contract. Assumes nothing.
use native.Mathlib.Omega.{arith}
use Rattle.table.specs.Refusals.{number_of}
use Rattle.rules.proofs.Least.{refused_here, refused_nowhere}
use Rattle.rules.proofs.refuse_lowest.Goals as goal

pub returns-then-broken : goal.returns-then-broken
returns-then-broken g c =
    refused_here (number_of c.args.rule) c.args.rows c.loop-place.place (λ i b. goal.F-post g c.args.broken i b)
    c.loop-place-test.true c.loop-place.invariant (c.if-broken.ensures {u = tt})

pub returns : goal.returns
returns g c = refused_nowhere (number_of c.args.rule) c.args.rows (λ i b. goal.F-post g c.args.broken i b) (λ k l. c.loop-place.invariant k (omega arith))
