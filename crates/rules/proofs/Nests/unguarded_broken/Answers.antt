-- `rules::Nests::unguarded_broken` meets its contract: a Back's own Loop is next to it exactly where enough Loops are. Assumes nothing.
use mathlib.Core.Path.{refl}
use lib.ListN.{get_or-map}
use Rattle.table.proofs.Walk.{only_loops_lem}
use Rattle.rules.proofs.Nests.unguarded_broken.Goals as goal

pub returns-in-Back : goal.returns-in-Back
returns-in-Back c =
    let near = (c.args.self.now.filled c.requires.1 c.args.row c.requires.0).1 in
    rw (
      ← (c.in-Back.ensures {u = tt}).0,
      only_loops_lem,
      ← get_or-map (λ n. n.near) c.args.self.now.rows c.args.row (record { around = 0; near = 0 }),
      near,
    ) refl
