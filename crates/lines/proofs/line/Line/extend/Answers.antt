-- `lines::line::Line::extend` meets its contract: what is put behind the line is what its room holds of the bytes. Assumes nothing.
use mathlib.Core.Path.{◌≡◌, ◌∙◌, ap, ap₂}
use native.Mathlib.Omega.{arith}
use lib.ListN.{length, take}
use Rattle.std.proofs.Common.{rules}
use Rattle.lines.proofs.Running.{behind_low, front_stays, line_extended}
use Rattle.lines.proofs.line.Line.extend.Goals as goal

pub invariant_of-self : goal.invariant_of-self
invariant_of-self g c =
    let line = c.args.self.now in
    let long : length line.bytes ≡ g.row.ROOM = search rules in
    let low = behind_low line.length c.args.bytes.now line.bytes (omega (arith, long, line.within.1)) in
    record { within = (omega (arith, c.put-self.ensures.0, low.0, line.within.0), omega (arith, c.put-self.ensures.0, low.1, long)) }

pub returns-clause-front : goal.returns-clause-front
returns-clause-front g c =
    let line = c.args.self.now in
    let long : length line.bytes ≡ g.row.ROOM = search rules in
    ap (take line.front) c.put-self.ensures.1 ∙ front_stays line.length c.args.bytes.now line.bytes (omega (arith, long, line.within.1)) line.front line.within.0

pub returns-clause-line : goal.returns-clause-line
returns-clause-line g c =
    let line = c.args.self.now in
    let long : length line.bytes ≡ g.row.ROOM = search rules in
    rw long at (ap₂ take c.put-self.ensures.0 c.put-self.ensures.1 ∙ line_extended line.length c.args.bytes.now line.bytes (omega (arith, long, line.within.1)))
