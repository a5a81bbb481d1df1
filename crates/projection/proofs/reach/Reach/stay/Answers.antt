-- `projection::reach::Reach::stay` meets its contract. Assumes nothing.
use mathlib.Core.Path.{sym}
use borrow.Author.Tests.{lt-ltb}
use Rattle.projection.proofs.Sets.{set_all}
use Rattle.projection.proofs.reach.Reach.stay.Goals as goal

pub returns-then-self-gt0 : goal.returns-then-self-gt0
returns-then-self-gt0 c = rw (lt-ltb 0 c.args.self.out c.if-self-gt0.true) (sym set_all)
