-- `State::heads_good` meets its contract. Assumes nothing.
use Rattle.std.proofs.Common.{rules}
use Rattle.state.specs.State.{head_good}
use Rattle.state.specs.mirror.State.{seen}
use Rattle.state.proofs.Ranges.{every_from_all}
use Rattle.state.proofs.State.heads_good.Goals as goal

pub returns : goal.returns
returns c = every_from_all _ _ 8 _ (head_good c.args.blocks.now.tables.now c.args.blocks.now.roles (seen c.args.self.now)) c.all.ensures.ran (λ x q k. search rules) (λ x q k. search rules)
