-- `State::queues_good` meets its contract. Assumes nothing.
use Rattle.std.proofs.Common.{rules}
use Rattle.words.specs.Below.{every}
use Rattle.table.specs.Limits.{base}
use Rattle.state.specs.State.{queue_good}
use Rattle.state.specs.mirror.State.{seen}
use Rattle.state.proofs.Ranges.{every_from_all}
use Rattle.state.proofs.State.queues_good.Goals as goal

pub returns : goal.returns
returns c = every_from_all _ _ 8 _ (λ p. every (queue_good base c.args.roles (seen c.args.self.now) p) base.roles) c.all.ensures.ran (λ x q k. search rules) (λ x q k. search rules)
