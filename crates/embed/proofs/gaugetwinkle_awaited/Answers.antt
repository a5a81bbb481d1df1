-- `embed::gaugetwinkle_awaited` meets its contract. Assumes nothing.
use Rattle.std.proofs.Common.{rules}
use lib.Count.{count_trailing_zeros}
use Rattle.embed.proofs.gaugetwinkle_awaited.Goals as goal

pub returns-in_default : goal.returns-in_default
unfolding count_trailing_zeros
returns-in_default c = search rules
