-- `layout::lay_out` meets its contract: `lay` writes the rows, `clear` the zeros behind them. Assumes nothing.
use Rattle.layout.proofs.Lays.{laid_out, laid_nothing}
use Rattle.layout.proofs.lay_out.Goals as goal

pub returns-then-from-gt-LIMIT : goal.returns-then-from-gt-LIMIT
returns-then-from-gt-LIMIT c = laid_nothing _ _ _ _ _ _ c.then-from-gt-LIMIT.either

pub returns : goal.returns
returns c = laid_out _ _ _ _ _ _ _ _ _ _ _ c.if-from-gt-LIMIT.false c.if-rows-gt-LIMIT.false c.lay-end.ensures c.clear.ensures
