use Rattle.stores.proofs.Laying.{spans_laid}
use Rattle.stores.proofs.base.write_spans.Goals as goal

-- `write_spans`: the durations, and the zeros behind them. Assumes nothing.

pub returns : goal.returns
returns c = spans_laid _ c.args.s.now c.lay.ensures c.requires.0 c.requires.1
