use Rattle.counters.proofs.Counters.{past_rows}
use Rattle.counters.proofs.counter.past_rows.Goals as goal

pub returns : goal.returns
returns c = past_rows c.args.word c.args.n c.ranges.word.fits c.requires.1
