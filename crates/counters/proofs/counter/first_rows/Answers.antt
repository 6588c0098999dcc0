use Rattle.counters.proofs.Counters.{first_rows}
use Rattle.counters.proofs.counter.first_rows.Goals as goal

pub returns : goal.returns
returns c = first_rows c.args.word c.args.n c.requires.1
