use Rattle.looks.proofs.Strikes.{struck_more}
use Rattle.looks.proofs.strike.strike_to.Goals as goal

pub loop-j-preserved : goal.loop-j-preserved
loop-j-preserved c = struck_more _ _ c.loop-j.invariant c.struck-lost.ensures
