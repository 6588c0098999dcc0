use Rattle.engine.specs.Worklists.{Added}
use Rattle.engine.proofs.worklist.add_lost.Given as goal

abbrev pub invariant-loop-columns : goal.invariant-loop-columns
invariant-loop-columns l = Added l.fn.changed l.lost l.columns-index l.columns-items
