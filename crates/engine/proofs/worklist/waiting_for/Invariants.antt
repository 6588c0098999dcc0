use Rattle.engine.specs.Worklists.{WaitingFor}
use Rattle.engine.proofs.worklist.waiting_for.Given as goal

abbrev pub invariant-loop-f : goal.invariant-loop-f
invariant-loop-f l = WaitingFor l.scopes l.lost l.f l.waiting
