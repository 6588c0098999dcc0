use Rattle.std.proofs.Common.{◌-◌, ◌≤◌}
use Rattle.fit.proofs.read_most.Given as goal

abbrev pub invariant-loop-done : goal.invariant-loop-done
invariant-loop-done g l = l.done ≤ l.most

abbrev pub decreases-loop-done : goal.decreases-loop-done
decreases-loop-done g l = l.most - l.done
