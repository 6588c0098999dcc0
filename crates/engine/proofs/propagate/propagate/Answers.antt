use Rattle.engine.proofs.Propagation.{propagated_failed}
use Rattle.engine.proofs.propagate.propagate.Goals as goal

pub returns-else-not-fixpoint : goal.returns-else-not-fixpoint
returns-else-not-fixpoint c =
    let left = c.fixpoint.ensures in
    record { store = left.store; sized = left.sized; state = left.state c.if-not-fixpoint.false }

pub returns-then-not-fixpoint : goal.returns-then-not-fixpoint
returns-then-not-fixpoint c = propagated_failed _ c.args.layout.now.all.accepted c.if-not-fixpoint.ensures c.empty.ensures
