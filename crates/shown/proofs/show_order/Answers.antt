use Rattle.shown.proofs.Shows.{answers_order}
use Rattle.shown.proofs.show_order.Goals as goal

pub returns : goal.returns
returns c = λ o p. answers_order c.args.order o _ _ c.err.ensures.value (c.outcome_of-outcome.ensures o p) (c.told_after-told.ensures o p) c.show.ensures
