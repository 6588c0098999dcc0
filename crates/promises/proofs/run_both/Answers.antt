use Rattle.promises.proofs.Comparisons.{both_ran, list_ran}
use Rattle.promises.proofs.run_both.Goals as goal

pub returns : goal.returns
returns c = both_ran (list_ran c.requires.0 c.run_orders-p.ensures) (list_ran c.requires.1 c.run_orders-q.ensures)
