use Rattle.fit.proofs.Prints.{run_printed}
use Rattle.fit.proofs.put_run.Goals as goal

pub returns : goal.returns
returns c =
    let n = c.fitting_run-number in
    let p = c.print in
    (run_printed c.args.book.now c.args.orders.now c.args.answers.now n.ensures.value c.columns.ensures.0 n.ensures.answers_after p.ensures.0, p.ensures.1)
