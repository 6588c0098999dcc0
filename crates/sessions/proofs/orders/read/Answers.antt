use borrow.Author.Rules.{rules}
use Rattle.sessions.proofs.Readings.{reads_back, reads_finish, reads_mark, reads_narrow, reads_other}
use Rattle.sessions.proofs.orders.read.Goals as goal

pub returns-in-1-clause-refusal : goal.returns-in-1-clause-refusal
returns-in-1-clause-refusal c = reads_narrow _ c.args.order.now _ c.in-1.is c.read_narrow.ensures.refusal

pub returns-in-2-clause-refusal : goal.returns-in-2-clause-refusal
returns-in-2-clause-refusal c = reads_mark _ c.args.order.now _ c.in-2.is c.read_mark.ensures.refusal

pub returns-in-3-clause-refusal : goal.returns-in-3-clause-refusal
returns-in-3-clause-refusal c = reads_back _ c.args.order.now _ c.in-3.is c.read_back.ensures.refusal

pub returns-in-4-clause-refusal : goal.returns-in-4-clause-refusal
returns-in-4-clause-refusal c = reads_finish _ c.args.order.now _ c.in-4.is c.read_finish.ensures.refusal

pub returns-in_default-clause-refusal : goal.returns-in_default-clause-refusal
returns-in_default-clause-refusal c = reads_other _ c.args.order.now _ (λ e. search rules) (λ e. search rules) (λ e. search rules) (λ e. search rules)
