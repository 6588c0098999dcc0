use mathlib.Core.Path.{◌∙◌}
use Rattle.sessions.proofs.Readings.{bytes_right, bytes_wrong, mark_accepted, mark_refused, zeros_mark}
use Rattle.sessions.proofs.orders.read_mark.Goals as goal

pub returns-then-any_set-clause-refusal : goal.returns-then-any_set-clause-refusal
returns-then-any_set-clause-refusal c = bytes_wrong _ (zeros_mark c.args.order.now c.requires c.any_set.ensures ∙ c.if-any_set.true)

pub returns-then-depth-eq16-clause-refusal : goal.returns-then-depth-eq16-clause-refusal
returns-then-depth-eq16-clause-refusal c = bytes_right _ (zeros_mark c.args.order.now c.requires c.any_set.ensures ∙ c.if-any_set.false) (mark_refused c.if-depth-eq16.true)

pub returns-clause-refusal : goal.returns-clause-refusal
returns-clause-refusal c = bytes_right _ (zeros_mark c.args.order.now c.requires c.any_set.ensures ∙ c.if-any_set.false) (mark_accepted c.if-depth-eq16.false)
