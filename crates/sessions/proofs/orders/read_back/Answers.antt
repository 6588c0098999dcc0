use mathlib.Core.Path.{◌∙◌}
use Rattle.sessions.proofs.Readings.{back_accepted, back_refused, bytes_right, bytes_wrong, zeros_back}
use Rattle.sessions.proofs.orders.read_back.Goals as goal

pub returns-then-any_set-clause-refusal : goal.returns-then-any_set-clause-refusal
returns-then-any_set-clause-refusal c = bytes_wrong _ (zeros_back c.args.order.now c.requires c.any_set.ensures ∙ c.if-any_set.true)

pub returns-then-mark-eq0-clause-refusal : goal.returns-then-mark-eq0-clause-refusal
returns-then-mark-eq0-clause-refusal c =
    bytes_right _ (zeros_back c.args.order.now c.requires c.any_set.ensures ∙ c.if-any_set.false) (back_refused c.args.order.now _ c.from-mark.ensures c.then-mark-eq0.either)

pub returns-clause-refusal : goal.returns-clause-refusal
returns-clause-refusal c =
    bytes_right _ (zeros_back c.args.order.now c.requires c.any_set.ensures ∙ c.if-any_set.false) (back_accepted c.args.order.now _ c.from-mark.ensures c.if-mark-eq0.false c.if-depth-mark.false)
