use mathlib.Core.Path.{◌∙◌}
use native.Mathlib.Omega.{arith}
use Rattle.sessions.proofs.Readings.{bytes_right, bytes_wrong, finish_accepted, finish_refused, zeros_finish}
use Rattle.sessions.proofs.orders.read_finish.Goals as goal

pub returns-then-any_set-clause-refusal : goal.returns-then-any_set-clause-refusal
returns-then-any_set-clause-refusal c = bytes_wrong _ (zeros_finish c.args.order.now c.requires c.any_set.ensures ∙ c.if-any_set.true)

pub returns-then-limit-gt65535-clause-refusal : goal.returns-then-limit-gt65535-clause-refusal
returns-then-limit-gt65535-clause-refusal c =
    bytes_right _ (zeros_finish c.args.order.now c.requires c.any_set.ensures ∙ c.if-any_set.false) (finish_refused c.args.order.now c.limit_of-limit.ensures (omega (arith, c.if-limit-gt65535.true)))

pub returns-clause-refusal : goal.returns-clause-refusal
returns-clause-refusal c =
    bytes_right _ (zeros_finish c.args.order.now c.requires c.any_set.ensures ∙ c.if-any_set.false) (finish_accepted c.args.order.now c.limit_of-limit.ensures (omega (arith, c.if-limit-gt65535.false)))
