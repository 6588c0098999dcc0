use mathlib.Core.Path.{◌∙◌}
use Rattle.sessions.proofs.Readings.{bytes_right, bytes_wrong, narrow_column, narrow_mask, zeros-narrow}
use Rattle.sessions.proofs.orders.read_narrow.Goals as goal

pub returns-then-any_set-clause-refusal : goal.returns-then-any_set-clause-refusal
returns-then-any_set-clause-refusal c = bytes_wrong _ (zeros-narrow c.args.order.now c.requires c.any_set.ensures ∙ c.if-any_set.true)

pub returns-then-columns-column-clause-refusal : goal.returns-then-columns-column-clause-refusal
returns-then-columns-column-clause-refusal c =
    bytes_right _ (zeros-narrow c.args.order.now c.requires c.any_set.ensures ∙ c.if-any_set.false)
    (narrow_column c.args.order.now _ (rw (← c.head.ensures) c.columns.ensures.0) c.from-column.ensures c.if-columns-column.true)

pub returns-then-outside_column-clause-refusal : goal.returns-then-outside_column-clause-refusal
returns-then-outside_column-clause-refusal c =
    bytes_right _ (zeros-narrow c.args.order.now c.requires c.any_set.ensures ∙ c.if-any_set.false)
    (narrow_mask c.args.order.now _ (rw (← c.head.ensures) c.columns.ensures.0) c.from-column.ensures c.if-columns-column.false c.mask_of-mask.ensures c.outside_column.ensures
    c.if-outside_column.true)

pub returns-clause-refusal : goal.returns-clause-refusal
returns-clause-refusal c =
    bytes_right _ (zeros-narrow c.args.order.now c.requires c.any_set.ensures ∙ c.if-any_set.false)
    (narrow_mask c.args.order.now _ (rw (← c.head.ensures) c.columns.ensures.0) c.from-column.ensures c.if-columns-column.false c.mask_of-mask.ensures c.outside_column.ensures
    c.if-outside_column.false)
