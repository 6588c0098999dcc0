use Rattle.sessions.proofs.Holds.{outside-mask}
use Rattle.engine.proofs.Worklists.{sixteen_columns, values_few}
use Rattle.sessions.proofs.orders.outside_column.Goals as goal

pub values-requires : goal.values-requires
values-requires c = sixteen_columns _ c.args.book.now.accepted _ c.requires

pub places_below-requires : goal.places_below-requires
places_below-requires c = rw (c.values.ensures.0, c.head.ensures) (values_few _ c.args.book.now.accepted _ c.requires)

pub returns : goal.returns
returns c = outside-mask _ c.args.book.now.accepted _ _ _ _ c.requires c.ranges.m.fits (rw (← c.head.ensures) c.values.ensures.0) c.places_below.ensures
