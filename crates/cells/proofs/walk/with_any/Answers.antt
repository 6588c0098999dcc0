use Rattle.cells.proofs.Walks.{with_none, with_some}
use Rattle.cells.proofs.walk.with_any.Goals as goal

pub returns-then-d-eq0 : goal.returns-then-d-eq0
returns-then-d-eq0 c = with_none c.if-d-eq0.true

pub returns : goal.returns
returns c = with_some c.ranges.d.fits c.if-d-eq0.false
