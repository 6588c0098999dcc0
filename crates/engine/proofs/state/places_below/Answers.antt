use mathlib.Core.Path.{sym}
use Rattle.engine.proofs.Openings.{places_none, places_shifted}
use Rattle.engine.proofs.state.places_below.Goals as goal

pub returns-then-n-eq0 : goal.returns-then-n-eq0
returns-then-n-eq0 c = sym (rw c.if-n-eq0.true places_none)

pub returns-else-n-eq0 : goal.returns-else-n-eq0
returns-else-n-eq0 c = places_shifted c.args.n c.requires
