use mathlib.Core.Path.{refl}
use Rattle.sessions.proofs.Holds.{open_holds}
use Rattle.sessions.proofs.session.open.Goals as goal

pub returns : goal.returns
returns c = open_holds _ c.opening-now.ensures refl refl
