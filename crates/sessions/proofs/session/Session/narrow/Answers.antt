use mathlib.Core.Path.{refl}
use Rattle.sessions.proofs.Holds.{narrow_holds}
use Rattle.sessions.proofs.session.Session.narrow.Goals as goal

pub narrowed-self-requires : goal.narrowed-self-requires
narrowed-self-requires c = (c.requires.0, record { trail = c.requires.1.trail; is = c.requires.1.holds.current })

pub returns : goal.returns
returns c = narrow_holds _ _ c.narrowed-self.ensures refl refl
