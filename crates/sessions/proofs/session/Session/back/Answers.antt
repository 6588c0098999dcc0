use mathlib.Core.Path.{refl}
use borrow.Author.Rules.{rules}
use Rattle.sessions.proofs.Holds.{back_holds}
use Rattle.sessions.proofs.session.Session.back.Goals as goal

pub returns : goal.returns
returns c = back_holds _ _ refl refl refl (search rules) (search rules)
