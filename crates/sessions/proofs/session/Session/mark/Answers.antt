use mathlib.Core.Path.{refl}
use borrow.Author.Rules.{rules}
use Rattle.sessions.proofs.Holds.{mark_holds}
use Rattle.sessions.proofs.session.Session.mark.Goals as goal

pub returns : goal.returns
returns c = mark_holds _ _ refl refl refl (search rules)
