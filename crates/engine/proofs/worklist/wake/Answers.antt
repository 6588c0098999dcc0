use mathlib.Core.Path.{refl}
use Rattle.engine.proofs.Worklists.{woken_none, woken_some}
use Rattle.engine.proofs.worklist.wake.Goals as goal

pub returns-then-lost-eq0 : goal.returns-then-lost-eq0
returns-then-lost-eq0 c = rw c.if-lost-eq0.true (woken_none c.requires.0 c.told-changed c.requires.2)

pub returns : goal.returns
returns c = let p = c.requires in
    woken_some p.0 c.told-changed p.2 p.1 c.add_lost.ensures c.waiting_for.ensures refl
