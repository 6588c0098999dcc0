use native.Mathlib.Omega.{arith}
use Rattle.search.proofs.Searches.{finish_failed, finish_filled, finish_found}
use Rattle.search.proofs.finish.Goals as goal

pub returns-then-state-eq0 : goal.returns-then-state-eq0
returns-then-state-eq0 c = finish_failed _ c.args.layout.now.all.accepted _ _ (omega (arith, c.if-state-eq0.true))

pub pick_column-requires : goal.pick_column-requires
pick_column-requires c = (finish_filled _ c.args.layout.now.all.accepted _ c.requires c.if-state-eq0.false, omega arith)

pub returns : goal.returns
returns c = finish_found _ c.args.layout.now.all.accepted _ c.pick_column.ensures
