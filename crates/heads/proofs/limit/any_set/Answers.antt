use Rattle.std.proofs.Common.{le_refl, rules}
use Rattle.model.proofs.Firsts.{finds_empty, finds_more}
use Rattle.heads.proofs.Limits.{or_set}
use Rattle.heads.proofs.limit.any_set.Goals as goal

pub loop-i-init : goal.loop-i-init
loop-i-init c = finds_empty (le_refl _)

pub loop-i-preserved : goal.loop-i-preserved
loop-i-preserved c = rw (← or_set) (finds_more _ (search rules) c.loop-i.invariant)
