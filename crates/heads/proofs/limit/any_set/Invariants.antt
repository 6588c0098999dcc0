use Rattle.std.proofs.Common.{not, eqb}
use Rattle.model.specs.Tests.{Finds}
use Rattle.heads.specs.Limits.{set_at}
use Rattle.heads.proofs.limit.any_set.Given as goal

abbrev pub invariant-loop-i : goal.invariant-loop-i
invariant-loop-i l = Finds (set_at l.b) l.a l.i (not (eqb l.x 0))
