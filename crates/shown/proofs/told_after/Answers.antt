use mathlib.Core.Logic.{inl, inr}
use Rattle.sessions.proofs.Readings.{read_as, read_refused}
use Rattle.shown.proofs.Shows.{told_refused, told_same}
use Rattle.shown.proofs.told_after.Goals as goal

pub returns-in-Ok-Mark : goal.returns-in-Ok-Mark
returns-in-Ok-Mark c = λ o p. let a = c.in-Ok-Mark in told_same o (inl (read_as o a.is (rw a.is at a.field-0-is) p))

pub returns-in-Ok-Finish : goal.returns-in-Ok-Finish
returns-in-Ok-Finish c = λ o p. let a = c.in-Ok-Finish in let q = read_as o a.is (rw a.is at a.field-0-is) p in told_same o (inr q.0)

pub returns-in-Err : goal.returns-in-Err
returns-in-Err c = λ o p. told_refused o (read_refused c.in-Err.is)
