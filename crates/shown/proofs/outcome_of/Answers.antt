use native.Mathlib.Omega.{arith}
use Rattle.sessions.proofs.Readings.{read_accepted, read_as, read_refused}
use Rattle.shown.proofs.Shows.{finish_besides, state_besides}
use Rattle.shown.proofs.outcome_of.Goals as goal

pub returns-in-Ok-Finish : goal.returns-in-Ok-Finish
returns-in-Ok-Finish c = λ o p.
    let a = c.in-Ok-Finish in
    let q = read_as o a.is (rw a.is at a.field-0-is) p in
    finish_besides o q.1 c.finish.ensures (read_accepted a.is) q.0

pub returns-in-Ok-Narrow : goal.returns-in-Ok-Narrow
returns-in-Ok-Narrow c = λ o p.
    let a = c.in-Ok-Narrow in
    let q = read_as o a.is (rw a.is at a.field-0-is) p in
    state_besides o (λ z k. omega (arith, q.0))

pub returns-in-Ok-Mark : goal.returns-in-Ok-Mark
returns-in-Ok-Mark c = λ o p.
    let a = c.in-Ok-Mark in
    let q = read_as o a.is (rw a.is at a.field-0-is) p in
    state_besides o (λ z k. omega (arith, q))

pub returns-in-Ok-Back : goal.returns-in-Ok-Back
returns-in-Ok-Back c = λ o p.
    let a = c.in-Ok-Back in
    let q = read_as o a.is (rw a.is at a.field-0-is) p in
    state_besides o (λ z k. omega (arith, q.0))

pub returns-in-Err : goal.returns-in-Err
returns-in-Err c = λ o p. state_besides o (λ z k. absurd (read_refused c.in-Err.is z))
