use Rattle.std.proofs.Common.{◌*◌, ◌∙◌, sym, rules}
use mathlib.Core.Bool.{false≢true}
use Rattle.rows.proofs.Bounds.{over_found, past_used}
use Rattle.faults.proofs.wrong.any_wrong.Goals as goal

pub returns-then-any_set : goal.returns-then-any_set
returns-then-any_set c = let m = c.args.m in
    let r = c.any_set.ensures.some c.if-any_set.true in
    rw c.if-any_set.true
    (record { none = λ p. absurd (false≢true (sym p)); some = λ p. (r.0, search rules, r.2, past_used m.w m.x m.y m.z m.k (4 * c.args.n) r.0 c.args.b.now.bytes.now r.1 ∙ r.3) })

pub returns-else-any_set : goal.returns-else-any_set
returns-else-any_set c = let m = c.args.m in
    over_found m.w m.x m.y m.z m.k c.args.n c.args.b.now.bytes.now m.small (c.any_set.ensures.none c.if-any_set.false) c.any_over.ensures
