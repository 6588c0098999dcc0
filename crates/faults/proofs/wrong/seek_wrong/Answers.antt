use Rattle.std.proofs.Common.{◌*◌, rules, tests}
use Rattle.model.proofs.Firsts.{first_of_join, first_of_range}
use Rattle.rows.specs.Bounds.{wrong_in}
use Rattle.rows.proofs.Bounds.{rows_right}
use Rattle.faults.proofs.wrong.seek_wrong.Goals as goal

pub returns : goal.returns
returns c = let m = c.args.m in
    let b = c.args.b.now.bytes.now in
    let u = c.rows_under.ensures in
    first_of_join 508 c.find.result (search rules) (rows_right m.w m.x m.y m.z m.k c.args.n c.rows_under.result b u.0 u.1)
    (first_of_range (wrong_in m.w m.x m.y m.z m.k b (4 * c.args.n)) _ _ _ c.find.result c.find.ensures.ran (λ x t q k. search (rules, tests)))
