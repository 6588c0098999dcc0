use Rattle.std.proofs.Common.{rules, tests}
use Rattle.model.proofs.Firsts.{first_of_range}
use Rattle.rows.specs.Bounds.{over_block}
use Rattle.faults.proofs.wrong.first_over.Goals as goal

pub returns : goal.returns
returns c = let m = c.args.m in
    let sheet = c.args.sheet.now in
    rw (c.blocks_of.ensures.0, c.head.ensures) at (first_of_range (over_block sheet.book.now sheet.number m.w m.x m.y m.z m.k) _ _ _ c.find.result c.find.ensures.ran (λ x b q k. search (rules, tests)))
