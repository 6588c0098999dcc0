use Rattle.std.proofs.Common.{rules, tests}
use Rattle.model.proofs.Firsts.{first_of_range}
use Rattle.heads.specs.Blocks.{wrong_check}
use Rattle.heads.proofs.block.first_wrong_check.Goals as goal

pub returns : goal.returns
returns c = first_of_range (wrong_check c.args.book.now) _ _ _ c.find.result c.find.ensures.ran (λ x b q k. search (rules, tests))
