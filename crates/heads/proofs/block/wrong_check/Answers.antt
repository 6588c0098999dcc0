use Rattle.std.proofs.Common.{◌^◌, ◌<◌, arith}
use Rattle.heads.proofs.Blocks.{check_wrong}
use Rattle.heads.proofs.block.wrong_check.Goals as goal

pub returns : goal.returns
returns c = let fits : c.word_at-check.result < 2 ^ 32 = omega (arith, c.word_at-check.type_inv) in
    check_wrong c.args.book.now _ c.args.n _ _ c.of-b.ensures c.word_at-check.ensures fits c.full_sum.ensures
