use Rattle.std.proofs.Common.{refl}
use Rattle.model.specs.Tests.{sum}
use Rattle.heads.proofs.Blocks.{sum_step}
use Rattle.heads.proofs.block.Block.full_sum.Goals as goal

pub loop-i-init : goal.loop-i-init
unfolding sum
loop-i-init c = refl

pub loop-i-preserved : goal.loop-i-preserved
loop-i-preserved c = sum_step c.args.self.now.bytes.now _ _ _ c.loop-i.invariant c.word_at-total.ensures
