use Rattle.std.proofs.Common.{◌≡◌, ◌%◌, ◌^◌}
use Rattle.model.specs.Tests.{sum}
use Rattle.heads.specs.Blocks.{word}
use Rattle.heads.proofs.block.Block.full_sum.Given as goal

abbrev pub invariant-loop-i : goal.invariant-loop-i
invariant-loop-i l = l.total ≡ sum l.i (word l.self.bytes.now) % 2 ^ 32
