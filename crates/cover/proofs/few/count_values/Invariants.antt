use Rattle.cover.specs.Covers.{SizesTo}
use Rattle.cover.proofs.few.count_values.Given as goal

abbrev pub invariant-loop-c : goal.invariant-loop-c
invariant-loop-c l = SizesTo l.dom l.c l.sizes
