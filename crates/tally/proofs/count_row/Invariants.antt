use Prim.Native.Nat.{◌%◌, ◌+◌}
use Rattle.fields.specs.Bytes.{byte_at}
use Rattle.tally.specs.Tallies.{Counts, RowCounted}
use Rattle.tally.proofs.count_row.Given as goal

abbrev pub invariant-loop-j : goal.invariant-loop-j
invariant-loop-j g l = RowCounted l.j (λ j. byte_at l.book (l.at + j) % 32) l.initial.counts l.counts × Counts (576 + l.j) l.counts
