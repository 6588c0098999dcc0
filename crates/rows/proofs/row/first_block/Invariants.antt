use Rattle.std.proofs.Common.{◌≡◌, ◌+◌, ◌*◌, ◌≤◌}
use Rattle.rows.specs.Rows.{first_block}
use Rattle.rows.proofs.row.first_block.Given as goal

abbrev pub invariant-loop-t : goal.invariant-loop-t
invariant-loop-t l = (l.n ≡ first_block l.h.bytes.now l.t) × (l.n ≤ 1 + 517 * l.t)
