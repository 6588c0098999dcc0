-- Propagation. The invariant is `Going` (Propagation): what no waiting sheet has to look at is settled. A turn looks at one sheet (`going_on`); the values left,
-- and then the sheets that wait, fall (`going_less`); when none waits the closure is reached (`going_done`).
use Prim.Native.Nat.{◌*◌, ◌+◌}
use Rattle.model.specs.Stores.{values}
use Rattle.engine.proofs.Propagation.{Going}
use Rattle.engine.proofs.propagate.fixpoint.Given as goal

abbrev pub invariant-loop-left : goal.invariant-loop-left
invariant-loop-left l =
    Going l.layout.sheets.book.now l.opening l.initial.state.dom l.state.dom l.state.rows.valid l.state.rows.index l.state.rows.nonzero l.changed l.left

abbrev pub decreases-loop-left : goal.decreases-loop-left
decreases-loop-left l = 256 * values 16 l.state.dom + l.left
