use Prim.Native.Nat.{◌*◌, ◌+◌, ◌/◌, ◌≤◌}
use lib.ListN.{length}
use Rattle.model.specs.Orders.{trail}
use Rattle.book.specs.Decoding.{book_of}
use Rattle.sessions.specs.Lists.{orders_to}
use Rattle.status.specs.Status.{SummaryIs}
use Rattle.runs.specs.Runs.{RanTo}
use Rattle.runs.proofs.run.run_orders.Given as goal

abbrev pub invariant-loop-i : goal.invariant-loop-i
invariant-loop-i l =
    RanTo l.book.bytes.now l.fn.orders l.initial.answers l.i l.session l.accepted l.answers × (72 * (length l.fn.orders / 8) + 72 ≤ length l.initial.answers)
    × SummaryIs l.book.bytes.now (trail (book_of l.book.bytes.now) (orders_to l.fn.orders l.i)) l.told
