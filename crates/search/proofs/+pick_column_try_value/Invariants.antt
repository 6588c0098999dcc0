use Rattle.std.proofs.Common.{◌*◌, ◌+◌, ◌≤◌}
use Rattle.search.proofs.Searches.{Untried, values_left}
use Rattle.search.proofs.+pick_column_try_value.Given as goal

abbrev pub decreases-pick_column : goal.decreases-pick_column
decreases-pick_column l = 2 * values_left l.layout.now.sheets.book.now l.state.now.dom + 1

abbrev pub decreases-try_value : goal.decreases-try_value
decreases-try_value l = 2 * values_left l.layout.now.sheets.book.now l.state.now.dom

abbrev pub invariant-pick_column-loop-v : goal.invariant-pick_column-loop-v
invariant-pick_column-loop-v l = Untried l.layout.sheets.book.now l.state.dom l.c l.made l.v-iterator.left l.tries × (l.tries ≤ l.limit)
