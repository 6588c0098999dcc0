use mathlib.Core.Path.{◌≡◌}
use Prim.Native.Nat.{◌≤◌}
use Rattle.heads.specs.Heads.{sheets_of}
use Rattle.status.specs.Status.{done_sheets}
use Rattle.status.proofs.done_sheets.Given as goal

abbrev pub invariant-loop-s : goal.invariant-loop-s
invariant-loop-s l =
    (l.done ≡ done_sheets l.sheets.book.now l.state.dom l.s) × (l.s-end ≡ sheets_of l.sheets.book.now) × (l.s-end ≤ 8)
