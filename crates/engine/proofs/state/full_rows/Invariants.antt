use mathlib.Core.Path.{◌≡◌}
use Prim.Native.Nat.{◌≤◌}
use Rattle.heads.specs.Heads.{sheets_of}
use Rattle.engine.specs.Openings.{FullRows}
use Rattle.engine.proofs.state.full_rows.Given as goal

abbrev pub invariant-loop-s : goal.invariant-loop-s
invariant-loop-s l = FullRows l.sheets.book.now l.s l.valid l.nonzero × (l.s-end ≡ sheets_of l.sheets.book.now) × (l.s-end ≤ 8)
