use mathlib.Core.Path.{◌≡◌}
use Prim.Native.Nat.{◌*◌, ◌≤◌}
use Rattle.words.specs.Sheets.{rows_to}
use Rattle.words.proofs.index.Rows.set_rows.Given as goal

abbrev pub invariant-loop-p : goal.invariant-loop-p
invariant-loop-p l = (l.rows ≡ rows_to l.self.valid l.self.index l.s l.p) × (l.rows ≤ 64 * l.p)
