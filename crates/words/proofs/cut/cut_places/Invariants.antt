use mathlib.Core.Path.{◌≡◌}
use mathlib.Core.Bool.{false}
use Rattle.words.specs.Sheets.{CutBy, SheetWords, passes_below}
use Rattle.words.proofs.cut.cut_places.Given as goal

abbrev pub invariant-loop-j : goal.invariant-loop-j
invariant-loop-j l = CutBy (passes_below l.sheet.book.now l.sheet.number l.changed l.dom l.j) l.sheet.number l.initial.rows.valid l.initial.rows.index l.initial.rows.nonzero l.rows.valid l.rows.index l.rows.nonzero × SheetWords l.sheet.book.now l.sheet.number l.rows.valid l.rows.index l.rows.nonzero × (l.any ≡ false → (l.opening ≡ false) × (l.rows.valid ≡ l.initial.rows.valid))
