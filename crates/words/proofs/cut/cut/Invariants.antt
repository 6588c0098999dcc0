use mathlib.Core.Bool.{Bool}
use Prim.Native.Nat.{ℕ}
use Rattle.words.specs.Sheets.{Keeps, SheetWords}
use Rattle.words.proofs.Cuts.{Cutting}
use Rattle.words.proofs.cut.cut.Given as goal

abbrev pub invariant-loop-p : goal.invariant-loop-p
invariant-loop-p g l = ((test : ℕ → Bool) → Keeps l.sheet.book.now l.sheet.begin (goal.F-post g l.keep) test
    → Cutting test l.sheet.number l.p l.initial.rows.valid l.initial.rows.index l.initial.rows.nonzero l.rows.valid l.rows.index l.rows.nonzero l.any)
    × SheetWords l.sheet.book.now l.sheet.number l.rows.valid l.rows.index l.rows.nonzero
