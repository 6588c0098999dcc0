use Rattle.engine.proofs.Layouts.{ColumnsTo}
use Rattle.engine.proofs.layout.columns_of.Given as goal

abbrev pub invariant-loop-j : goal.invariant-loop-j
invariant-loop-j l = ColumnsTo l.sheet.book.now l.sheet.number l.j l.columns
