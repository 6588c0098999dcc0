use Rattle.cover.proofs.Tables.{Tabling}
use Rattle.cover.proofs.table.put_sheet.Given as goal

abbrev pub invariant-loop-p : goal.invariant-loop-p
invariant-loop-p l = Tabling l.sheet.book.now l.sheet.number l.v l.p l.rows.valid l.rows.index l.initial.table l.table
