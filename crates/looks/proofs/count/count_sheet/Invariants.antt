use Rattle.looks.specs.Counts.{CountsTo}
use Rattle.looks.proofs.count.count_sheet.Given as goal

abbrev pub invariant-loop-p : goal.invariant-loop-p
invariant-loop-p l = CountsTo l.k l.sheet.book.now l.sheet.number l.rows.valid l.rows.index l.p l.counts
