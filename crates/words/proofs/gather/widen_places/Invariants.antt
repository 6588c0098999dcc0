use Rattle.words.specs.Sheets.{Widened}
use Rattle.words.proofs.gather.widen_places.Given as goal

abbrev pub invariant-loop-j : goal.invariant-loop-j
invariant-loop-j l = Widened l.laid.sheet.book.now l.laid.sheet.number l.rows.valid l.x l.seen l.j
