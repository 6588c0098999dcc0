use Rattle.words.specs.Sheets.{Wanted}
use Rattle.words.proofs.gather.wanted.Given as goal

abbrev pub invariant-loop-j : goal.invariant-loop-j
invariant-loop-j l = Wanted l.sheet.book.now l.sheet.number l.dom l.j l.x
