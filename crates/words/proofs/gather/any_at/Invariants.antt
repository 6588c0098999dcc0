use Rattle.words.proofs.Gathers.{NoAny}
use Rattle.words.proofs.gather.any_at.Given as goal

abbrev pub invariant-loop-p : goal.invariant-loop-p
invariant-loop-p l = NoAny l.sheet.book.now l.sheet.number l.rows.valid l.rows.index l.j l.p
