use Rattle.cells.specs.Cells.{SmallSets}
use Rattle.words.proofs.Gathers.{Supporting}
use Rattle.words.proofs.gather.gather.Given as goal

abbrev pub invariant-loop-p : goal.invariant-loop-p
invariant-loop-p l = Supporting l.sheet.book.now l.sheet.number l.p l.rows.valid l.rows.index l.seen × SmallSets l.seen
