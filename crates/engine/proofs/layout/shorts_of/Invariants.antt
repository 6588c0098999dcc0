use Rattle.engine.proofs.Layouts.{ShortTo}
use Rattle.engine.proofs.layout.shorts_of.Given as goal

abbrev pub invariant-loop-q : goal.invariant-loop-q
invariant-loop-q l = ShortTo l.sheet.book.now l.sheet.number l.q l.seen
