use Rattle.model.specs.Tests.{NoneIn}
use Rattle.rows.specs.Rows.{falls_in}
use Rattle.book.proofs.rise.check_falls.Given as goal

abbrev pub invariant-loop-s : goal.invariant-loop-s
invariant-loop-s l = NoneIn (falls_in l.book.bytes.now) 0 l.s
