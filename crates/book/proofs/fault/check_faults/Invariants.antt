use mathlib.Core.Path.{◌≡◌}
use Rattle.model.specs.Tests.{NoneIn}
use Rattle.rows.specs.Rows.{first_block, wrong_sheet}
use Rattle.book.proofs.fault.check_faults.Given as goal

abbrev pub invariant-loop-s : goal.invariant-loop-s
invariant-loop-s l = (l.start ≡ first_block l.book.bytes.now l.s) × NoneIn (wrong_sheet l.book.bytes.now) 0 l.s
