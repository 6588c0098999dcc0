use mathlib.Core.Path.{◌≡◌}
use Rattle.model.specs.Tests.{NoneIn}
use Rattle.heads.specs.Heads.{sheets_of}
use Rattle.rows.specs.Rows.{first_block, wrong_sheet}
use Rattle.faults.proofs.doubt.first_doubt.Given as goal

abbrev pub invariant-loop-s : goal.invariant-loop-s
invariant-loop-s l = (l.start ≡ first_block l.book.bytes.now l.s) × (l.s-end ≡ sheets_of l.book.bytes.now) × NoneIn (wrong_sheet l.book.bytes.now) 0 l.s
