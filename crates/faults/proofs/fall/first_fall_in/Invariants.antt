use Rattle.std.proofs.Common.{◌≡◌, ◌%◌}
use Rattle.model.specs.Tests.{NoneIn}
use Rattle.rows.specs.Bounds.{string_before}
use Rattle.rows.specs.Rows.{falls, row_place}
use Rattle.faults.proofs.Rises.{above}
use Rattle.faults.proofs.fall.first_fall_in.Given as goal

abbrev pub invariant-loop-r : goal.invariant-loop-r
invariant-loop-r l =
    (l.at ≡ row_place l.sheet.book.now l.sheet.number l.r) × (l.i ≡ l.r % 127) × (above l.before ≡ string_before l.sheet.book.now l.sheet.number l.r)
    × NoneIn (falls l.sheet.book.now l.sheet.number) 0 l.r
