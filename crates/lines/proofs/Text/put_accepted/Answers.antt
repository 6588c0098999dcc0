use Rattle.std.proofs.Common.{arith}
use Rattle.lines.specs.Texts.{accepted_line}
use Rattle.lines.proofs.Written.{written_field, written_most, written_then}
use Rattle.lines.proofs.Text.put_accepted.Goals as goal

pub returns : goal.returns
unfolding accepted_line
returns c = written_most (written_then (written_then c.put.ensures (written_field _ c.ranges.count.fits c.put_field.ensures)) c.put_byte.ensures) (omega arith)
