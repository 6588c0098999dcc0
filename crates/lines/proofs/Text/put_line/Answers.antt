use Rattle.std.proofs.Common.{arith}
use Rattle.lines.specs.Texts.{answer_line}
use Rattle.lines.proofs.Written.{written_most, written_then}
use Rattle.lines.proofs.Text.put_line.Goals as goal

pub returns : goal.returns
unfolding answer_line
returns c = written_most
    (written_then (written_then c.put_head.ensures c.put_domains.ensures) c.put_byte.ensures)
    (omega (arith, c.requires.0))
