use Rattle.std.proofs.Common.{arith}
use Rattle.lines.proofs.Written.{printed_accepted, printed_refused, written_as, written_most, written_then}
use Rattle.lines.proofs.Text.put_run.Goals as goal

pub returns-then-number-ge65536 : goal.returns-then-number-ge65536
returns-then-number-ge65536 c =
    let k = c.args in
    written_most (written_as (printed_refused k.number k.columns k.n k.answers.now c.if-number-ge65536.true) c.put_refused.ensures) (omega arith)

pub returns : goal.returns
returns c =
    let k = c.args in
    let e = printed_accepted k.number k.columns k.n k.answers.now c.if-number-ge65536.false in
    written_most (written_as e (written_then c.put_lines.ensures c.put_accepted.ensures)) (omega (arith, c.requires.1))
