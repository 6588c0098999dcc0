use Rattle.std.proofs.Common.{ap, arith, drop, take, ℕ, ◌*◌, ◌+◌, ◌-◌, ◌≡◌}
use Rattle.lines.specs.Texts.{answer_lines}
use Rattle.lines.proofs.Written.{written-line, written_none}
use Rattle.lines.proofs.Text.put_lines.Goals as goal

pub loop-i-init : goal.loop-i-init
unfolding answer_lines
loop-i-init c = written_none _ (omega (arith, c.requires.3))

pub loop-i-preserved : goal.loop-i-preserved
loop-i-preserved c =
    let i = c.loop-i.i in
    let e : 72 * i + 72 - 72 * i ≡ 72 = omega arith in
    let answer = ap (λ (k : ℕ). take k (drop (72 * i) c.args.answers.now)) e in
    written-line c.args.columns c.args.answers.now i answer c.loop-i.invariant c.put_line.ensures
