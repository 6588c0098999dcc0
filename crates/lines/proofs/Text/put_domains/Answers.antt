use Rattle.std.proofs.Common.{arith, rules}
use Rattle.lines.specs.Texts.{domain_fields}
use Rattle.lines.proofs.Written.{written_domain, written_none}
use Rattle.lines.proofs.Text.put_domains.Goals as goal

pub loop-c-init : goal.loop-c-init
unfolding domain_fields
loop-c-init c = written_none _ (omega (arith, c.requires.2))

pub loop-c-preserved : goal.loop-c-preserved
loop-c-preserved c = written_domain c.args.answer.now c.loop-c.c c.word_at.result c.word_at.ensures (search rules) c.loop-c.invariant c.put_field.ensures
