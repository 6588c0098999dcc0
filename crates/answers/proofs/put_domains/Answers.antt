use native.Mathlib.Omega.{arith}
use Rattle.answers.proofs.Answers.{domains_more, domains_none}
use Rattle.answers.proofs.put_domains.Goals as goal

pub loop-c-init : goal.loop-c-init
loop-c-init c = domains_none _ _

pub loop-c-preserved : goal.loop-c-preserved
loop-c-preserved c = domains_more c.args.out.now c.args.shown.now c.loop-c.c _ c.requires c.loop-c-test.true c.loop-c.invariant c.put_word.ensures (omega arith)
