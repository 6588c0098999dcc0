use Rattle.answers.specs.Answers.{answer_in}
use Rattle.answers.proofs.Answers.{whole}
use Rattle.answers.proofs.put_answer.Goals as goal

pub returns : goal.returns
returns c = whole c.args.out.now (answer_in c.args.a) c.requires c.put_head.ensures c.put_domains.ensures
