use borrow.Author.Rules.{rules}
use Rattle.words.proofs.Gathers.{covered_sets}
use Rattle.words.proofs.gather.covered.Goals as goal

pub returns : goal.returns
returns c = covered_sets _ _ (search rules) (search rules)
