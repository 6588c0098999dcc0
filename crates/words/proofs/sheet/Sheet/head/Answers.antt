use Rattle.words.proofs.Places.{head_there}
use Rattle.words.proofs.sheet.Sheet.head.Goals as goal

pub of-requires : goal.of-requires
of-requires c = head_there c.args.self.now.at
