use Rattle.words.proofs.Places.{eight}
use Rattle.words.proofs.sheet.Sheet.forbids.Goals as goal

pub forbids-requires : goal.forbids-requires
forbids-requires c = eight c.args.self.now.at
