use Rattle.std.proofs.Common.{rules}
use Rattle.words.proofs.Places.{eight, width_most}
use Rattle.words.proofs.sheet.Sheet.width.Goals as goal

pub width-requires : goal.width-requires
width-requires c = eight c.args.self.now.at

pub returns : goal.returns
returns c = let m = (width_most c.args.self.now.at).1 in search rules
