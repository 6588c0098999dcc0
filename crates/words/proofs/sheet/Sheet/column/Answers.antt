use Rattle.std.proofs.Common.{rules}
use Rattle.words.proofs.Places.{column_below, eight}
use Rattle.words.proofs.sheet.Sheet.column.Goals as goal

pub column-requires : goal.column-requires
column-requires c = (eight c.args.self.now.at, c.requires)

pub returns : goal.returns
returns c = let m = column_below c.args.self.now.at in search rules
