use Rattle.std.proofs.Common.{rules}
use Rattle.heads.specs.Blocks.{word}
use Rattle.rows.proofs.Words.{joins_joined}
use Rattle.rows.proofs.row.joined_rows.Goals as goal

pub returns : goal.returns
returns c = joins_joined (word c.args.b.now.bytes.now) (λ r y l e. search rules) c.joined.ensures
