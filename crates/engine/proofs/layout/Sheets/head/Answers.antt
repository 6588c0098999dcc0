use Rattle.engine.proofs.Worklists.{head_length}
use Rattle.engine.proofs.layout.Sheets.head.Goals as goal

pub of-requires : goal.of-requires
of-requires c = head_length _ c.args.self.now.laid.accepted
