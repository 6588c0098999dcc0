use Rattle.std.proofs.Common.{refl, rules}
use Rattle.rows.proofs.Bounds.{turned_high}
use Rattle.rows.proofs.Words.{joins_high}
use Rattle.rows.proofs.row.any_turned.Goals as goal

pub returns : goal.returns
returns c = rw c.any_high.ensures (joins_high _ (λ r y l e. turned_high c.args.b.now.bytes.now _ _ r _ y refl (search rules)) c.joined.ensures)
