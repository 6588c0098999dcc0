use Rattle.rows.proofs.Bounds.{turned_found}
use Rattle.rows.proofs.row.any_over.Goals as goal

pub returns : goal.returns
returns c = let m = c.args.m in
    turned_found c.args.b.now.bytes.now c.are_bytes.ensures m.w m.x m.y m.z m.k 127 m.small.few (rw (c.turn-o.ensures, c.slack.ensures) at c.any_turned.ensures)
