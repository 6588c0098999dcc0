use Rattle.std.proofs.Common.{◌≡◌, ◌+◌, ◌%◌, ◌^◌, rules}
use Rattle.heads.specs.Blocks.{word}
use Rattle.rows.specs.Bounds.{raised_row}
use Rattle.rows.proofs.Words.{joins_high}
use Rattle.rows.proofs.row.any_raised.Goals as goal

pub returns : goal.returns
unfolding raised_row
returns c =
    rw c.any_high.ensures
    (joins_high _ (λ r y l e. let h : y ≡ (word c.args.b.now.bytes.now r + c.args.k) % 2 ^ 32 = search rules in rw h) c.joined.ensures)
