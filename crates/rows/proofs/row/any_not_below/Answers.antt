use Rattle.std.proofs.Common.{sym, ◌∙◌}
use mathlib.Core.Bool.{false≢true}
use Rattle.rows.proofs.Bounds.{high_found, joined_below, raised_found}
use Rattle.rows.proofs.row.any_not_below.Goals as goal

pub returns-else-not-below_bounds : goal.returns-else-not-below_bounds
returns-else-not-below_bounds c = let m = c.args.m in
    let below = rw c.joined_rows-v.ensures at (sym c.below_bounds.ensures ∙ c.if-not-below_bounds.false) in
    rw c.if-not-below_bounds.false
    (record { none = λ p. joined_below c.args.b.now.bytes.now c.are_bytes.ensures m.w m.x m.y m.z 0 127 below; some = λ p. absurd (false≢true p) })

pub returns-then-any_high : goal.returns-then-any_high
returns-then-any_high c = let m = c.args.m in
    let high = rw c.joined_rows-v.ensures at (sym c.any_high.ensures ∙ c.if-any_high.true) in
    rw c.if-any_high.true (high_found c.args.b.now.bytes.now c.are_bytes.ensures m.w m.x m.y m.z 0 127 m.small.few high)

pub returns-else-any_high : goal.returns-else-any_high
returns-else-any_high c = let m = c.args.m in
    let low = rw c.joined_rows-v.ensures at (sym c.any_high.ensures ∙ c.if-any_high.false) in
    raised_found c.args.b.now.bytes.now c.are_bytes.ensures m.w m.x m.y m.z 0 127 m.small.few low (rw c.slack.ensures at c.any_raised.ensures)
