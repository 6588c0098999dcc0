use Rattle.std.proofs.Common.{◌-◌, ◌∙◌, refl, rules, tests}
use Rattle.model.proofs.Firsts.{first_of_range}
use Rattle.rows.specs.Bounds.{turned_row}
use Rattle.rows.proofs.Bounds.{turned_high, turned_before}
use Rattle.rows.proofs.row.rows_under.Goals as goal

pub returns : goal.returns
returns c = let m = c.args.m in
    let b = c.args.b.now.bytes.now in
    let f =
    first_of_range (turned_row c.turn-o.result (c.slack.result - c.turn-o.result) b) _ _ _ c.find.result c.find.ensures.ran
    (λ x t q k. (search (rules, tests), search (rules, tests) ∙ turned_high b c.turn-o.result (c.slack.result - c.turn-o.result) x _ _ refl refl)) in
    rw c.unwrap_or.ensures (turned_before b c.are_bytes.ensures m.w m.x m.y m.z m.k c.args.n m.small.few c.find.result (rw (c.turn-o.ensures, c.slack.ensures) at f))
