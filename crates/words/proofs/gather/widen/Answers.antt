use borrow.Author.Rules.{rules}
use Rattle.words.proofs.Gathers.{widened_all, widened_none, widened_same}
use Rattle.words.proofs.gather.widen.Goals.{else-may_miss-via-else-may_miss, else-may_miss-via-then-may_miss+else-any_at}
use Rattle.words.proofs.gather.widen.Goals as goal

pub returns-then-any_at : goal.returns-then-any_at
returns-then-any_at c = let p = c.requires in
    widened_all c.args.laid.now.sheet.at p.0 p.1 (search rules) (rw c.if-any_at.true at c.any_at.ensures) p.2

pub returns-else-may_miss : goal.returns-else-may_miss
returns-else-may_miss c = let p = c.requires in
    elim c.else-may_miss.branch [
      | else-may_miss-via-then-may_miss+else-any_at w ↦ widened_none c.args.laid.now.sheet.at p.0 p.1 (rw w.if-any_at.false at w.any_at.ensures) p.2
      | else-may_miss-via-else-may_miss w ↦ widened_same c.args.laid.now.sheet.at p.0 p.1 c.args.laid.now.any (c.may_miss.ensures w.if-may_miss.false) p.2
    ]
