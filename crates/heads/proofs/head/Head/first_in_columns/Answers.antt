use Rattle.std.proofs.Common.{◌+◌, ◌-◌, ◌*◌, sym, rules, tests}
use Rattle.model.proofs.Firsts.{first_of_range, first_of_same}
use Rattle.heads.specs.Heads.{wrong_column}
use Rattle.heads.proofs.Heads.{field_column}
use Rattle.heads.proofs.head.Head.first_in_columns.Goals as goal

pub returns : goal.returns
returns c = let b = c.args.self.now.bytes.now in
    let s = c.args.s in
    first_of_same c.find.result (λ i p q. sym (field_column b s c.requires.0 c.requires.1 i p q))
    (first_of_range (λ i. wrong_column b s (i - (25 + 8 * s))) _ _ _ c.find.result c.find.ensures.ran (λ x b q k. search (rules, tests)))
