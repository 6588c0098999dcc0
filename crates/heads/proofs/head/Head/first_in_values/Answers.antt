use Rattle.std.proofs.Common.{◌-◌, sym, rules, tests}
use Rattle.model.proofs.Firsts.{first_of_range, first_of_same}
use Rattle.heads.specs.Heads.{wrong_values}
use Rattle.heads.proofs.Heads.{field_values}
use Rattle.heads.proofs.head.Head.first_in_values.Goals as goal

pub returns : goal.returns
returns c = let b = c.args.self.now.bytes.now in
    first_of_same c.find.result (λ i p q. sym (field_values b i p q))
    (first_of_range (λ i. wrong_values b (i - 8)) _ _ _ c.find.result c.find.ensures.ran (λ x b q k. search (rules, tests)))
