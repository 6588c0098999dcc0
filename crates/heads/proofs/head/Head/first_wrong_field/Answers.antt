use Rattle.std.proofs.Common.{sym, rules}
use Rattle.model.proofs.Firsts.{first_of_join, first_of_same, none_join}
use Rattle.heads.proofs.Heads.{few_sheets, field_rest}
use Rattle.heads.proofs.head.Head.first_wrong_field.Goals as goal

pub first_in_entries-requires : goal.first_in_entries-requires
first_in_entries-requires c = few_sheets _ (c.in_default.ensures.at 5 (search rules) (search rules))

pub returns : goal.returns
returns c = first_of_join 508 c.first_set.result (search rules)
    (none_join c.in_default.ensures (none_join c.in_default-first_in_values.ensures c.in_default-first_in_entries.ensures))
    (first_of_same c.first_set.result (λ i p q. sym (field_rest c.args.self.now.bytes.now i p)) c.first_set.ensures)
