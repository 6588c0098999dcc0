-- The first wrong field of bytes 0 to 7, one test after the other. Each way out is a goal, called by its test: a new field brings one more.
use Rattle.std.proofs.Common.{sym, ◌∙◌, le_refl, rules}
use Rattle.model.proofs.Firsts.{first_of_found, first_of_join, first_of_same, none_empty, none_more}
use Rattle.heads.proofs.Heads.{field_columns, field_letters, field_sheets, field_zero, right_letters}
use Rattle.heads.proofs.head.Head.first_in_front.Goals as goal

pub returns-then-wrong_letters : goal.returns-then-wrong_letters
returns-then-wrong_letters c = let b = c.args.self.now.bytes.now in
    first_of_found (search rules) (search rules) (none_empty (le_refl _)) (field_letters b ∙ sym c.if-wrong_letters.ensures)

pub returns-then-wrong_columns : goal.returns-then-wrong_columns
returns-then-wrong_columns c = let b = c.args.self.now.bytes.now in
    first_of_found (search rules) (search rules) (right_letters b c.if-wrong_letters.ensures) (field_columns b ∙ sym c.if-wrong_columns.ensures)

pub returns-then-wrong_sheets : goal.returns-then-wrong_sheets
returns-then-wrong_sheets c = let b = c.args.self.now.bytes.now in
    first_of_found (search rules) (search rules)
    (none_more (right_letters b c.if-wrong_letters.ensures) (field_columns b ∙ sym c.if-wrong_columns.ensures))
    (field_sheets b ∙ sym c.if-wrong_sheets.ensures)

pub returns : goal.returns
returns c = let b = c.args.self.now.bytes.now in
    first_of_join 8 c.first_set.result (search rules)
    (none_more (none_more (right_letters b c.if-wrong_letters.ensures) (field_columns b ∙ sym c.if-wrong_columns.ensures))
    (field_sheets b ∙ sym c.if-wrong_sheets.ensures))
    (first_of_same c.first_set.result (λ i p q. sym (field_zero b i p q)) c.first_set.ensures)
