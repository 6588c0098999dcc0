use Rattle.std.proofs.Common.{sym, ◌∙◌, le_refl, rules}
use Rattle.model.proofs.Firsts.{first_of_found, first_of_some, none_empty}
use Rattle.heads.proofs.Heads.{field_five, field_rows, field_width, right_columns, right_five, right_rows, right_width}
use Rattle.heads.proofs.head.Head.first_in_entry.Goals as goal

pub returns-then-wrong_width : goal.returns-then-wrong_width
returns-then-wrong_width c = let b = c.args.self.now.bytes.now in
    first_of_found (search rules) (search rules) (none_empty (le_refl _)) (field_width b _ c.requires.0 c.requires.1 ∙ sym c.if-wrong_width.ensures)

pub returns-in-Some : goal.returns-in-Some
returns-in-Some c = let b = c.args.self.now.bytes.now in
    first_of_some _ (search rules) (search rules) (right_width b _ c.requires.0 c.requires.1 c.if-wrong_width.ensures) c.in-Some.ensures

pub returns-then-set_at : goal.returns-then-set_at
returns-then-set_at c = let b = c.args.self.now.bytes.now in
    first_of_found (search rules) (search rules) (right_columns b _ c.requires.0 c.requires.1 c.if-wrong_width.ensures c.in_default.ensures)
    (field_five b _ c.requires.0 c.requires.1 ∙ sym c.if-set_at.ensures)

pub returns-then-wrong_rows : goal.returns-then-wrong_rows
returns-then-wrong_rows c = let b = c.args.self.now.bytes.now in
    first_of_found (search rules) (search rules)
    (right_five b _ c.requires.0 c.requires.1 (right_columns b _ c.requires.0 c.requires.1 c.if-wrong_width.ensures c.in_default.ensures) c.if-set_at.ensures)
    (field_rows b _ c.requires.0 c.requires.1 ∙ sym c.if-wrong_rows.ensures)

pub returns : goal.returns
returns c = let b = c.args.self.now.bytes.now in
    right_rows b _ c.requires.0 c.requires.1
    (right_five b _ c.requires.0 c.requires.1 (right_columns b _ c.requires.0 c.requires.1 c.if-wrong_width.ensures c.in_default.ensures) c.if-set_at.ensures)
    c.if-wrong_rows.ensures
