use borrow.Author.Rules.{rules}
use Rattle.cells.specs.Cells.{row_inside}
use Rattle.words.proofs.Cuts.{word_inside}
use Rattle.words.proofs.cut.cut_inside.Goals as goal

pub cut-requires : goal.cut-requires
cut-requires c = (
  c.requires,
  λ w x t. search rules,
  (row_inside c.args.sheet.now.book.now c.args.sheet.now.begin c.args.x.now, record { at = λ w x y t g. search (rules, word_inside) }),
)

pub returns : goal.returns
returns c = c.cut.ensures.0 _ record { at = λ w x y t g. search (rules, word_inside) }
