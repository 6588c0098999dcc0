use mathlib.Core.Path.{refl}
use Rattle.words.specs.Sheets.{swapped}
use Rattle.words.proofs.index.Rows.drop_word.Goals as goal

pub returns : goal.returns
unfolding swapped
returns c = (rw c.from.ensures at c.swap.ensures.by_index.3 0, refl, refl)
