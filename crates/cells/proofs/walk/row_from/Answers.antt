use Prim.Native.Nat.{◌+◌}
use Rattle.cells.proofs.Halves.{from_place}
use Rattle.cells.proofs.walk.row_from.Goals as goal

pub returns : goal.returns
returns c = from_place c.args.book.now c.args.at c.args.j c.requires.1 (λ i l. (c.type_inv.book (c.args.at + i)).fits) c.word_at.ensures
