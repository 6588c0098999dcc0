use mathlib.Core.Path.{sym}
use Prim.Native.Nat.{◌<◌}
use native.Mathlib.Omega.{arith}
use borrow.Author.Tests.{lt-ltb}
use lib.ListN.{get_or}
use Rattle.heads.specs.Heads.{width_of}
use Rattle.words.proofs.Places.{eight}
use Rattle.words.specs.Sheets.{rows_to}
use Rattle.words.proofs.Indexes.{rows_most}
use Rattle.cover.specs.Covers.{plain_in}
use Rattle.cover.proofs.few.too_few.Goals as goal

pub returns-then-n-choices : goal.returns-then-n-choices
returns-then-n-choices c = let a = c.args in
    let n = get_or a.rows.now.nonzero a.s 0 in
    let l : rows_to a.rows.now.valid a.rows.now.index a.s n < plain_in a.book.now a.s a.shorts a.sizes.now (width_of a.book.now a.s) =
    omega (
      arith,
      rows_most c.requires.2 a.s n,
      c.nonzero_words-n.ensures.0,
      c.plain_choices-choices.ensures.0,
      c.if-n-choices.true,
    ) in
    sym (lt-ltb _ _ l)

pub set_rows-requires : goal.set_rows-requires
set_rows-requires c = (eight c.requires.0, c.requires.3, omega (arith, c.nonzero_words-n.ensures.0))
