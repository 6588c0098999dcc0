use Rattle.std.proofs.Common.{arith}
use Rattle.rows.specs.Bounds.{BoundedSheet}
use Rattle.rows.specs.Rows.{blocks_of}
use Rattle.book.proofs.Refusals.{block_first_of}
use Rattle.book.proofs.fault.first_in_block.Goals as goal

pub used_rows-requires : goal.used_rows-requires
unfolding blocks_of
used_rows-requires c = rw (c.rows.ensures.0, c.of-head.ensures) (omega (arith, c.requires.2))

pub returns : goal.returns
returns c =
    let sheet = c.args.sheet.now in
    let m = c.bounds_of.result in
    let there : BoundedSheet sheet.book.now sheet.number sheet.start m.w m.x m.y m.z m.k =
    record { there = sheet.there; starts = sheet.starts; bounds = rw c.of-head.ensures at c.bounds_of.ensures; small = m.small } in
    let rows = rw c.of-head.ensures at c.rows.ensures.0 in
    block_first_of _ _ _ _ _ _ _ _ _ _ _ _ _ there c.requires.2 c.of.ensures rows c.used_rows.ensures.0 c.seek_wrong.ensures
