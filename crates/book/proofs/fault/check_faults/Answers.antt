use Rattle.std.proofs.Common.{◌<◌, arith, sym}
use Rattle.model.proofs.Firsts.{none_more}
use Rattle.heads.specs.Heads.{sheets_of}
use Rattle.heads.proofs.Heads.{sheets_most}
use Rattle.rows.proofs.Rows.{first_block_more, blocks_few}
use Rattle.book.proofs.fault.check_faults.Goals as goal

pub first_block-start-requires : goal.first_block-start-requires
first_block-start-requires c =
    let whole = c.args.book.now in
    omega (arith, c.in-Some.ensures.0, sheets_most whole.bytes.now whole.right)

pub blocks_of-start-requires : goal.blocks_of-start-requires
blocks_of-start-requires c =
    let whole = c.args.book.now in
    omega (arith, rw c.head-2.ensures at c.sheets-s-end.ensures.0, sheets_most whole.bytes.now whole.right)

pub overflow_add-start : goal.overflow_add-start
overflow_add-start c =
    let whole = c.args.book.now in
    let p : c.loop-s.s < sheets_of whole.bytes.now = omega (arith, rw c.head-2.ensures at c.sheets-s-end.ensures.0) in
    omega (arith, c.loop-s.invariant.0, rw c.head-in-loop-s.ensures at c.blocks_of-start.ensures.0, blocks_few whole.bytes.now whole.length whole.blocks c.loop-s.s p)

pub loop-s-preserved : goal.loop-s-preserved
loop-s-preserved c = (
  rw (c.loop-s.invariant.0, rw c.head-in-loop-s.ensures at c.blocks_of-start.ensures.0) (sym (first_block_more _ c.loop-s.s)),
  none_more c.loop-s.invariant.1 c.in_ok-check_sheet.ensures.right,
)
