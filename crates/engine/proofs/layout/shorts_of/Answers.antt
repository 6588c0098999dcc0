use mathlib.Core.Path.{◌∙◌, ◌≡◌, ap}
use mathlib.Core.List.{List}
use Prim.Native.Nat.{◌+◌, ◌/◌, ℕ}
use native.Mathlib.Omega.{arith}
use Rattle.heads.specs.Blocks.{block_at, word}
use Rattle.rows.specs.Bounds.{joined}
use Rattle.rows.specs.Rows.{blocks_of, first_block}
use Rattle.words.proofs.Places.{eight}
use Rattle.engine.proofs.Layouts.{short_end, short_more, short_none}
use Rattle.engine.proofs.Worklists.{rows_there}
use Rattle.engine.proofs.layout.shorts_of.Goals as goal

pub blocks_of-q-end-requires : goal.blocks_of-q-end-requires
blocks_of-q-end-requires c = eight c.args.sheet.now.at

pub of-requires : goal.of-requires
of-requires c =
    let a = c.args.sheet.now.at in
    omega (arith, rw c.head.ensures at c.blocks_of-q-end.ensures.0, rows_there _ a.accepted _ a.one, a.begins)

pub loop-q-init : goal.loop-q-init
loop-q-init c = short_none _ _

pub loop-q-preserved : goal.loop-q-preserved
loop-q-preserved c =
    let a = c.args.sheet.now.at in
    let start : c.args.sheet.now.begin / 512 + c.loop-q.q ≡ first_block c.args.sheet.now.book.now c.args.sheet.now.number + c.loop-q.q = omega (arith, a.begins) in
    short_more a.accepted a.one c.loop-q.invariant
    (c.joined_rows-seen.ensures ∙ ap (λ (l : List ℕ). joined (word l) 127) (rw start at c.of.ensures))

pub returns : goal.returns
returns c = short_end (omega (arith, rw c.head.ensures at c.blocks_of-q-end.ensures.0)) c.loop-q.invariant
