use mathlib.Core.Path.{◌∙◌, ◌≡◌, refl}
use Prim.Native.Nat.{◌+◌}
use native.Mathlib.Omega.{arith}
use Rattle.heads.specs.Heads.{width_of}
use Rattle.words.proofs.Cuts.{bit_is, bit_not}
use Rattle.words.proofs.Places.{column_below, eight, head_there, width_most}
use Rattle.cover.specs.Covers.{plain_in}
use Rattle.cover.proofs.Fewer.{in_width, plain_free, plain_most, plain_short}
use Rattle.cover.proofs.few.plain_choices.Goals as goal
use Rattle.cover.proofs.few.plain_choices.Goals.{then-shorts-j-eq0, else-shorts-j-eq0}

pub of-head-requires : goal.of-head-requires
of-head-requires c = head_there c.requires.0

pub width-j-end-requires : goal.width-j-end-requires
width-j-end-requires c = eight c.requires.0

pub loop-j-init : goal.loop-j-init
unfolding plain_in
loop-j-init c = refl

pub overflow_shr-shorts : goal.overflow_shr-shorts
overflow_shr-shorts c =
    let inside = in_width c.args.s c.of-head.ensures c.width-j-end.ensures.0 c.loop-j-test.true in
    omega (arith, inside, (width_most c.requires.0).1)

pub column-requires : goal.column-requires
column-requires c =
    let inside = in_width c.args.s c.of-head.ensures c.width-j-end.ensures.0 c.loop-j-test.true in
    (eight c.requires.0, omega (arith, inside, (width_most c.requires.0).1))

pub bounds-sizes-column : goal.bounds-sizes-column
bounds-sizes-column c =
    let inside = in_width c.args.s c.of-head.ensures c.width-j-end.ensures.0 c.loop-j-test.true in
    omega (arith, rw c.of-head.ensures at c.column.ensures.0, column_below c.requires.0 _ inside)

pub overflow_mul-n : goal.overflow_mul-n
overflow_mul-n c =
    let inside = in_width c.args.s c.of-head.ensures c.width-j-end.ensures.0 c.loop-j-test.true in
    let p = c.requires in
    omega (
      arith,
      plain_free p.0 _ _ c.loop-j.j (bit_not _ _ _ refl (λ z. omega (arith, c.if-shorts-j-eq0.true))) (rw c.of-head.ensures at c.column.ensures.0) c.loop-j.invariant,
      plain_most p.0 c.args.shorts _ p.1 (c.loop-j.j + 1) (omega (arith, inside)),
    )

pub loop-j-preserved : goal.loop-j-preserved
loop-j-preserved c =
    elim c.if-shorts-j-eq0.branch [
      | then-shorts-j-eq0 w ↦
          w.n-is ∙ plain_free c.requires.0 _ _ c.loop-j.j (bit_not _ _ _ refl (λ z. omega (arith, w.if-shorts-j-eq0.true))) (rw c.of-head.ensures at w.column.ensures.0) c.loop-j.invariant
      | else-shorts-j-eq0 w ↦ w.n-is ∙ plain_short c.requires.0 _ _ c.loop-j.j (bit_is _ _ _ refl (omega (arith, w.if-shorts-j-eq0.false))) c.loop-j.invariant
    ]

pub returns : goal.returns
returns c = let e : c.loop-j.j ≡ width_of c.args.book.now c.args.s =
    omega (arith, c.loop-j-test.false, c.loop-j.auto.j-end, rw c.of-head.ensures at c.width-j-end.ensures.0) in
    let i = rw e at c.loop-j.invariant in
    (i, omega (arith, i, plain_most c.requires.0 c.args.shorts _ c.requires.1 (width_of c.args.book.now c.args.s) (omega arith)))
