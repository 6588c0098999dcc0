use mathlib.Core.Path.{◌∙◌, ◌≡◌, refl}
use native.Mathlib.Omega.{arith}
use Rattle.model.proofs.Tests.{or_false_l, or_false_r}
use Rattle.heads.specs.Heads.{width_of}
use Rattle.words.proofs.Cuts.{cut_words, cut_more, cut_none}
use Rattle.words.proofs.cut.cut_places.Goals as goal

pub loop-j-init : goal.loop-j-init
loop-j-init c = (cut_none _ _ _ _ _ _ _ c.requires, c.requires, λ e. (e, refl))

pub cut_place-any-requires : goal.cut_place-any-requires
cut_place-any-requires c = (omega (arith, c.width-j-end.ensures.0), c.loop-j.invariant.1)

pub loop-j-preserved : goal.loop-j-preserved
loop-j-preserved c = (
  cut_more _ _ _ _ _ c.loop-j.invariant.0 c.cut_place-any.ensures.0,
  cut_words c.cut_place-any.ensures.0 c.loop-j.invariant.1,
  λ e. let f = c.loop-j.invariant.2 (or_false_l c.loop-j.any c.cut_place-any.result e) in (f.0, c.cut_place-any.ensures.1 (or_false_r c.loop-j.any c.cut_place-any.result e) ∙ f.1),
)

pub returns : goal.returns
returns c = let e : c.loop-j.j ≡ width_of c.args.sheet.now.book.now c.args.sheet.now.number = omega (arith, c.width-j-end.ensures.0) in
    (rw e at c.loop-j.invariant.0, c.loop-j.invariant.2)
