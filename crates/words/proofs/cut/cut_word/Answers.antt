use mathlib.Core.Path.{refl, sym}
use mathlib.Core.Bool.{false≢true}
use native.Mathlib.Omega.{arith}
use Rattle.words.proofs.Cuts.{there_at, word_less, word_uncut, word_zero}
use Rattle.words.proofs.cut.cut_word.Goals as goal

pub keep-left-requires : goal.keep-left-requires
keep-left-requires g c = let p = c.requires in p.2 _ _ (there_at c.args.sheet.now.at p.0 p.1 c.word-w.ensures)

pub returns-then-left-word : goal.returns-then-left-word
returns-then-left-word g c = let p = c.requires in
    (λ test k. word_uncut c.args.sheet.now.at p.0 p.1 c.word-w.ensures k c.keep-left.ensures c.if-left-word.true, λ e. refl)

pub returns-then-left-eq0 : goal.returns-then-left-eq0
returns-then-left-eq0 g c = let p = c.requires in (
  λ test k.
      rw (c.drop_word.ensures.0, c.drop_word.ensures.1, c.drop_word.ensures.2)
      (word_zero c.args.sheet.now.at p.0 p.1 c.word-w.ensures k c.keep-left.ensures (omega (arith, c.keep-left.type_inv)) c.if-left-eq0.true),
  λ e. absurd (false≢true (sym e)),
)

pub returns-else-left-eq0 : goal.returns-else-left-eq0
returns-else-left-eq0 g c = let p = c.requires in (
  λ test k.
      word_less c.args.sheet.now.at p.0 p.1 c.word-w.ensures k c.keep-left.ensures (omega (arith, c.keep-left.type_inv)) (omega (arith, c.if-left-eq0.false)),
  λ e. absurd (false≢true (sym e)),
)
