use mathlib.Core.Path.{ap, refl}
use Prim.Native.Nat.{ℕ, ◌<◌}
use native.Mathlib.Omega.{arith}
use borrow.Author.Rules.{rules}
use lib.ListN.{get_or}
use Rattle.words.specs.Sheets.{value_in}
use Rattle.words.proofs.Cuts.{bit_is, bit_not, cut_changed, cut_unchanged, word_kept}
use Rattle.words.proofs.Places.{width_most}
use Rattle.words.proofs.cut.cut_place.Goals as goal

pub column-c-requires : goal.column-c-requires
column-c-requires c = omega (arith, c.requires.0, (width_most c.args.sheet.now.at).1)

pub cut-requires : goal.cut-requires
cut-requires c = let l : c.args.j < 4 = omega (arith, c.requires.0, (width_most c.args.sheet.now.at).1) in (
  c.requires.1,
  λ w x t. search rules,
  (value_in c.args.sheet.now.book.now c.args.sheet.now.number c.args.j (get_or c.args.dom.now c.column-c.result 0), record { at = λ w x y t g. search (rules, word_kept c.args.sheet.now.at) }),
)

pub returns-then-changed-c-eq1 : goal.returns-then-changed-c-eq1
returns-then-changed-c-eq1 c = (
  cut_changed _ _ _ _ _ _ (bit_is _ _ _ c.column-c.ensures.0 c.if-changed-c-eq1.true) (ap (λ (i : ℕ). get_or c.args.dom.now i 0) c.column-c.ensures.0)
      (c.cut.ensures.0 _ record { at = λ w x y t g. search (rules, word_kept c.args.sheet.now.at) }),
  c.cut.ensures.1,
)

pub returns : goal.returns
returns c = (cut_unchanged _ _ _ _ _ _ _ _ c.requires.1 (bit_not _ _ _ c.column-c.ensures.0 c.if-changed-c-eq1.false), λ e. refl)
