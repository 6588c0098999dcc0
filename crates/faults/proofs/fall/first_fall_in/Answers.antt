use Rattle.std.proofs.Common.{◌+◌, ◌*◌, ◌<◌, ℕ, length, ap, refl, sym, ◌∙◌, arith, rules, tests}
use Rattle.model.proofs.Firsts.{first_of_found, none_empty, none_more}
use Rattle.rows.specs.Rows.{falls}
use Rattle.faults.proofs.Rises.{before_next, falls_test, next_row, row_first, row_next, row_there}
use Rattle.faults.proofs.fall.first_fall_in.Goals as goal

pub loop-r-init : goal.loop-r-init
loop-r-init c = (ap (λ (n : ℕ). 512 * n) c.args.sheet.now.starts ∙ sym (row_first _ _), refl, refl, none_empty (omega arith))

pub string_at-x-requires : goal.string_at-x-requires
string_at-x-requires c = row_there _ _ _ _ c.args.sheet.now.there c.loop-r.invariant.0 (search rules)

pub returns-then-is_some_and : goal.returns-then-is_some_and
returns-then-is_some_and c = let sheet = c.args.sheet.now in
    first_of_found {f = falls sheet.book.now sheet.number} (omega arith) (search rules) c.loop-r.invariant.3
    (falls_test sheet.book.now sheet.number c.loop-r.r _ _ _ _ c.loop-r.invariant.0 c.loop-r.invariant.2 c.string_at-x.ensures c.is_some_and.ensures (λ p e. search (rules, tests)) ∙ c.if-is_some_and.true)

-- a row lies inside the book
pub overflow_add-at-in-loop-r : goal.overflow_add-at-in-loop-r
overflow_add-at-in-loop-r c =
    let there : c.loop-r.at + 3 < length c.args.sheet.now.book.now = row_there _ _ _ _ c.args.sheet.now.there c.loop-r.invariant.0 (search rules) in
    omega (arith, there)

pub loop-r-preserved : goal.loop-r-preserved
loop-r-preserved c = let sheet = c.args.sheet.now in (
  rw (c.loop-r.invariant.0, c.ends-more.ensures) (sym (row_next _ _ _ _ c.loop-r.invariant.1)),
  rw c.ends-more.ensures (next_row _ _ c.loop-r.invariant.1),
  rw (c.string_at-x.ensures, c.loop-r.invariant.0) (before_next sheet.book.now sheet.number c.loop-r.r),
  none_more c.loop-r.invariant.3
      (falls_test sheet.book.now sheet.number c.loop-r.r _ _ _ _ c.loop-r.invariant.0 c.loop-r.invariant.2 c.string_at-x.ensures c.is_some_and.ensures (λ p e. search (rules, tests)) ∙ c.if-is_some_and.false),
)
