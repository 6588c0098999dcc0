use mathlib.Core.Path.{◌∙◌, sym}
use native.Mathlib.Omega.{arith}
use lib.ListN.{length}
use borrow.Author.Rules.{rules}
use Rattle.book.specs.Verdicts.{Accepted}
use Rattle.runs.specs.Results.{RightInput}
use Rattle.runs.proofs.Results.{book_number, book_refused, list_refused, result_accepted, right_list, right_zero, space_accepted, space_short}
use Rattle.runs.proofs.run.run.Goals as goal
use Rattle.runs.proofs.run.run.Goals.{Else-answers-needed, In_ok-book}

pub returns-in_err-book : goal.returns-in_err-book
returns-in_err-book c =
    rw (book_number _ _ c.from_residual.ensures.1) (book_refused _ _ _ c.in_err-book.field-0.0 c.in_err-book.ensures.refused)

-- the bytes are those of an accepted book
accepted : (c : In_ok-book) → Accepted c.args.book.now
accepted c = rw (← c.in_ok-book.ensures.accepted) c.in_ok-book.book.accepted

pub returns-then-wrong_list : goal.returns-then-wrong_list
returns-then-wrong_list c = list_refused _ _ _ (accepted (goal.at.returns-then-wrong_list c).In_ok-book) c.wrong_list.ensures c.if-wrong_list.true

pub overflow_mul-needed : goal.overflow_mul-needed
overflow_mul-needed c = let l = right_list _ (sym c.wrong_list.ensures ∙ c.if-wrong_list.false) in search (rules, l)

pub overflow_cast-result : goal.overflow_cast-result
overflow_cast-result c = let l = right_list _ (sym c.wrong_list.ensures ∙ c.if-wrong_list.false) in search (rules, l)

pub returns-then-answers-needed : goal.returns-then-answers-needed
returns-then-answers-needed c =
    space_short _ _ _ (accepted (goal.at.returns-then-answers-needed c).In_ok-book) c.wrong_list.ensures c.if-wrong_list.false (omega (arith, c.if-answers-needed.true))

-- nothing is wrong
right : (c : Else-answers-needed) → RightInput c.args.book.now c.args.orders.now (length c.args.answers.now)
right c = record {
  book = accepted (goal.at.Else-answers-needed c).In_ok-book;
  list = sym c.wrong_list.ensures ∙ c.if-wrong_list.false;
  enough = omega (arith, c.if-answers-needed.false);
}

pub run_orders-ran-requires : goal.run_orders-ran-requires
run_orders-ran-requires c = rw c.in_ok-book.ensures.accepted (right (goal.at.run_orders-ran-requires c).Else-answers-needed)

pub returns : goal.returns
returns c =
    let r = rw c.in_ok-book.ensures.accepted at c.run_orders-ran.ensures in
    let e = right_zero _ _ _ (right (goal.at.returns c).Else-answers-needed) in
    (r.counts ∙ sym (result_accepted _ _ _ e), r.wrote ∙ sym (space_accepted _ _ _ e))
