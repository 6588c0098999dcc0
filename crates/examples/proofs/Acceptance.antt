-- The worked examples of the calls, by computation. Assumes nothing.
use mathlib.Core.Path.{◌∙◌, ◌≡◌, ap, refl, sym}
use native.Mathlib.Omega.{arith}
use Rattle.model.specs.Acceptance.{HA}
use Rattle.model.specs.Answers.{all_bytes, domain_bytes}
use Rattle.model.specs.WrittenOut.{written_out}
use Rattle.model.proofs.Acceptance.{written_out_facts, computing as orders-computing}
use Rattle.rows.specs.Acceptance.{harbour}
use Rattle.book.specs.Decoding.{book_of}
use Rattle.book.specs.Verdicts.{check_result}
use Rattle.book.proofs.Acceptance.{computing, harbour_facts}
use Rattle.promises.proofs.Comparisons.{runs_compare}
use Rattle.promises.proofs.Twins.{written_out_runs}
use Rattle.runs.specs.Results.{run_refusal, run_result, run_space, wrong_list}
use Rattle.examples.specs.Acceptance.{AnyBoardFacts, CheckFacts, FaultFacts, ForbiddenPairFacts, RiseCheckFacts, RowCheckFacts, RunFacts, any_board, forbidden_pair}

pub check_facts : CheckFacts
unfolding computing
check_facts = record {
  harbour_accepted = refl;
  tiny_accepted = refl;
  empty = refl;
  short = refl;
  second_check = refl;
  many_values = refl;
  rows_509 = refl;
  last_zero = refl;
  block_too_many = refl;
}

pub row_check_facts : RowCheckFacts
unfolding computing
row_check_facts = record {
  large_value = refl;
  filler_first = refl;
}

pub rise_check_facts : RiseCheckFacts
unfolding computing
rise_check_facts = record {
  rises = refl;
  equal_rows = refl;
  filler_later = refl;
  any_later = refl;
  plain_rows = refl;
}

pub forbidden_pair_facts : ForbiddenPairFacts
unfolding computing
forbidden_pair_facts = record { accepted = refl; stands_for = refl; compared = runs_compare forbidden_pair }

pub fault_facts : FaultFacts
unfolding computing
fault_facts = record {
  value_first = refl;
  unused_end = refl;
  second_value = refl;
  second_unused = refl;
}

any_accepted : check_result any_board ≡ 50
unfolding computing
any_accepted = refl

any_stands_for : book_of any_board ≡ HA
unfolding computing
any_stands_for = refl

pub any_board_facts : AnyBoardFacts
any_board_facts = record {
  accepted = any_accepted;
  stands_for = any_stands_for;
  runs = written_out_runs any_board harbour (rw any_accepted (omega arith)) (rw check_facts.harbour_accepted (omega arith))
      (harbour_facts.book ∙ sym written_out_facts.harbour ∙ ap written_out (sym any_stands_for));
}

pub run_facts : RunFacts
unfolding computing orders-computing domain_bytes wrong_list run_refusal run_result run_space all_bytes
run_facts = record {
  no_book = refl;
  ragged = refl;
  orders_256 = refl;
  orders_257 = refl;
  short_space = refl;
  exact_space = refl;
  two_accepted = refl;
  four_answers = refl;
  nothing_written = refl;
}
