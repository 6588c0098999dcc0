-- Document 01's examples, by computation. Assumes nothing.
use mathlib.Core.Path.{refl}
use mathlib.Core.List.{flat_map}
use Rattle.model.specs.Tests.{all_below, any_below, all_in, any_in, sum, count, lowest, eq_list, tab}
use Rattle.model.specs.Masks.{bit, mask_of}
use Rattle.model.specs.Stores.{has, store_of, empty_store, all_filled, values}
use Rattle.model.specs.Closure.{strike, rounds, closure_of}
use Rattle.model.specs.Choices.{any_choice, space, space_but}
use Rattle.model.specs.Books.{in_domain, row_matches, is_row, allows, supports, supported_in, supported, closure}
use Rattle.model.specs.Search.{open_column, value_of, try_each, search_from, searched}
use Rattle.model.specs.Orders.{wrong_place, some_wrong, depth, before, first_cause, outside, refusal, push, trail_from, permits, allowed, domains}
use Rattle.model.specs.Answers.{assigned, status_of, subsumed, done_of, outcome, showing, answer, answers_from, last_from, accepted_from, domain_bytes, answer_bytes}
use Rattle.model.specs.States.{valid, valid_row, valid_rows_at, valid_word}
use Rattle.model.specs.WrittenOut.{written_cell, written_row, written_sheet, written_out}
use Rattle.model.specs.Acceptance.{TenFacts, SevenLines, SearchFacts, TriesFacts, RefusalFacts, ByteFacts, WrittenOutFacts, DoneFacts, ForbiddenFacts, MayDiffer}

-- opens every definition that an example computes with
unfoldable pub computing : Unit {0}
unfolding lowest all_below any_below all_in any_in sum count eq_list tab bit mask_of has store_of empty_store all_filled values strike rounds closure_of any_choice in_domain row_matches is_row allows supports supported_in supported closure wrong_place some_wrong depth before first_cause outside refusal push trail_from permits allowed domains assigned status_of subsumed done_of outcome showing answer answers_from last_from accepted_from answer_bytes open_column value_of try_each search_from searched
computing = tt

pub ten_facts : TenFacts
unfolding computing
ten_facts =
    record {
      k1 = refl;
      k2 = refl;
      k3 = refl;
      k4 = refl;
      k5 = refl;
      k6 = refl;
      k7 = (refl, refl);
      k8 = refl;
      k9 = refl;
      k10 = refl;
    }

pub seven_lines : SevenLines
unfolding computing
seven_lines = record { lines = refl; accepted = refl }

pub search_facts : SearchFacts
unfolding computing
search_facts = record { k6 = refl; k7 = refl; lowest_column = refl; dead_first_shown = refl }

pub tries_facts : TriesFacts
unfolding computing
tries_facts =
    record {
      stopped_at_1 = refl;
      found_at_2 = refl;
      found_at_3 = refl;
      k7_stopped = refl;
      k7_none = refl;
      failed = refl;
      decided = refl;
      limit_0 = refl;
      limit_1 = refl;
      limit_65535 = refl;
    }

pub refusal_facts : RefusalFacts
unfolding computing
refusal_facts =
    record {
      narrow_byte_2 = refl;
      narrow_byte_3 = refl;
      narrow_column = refl;
      narrow_mask = refl;
      narrow_mask_high = refl;
      narrow_all = refl;
      narrow_none = refl;
      failed_finish = refl;
      failed_back = refl;
      failed_refusal = refl;
      mark_argument = refl;
      mark_last_byte = refl;
      mark_16 = refl;
      mark_17 = refl;
      back_byte_2 = refl;
      back_last_byte = refl;
      back_0 = refl;
      back_above = refl;
      back_depth = refl;
      finish_argument = refl;
      finish_byte_2 = refl;
      finish_byte_3 = refl;
      finish_last_byte = refl;
      finish_65536 = refl;
      finish_65535 = refl;
      finish_refused = refl;
      finish_too_large = refl;
      kind_0 = refl;
      kind_7 = refl;
    }

pub byte_facts : ByteFacts
unfolding computing domain_bytes
byte_facts = record { narrow_bytes = refl; finish_bytes = refl; tries_bytes = refl }

pub written_out_facts : WrittenOutFacts
unfolding tab flat_map written_cell written_row written_sheet written_out
written_out_facts = record { one = refl; two = refl; harbour = refl }

pub done_facts : DoneFacts
unfolding computing
done_facts =
    record {
      all_four = refl;
      one_missing = refl;
      row_twice = refl;
      five = refl;
      five_narrowed = refl;
      any_and_plain = refl;
      any_and_one = refl;
      failed = refl;
    }

pub forbidden_facts : ForbiddenFacts
unfolding computing space space_but valid valid_row valid_rows_at valid_word
forbidden_facts =
    record {
      no_rows = refl;
      all_rows = refl;
      one_row = refl;
      no_row_cut = refl;
      own_strike = refl;
      own_rows = refl;
      counted = refl;
      choices = refl;
      fewer = refl;
      opening = refl;
      first_set = refl;
      board_0 = refl;
      board_1 = refl;
      same_lists = record { at = λ c v. refl };
      same_ends = refl;
      narrower_end = refl;
    }

pub may_differ : MayDiffer
unfolding computing
may_differ =
    record {
      same_marked = record { at = λ c v. refl };
      depths = (refl, refl);
      same_unknown = record { at = λ c v. refl };
      refusals = (refl, refl);
    }
