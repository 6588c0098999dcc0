-- The worked examples, by computation. A wrong definition shows here first. Assumes nothing.
use mathlib.Core.Path.{refl}
use Rattle.rows.proofs.Acceptance.{computing as row-computing}
use Rattle.book.specs.Verdicts.{order_verdict, verdict, check_result}
use Rattle.book.specs.Places.{place_sheet, place_row, wrong_cell, place_byte, place_column}
use Rattle.book.specs.Decoding.{row_of, sheet_of, book_of}
use Rattle.book.specs.Acceptance.{DecodedFacts, HarbourFacts, NumberFacts, PlaceFacts}

-- opens every definition that an example computes with; where one is missing, the example fails uncomputed, and not with `true` against `false`
unfoldable pub computing : Unit {0}
unfolding row-computing order_verdict verdict check_result place_sheet place_row wrong_cell place_byte place_column row_of sheet_of book_of
computing = tt

pub harbour_facts : HarbourFacts
unfolding computing
harbour_facts = record {
  book = refl;
  check0 = refl;
  check1 = refl;
  check2 = refl;
}

pub decoded_facts : DecodedFacts
unfolding computing
decoded_facts = record {
  any = refl;
  forbidden = refl;
}

pub number_facts : NumberFacts
number_facts = record {
  large = refl;
  filler = refl;
  next = refl;
  last = refl;
}

pub place_facts : PlaceFacts
unfolding computing
place_facts = record {
  first_sheet = refl;
  first_row = refl;
  last_sheet = refl;
  last_row = refl;
  next_sheet = refl;
  next_row = refl;
  second_block = refl;
  second_byte = refl;
  after_any = refl;
  second_column = refl;
}
