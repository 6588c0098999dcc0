-- The worked examples, by computation. A wrong definition shows here first. Assumes nothing.
use Rattle.std.proofs.Common.{refl}
use Rattle.model.specs.Tests.{any_below, sum, lowest, tab}
use Rattle.heads.specs.Blocks.{wrong_length, word_sum, check_of, wrong_check, first_wrong_check}
use Rattle.heads.specs.Heads.{forbids_of, width_of, wrong_letters, wrong_columns, wrong_sheets, wrong_values, wrong_width, not_rising, wrong_column, wrong_rows, wrong_in_entry, wrong_entry, wrong_field, first_wrong_field}
use Rattle.heads.specs.Acceptance.{BlockFacts, FieldFacts}

-- opens every definition that an example computes with; where one is missing, the example fails uncomputed, and not with `true` against `false`
unfoldable pub computing : Unit {0}
unfolding any_below sum lowest tab wrong_length word_sum check_of wrong_check first_wrong_check forbids_of width_of wrong_letters wrong_columns wrong_sheets wrong_values wrong_width not_rising wrong_column wrong_rows wrong_in_entry wrong_entry wrong_field first_wrong_field
computing = tt

pub block_facts : BlockFacts
unfolding computing
block_facts = record {
  none = refl;
  least = refl;
  odd = refl;
  longest = refl;
  long = refl;
  carry = refl;
  carry_last = refl;
  bit31 = refl;
  last_word = refl;
}

pub field_facts : FieldFacts
unfolding computing
field_facts = record {
  right = refl;
  letters = refl;
  no_column = refl;
  most_columns = refl;
  many_columns = refl;
  most_sheets = refl;
  many_sheets = refl;
  zero6 = refl;
  zero7 = refl;
  no_value = refl;
  most_values = refl;
  many_values = refl;
  value_past = refl;
  no_width = refl;
  widest = refl;
  wide = refl;
  equal_column = refl;
  high_column = refl;
  mark_alone = refl;
  narrowest_forbidden = refl;
  widest_forbidden = refl;
  wide_forbidden = refl;
  highest_byte = refl;
  plain_sheet = refl;
  forbidden_sheet = refl;
  forbidden_width = refl;
  past_width = refl;
  byte5 = refl;
  past_width1 = refl;
  byte5_1 = refl;
  no_rows = refl;
  most_rows = refl;
  many_rows = refl;
  high_byte = refl;
  unused_entry = refl;
  last_zero = refl;
}
