-- The worked examples, by computation. A wrong definition shows here first. Assumes nothing.
use Rattle.std.proofs.Common.{refl}
use Rattle.heads.proofs.Acceptance.{computing as head-computing}
use Rattle.rows.specs.Rows.{any_places, blocks_of, fall_place, falls, falls_in, first_block, first_fall, blocks_needed, row_place, is_value, bound_of, is_wrong, wrong_byte, wrong_block, wrong_sheet, kind_of, fault_at, fault_in_block, fault_in_sheet, first_fault}
use Rattle.rows.specs.Acceptance.{sealed, AnyFacts, ForbiddenFacts, RowFacts}

-- opens every definition that an example computes with; where one is missing, the example fails uncomputed, and not with `true` against `false`
unfoldable pub computing : Unit {0}
unfolding head-computing any_places falls falls_in fall_place first_fall blocks_of first_block blocks_needed row_place is_value bound_of is_wrong wrong_byte wrong_block wrong_sheet kind_of fault_at fault_in_block fault_in_sheet first_fault sealed
computing = tt

pub row_facts : RowFacts
unfolding computing
row_facts = record {
  rows0 = refl;
  rows1 = refl;
  rows127 = refl;
  rows128 = refl;
  rows508 = refl;
  needed = refl;
  last_in_block = refl;
  first_in_next = refl;
  value = refl;
  filler = refl;
  filler_kind = refl;
  unused_row = refl;
  unused_kind = refl;
  next_block = refl;
  next_unused = refl;
}

pub any_facts : AnyFacts
unfolding computing
any_facts = record {
  first = refl;
  last = refl;
  first_254 = refl;
  last_254 = refl;
  only_value = refl;
  value_1 = refl;
  value_31 = refl;
  value_32 = refl;
  large_kind = refl;
  filler = refl;
  filler_kind = refl;
  unused = refl;
  unused_kind = refl;
}

pub forbidden_facts : ForbiddenFacts
unfolding computing
forbidden_facts = record {
  first = refl;
  last = refl;
  large_kind = refl;
  value_31 = refl;
  value_32 = refl;
  filler = refl;
  filler_kind = refl;
  unused_kind = refl;
  rises = refl;
  equal = refl;
  lower = refl;
  row_0 = refl;
  first_byte = refl;
  last_byte = refl;
  next_block = refl;
  next_above = refl;
  plain = refl;
  forbidden = refl;
  place = refl;
}
