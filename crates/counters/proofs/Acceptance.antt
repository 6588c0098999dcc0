-- The facts of specs/Acceptance.antt, each by computing.
use mathlib.Core.Path.{refl}
use Rattle.counters.specs.Acceptance.{WalkFacts}

pub walk_facts : WalkFacts
walk_facts = record {
  first_row = record { block_is = refl; row_is = refl; word_is = refl; bit_is = refl };
  row_63 = record { block_is = refl; row_is = refl; word_is = refl; bit_is = refl };
  row_64 = record { block_is = refl; row_is = refl; word_is = refl; bit_is = refl };
  row_126 = record { block_is = refl; row_is = refl; word_is = refl; bit_is = refl };
  row_127 = record { block_is = refl; row_is = refl; word_is = refl; bit_is = refl };
  row_128 = record { block_is = refl; row_is = refl; word_is = refl; bit_is = refl };
  row_253 = record { block_is = refl; row_is = refl; word_is = refl; bit_is = refl };
  row_254 = record { block_is = refl; row_is = refl; word_is = refl; bit_is = refl };
  row_380 = record { block_is = refl; row_is = refl; word_is = refl; bit_is = refl };
  row_381 = record { block_is = refl; row_is = refl; word_is = refl; bit_is = refl };
  row_507 = record { block_is = refl; row_is = refl; word_is = refl; bit_is = refl };
  place_126 = refl;
  place_127 = refl;
  place_507 = refl;
}
