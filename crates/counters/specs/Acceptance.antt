-- The counters and the place of rows on both sides of every block's end and word's end, worked out.
use Rattle.std.specs.Prelude.{◌≡◌}
use Rattle.counters.specs.Counters.{CountersOf, cell_place}

pub record WalkFacts : Type 0 where
  pub first_row : CountersOf 0 0 0 0 0
  -- a word's last row, and the next word's first
  pub row_63 : CountersOf 63 0 63 0 63
  pub row_64 : CountersOf 64 0 64 1 0
  -- a block's last row, and the next block's first, in the same word; and the first of the next word
  pub row_126 : CountersOf 126 0 126 1 62
  pub row_127 : CountersOf 127 1 0 1 63
  pub row_128 : CountersOf 128 1 1 2 0
  pub row_253 : CountersOf 253 1 126 3 61
  pub row_254 : CountersOf 254 2 0 3 62
  pub row_380 : CountersOf 380 2 126 5 60
  pub row_381 : CountersOf 381 3 0 5 61
  -- the last row that a sheet can have
  pub row_507 : CountersOf 507 3 126 7 59
  -- of a sheet that begins with block 1: between rows 126 and 127 stands the check
  pub place_126 : cell_place 512 126 3 ≡ 1019
  pub place_127 : cell_place 512 127 0 ≡ 1024
  pub place_507 : cell_place 512 507 3 ≡ 2555
