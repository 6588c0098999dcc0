-- Blocks and their checks. "A book is 1 to 33 blocks of 512 bytes."
use Rattle.std.specs.Prelude.{◌≡◌, ℕ, ◌+◌, ◌*◌, ◌/◌, ◌%◌, ◌^◌, Bool, false, not, ◌||◌, List, length, take, drop, ◌==◌}
use Rattle.model.specs.Tests.{NoneIn, lowest, sum}
use Rattle.fields.specs.Bytes.{word_at}
use Rattle.heads.specs.Limits.{out_of_range}

-- "the length isn't a multiple of 512 from 512 to 16,896"
unfoldable pub wrong_length : List ℕ → Bool
wrong_length b = not (length b % 512 == 0) || out_of_range 512 16896 (length b)

-- how many blocks there are
abbrev pub block_count : List ℕ → ℕ
block_count b = length b / 512

-- block n of the file
abbrev pub block_at : List ℕ → ℕ → List ℕ
block_at b n = take 512 (drop (512 * n) b)

-- number i of the 32-bit numbers of a block
abbrev pub word : List ℕ → ℕ → ℕ
word block i = word_at block (4 * i)

-- "the sum of the 127 32-bit numbers in bytes 0 to 507"
unfoldable pub word_sum : List ℕ → ℕ
word_sum block = sum 127 (word block)

-- what the check of block n has to be: the sum "plus b + 1. The sum leaves out every carry past 32 bits."
unfoldable pub check_of : List ℕ → ℕ → ℕ
check_of block n = (word_sum block + (n + 1)) % 2 ^ 32

-- "Bytes 508 to 511 of block b are its check": it is wrong
unfoldable pub wrong_check : List ℕ → ℕ → Bool
wrong_check b n = not (word_at (block_at b n) 508 == check_of (block_at b n) n)

-- "2 if a check is wrong, place the lowest such block"; the number of blocks where none is
unfoldable pub first_wrong_check : List ℕ → ℕ
first_wrong_check b = lowest (block_count b) (wrong_check b)

-- the length is right; every check is
abbrev pub RightLength : List ℕ → Type 0
RightLength b = wrong_length b ≡ false

abbrev pub RightChecks : List ℕ → Type 0
RightChecks b = NoneIn (wrong_check b) 0 (block_count b)
