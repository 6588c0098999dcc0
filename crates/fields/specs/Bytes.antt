-- The bytes of a list and the numbers that they make: "fields of several bytes have the lowest byte first".
--
--     byte        i      i + 1    i + 2      i + 3
--     counts for  1      256      65,536     16,777,216
use Rattle.std.specs.Prelude.{List, [], ◌∷◌, ◌++◌, ℕ, ◌+◌, ◌*◌, ◌/◌, ◌%◌, drop, get_or, length, take}

-- byte i, or 0 past the end
abbrev pub byte_at : List ℕ → ℕ → ℕ
byte_at b i = get_or b i 0

-- the number in bytes i and i + 1
abbrev pub half_at : List ℕ → ℕ → ℕ
half_at b i = byte_at b i + byte_at b (i + 1) * 256

-- the number in bytes i to i + 3
abbrev pub word_at : List ℕ → ℕ → ℕ
word_at b i = byte_at b i + byte_at b (i + 1) * 256 + byte_at b (i + 2) * 65536 + byte_at b (i + 3) * 16777216

-- a number of 16 bits as its two bytes
abbrev pub half_bytes : ℕ → List ℕ
half_bytes x = x % 256 ∷ x / 256 % 256 ∷ []

-- a number of 32 bits as its four bytes
abbrev pub word_bytes : ℕ → List ℕ
word_bytes x = x % 256 ∷ x / 256 % 256 ∷ x / 65536 % 256 ∷ x / 16777216 % 256 ∷ []

-- xs with ys written over it from byte i on
unfoldable pub over : List ℕ → ℕ → List ℕ → List ℕ
over xs i ys = take i xs ++ (ys ++ drop (i + length ys) xs)
