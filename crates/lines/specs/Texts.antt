-- The text of a run, as bytes in ASCII: numbers, fields, lines, the whole. Nothing here is proved: the laws stand in proofs/.
use Rattle.std.specs.Prelude.{true, false, cond, List, [], ◌∷◌, ◌++◌, ℕ, zero, suc, ◌+◌, ◌/◌, ◌%◌, ltb}
use Prim.Native.Char.{code}
use Prim.Native.String.{String}
use Prim.Native.String.{[] as empty, ◌∷◌ as ◌then◌}
use Rattle.model.specs.Answers.{answer_at, domain_in}
use Rattle.fields.specs.Bytes.{byte_at}

-- the bytes of letters, digits, spaces and newlines
abbrev pub ascii : String → List ℕ
ascii empty = []
ascii (c then s) = code c ∷ ascii s

-- ---- numbers and fields
-- x in base ten without leading zeros, in at most k digits: a number below ten is its digit (48 is `0`); any other is the text of x / 10,
-- and then the digit x % 10
unfoldable pub number_in : ℕ → ℕ → List ℕ
number_in zero x = []
number_in (suc k) x = elim (ltb x 10) [ true ↦ (48 + x) ∷ [] | false ↦ number_in k (x / 10) ++ ((48 + x % 10) ∷ []) ]

-- "Figures are in base ten"; no number of 64 bits has more than 20 of them
abbrev pub number : ℕ → List ℕ
number x = number_in 20 x

-- "with one space between fields": a space, then the number
abbrev pub field : ℕ → List ℕ
field x = ascii " " ++ number x

abbrev pub newline : List ℕ
newline = ascii "\n"

-- ---- a line
-- "the C domains"
unfoldable pub domain_fields : List ℕ → ℕ → List ℕ
domain_fields a zero = []
domain_fields a (suc c) = domain_fields a c ++ field (domain_in a c)

-- of answer i, whose bytes are a: "answer number, refusal, status, depth, done, byte 3"
--
--     byte of a   0        1       2      3        4     5  6  7   8 .. 11   12 .. 15        68 .. 71
--                 refusal  status  depth  outcome  done  0  0  0   domain 0  domain 1   ..   domain 15
unfoldable pub answer_head : ℕ → List ℕ → List ℕ
answer_head i a =
    number i ++ field (byte_at a 0) ++ field (byte_at a 1) ++ field (byte_at a 2) ++ field (byte_at a 4) ++ field (byte_at a 3)

-- "Each line: answer number, .., the C domains"
unfoldable pub answer_line : ℕ → ℕ → List ℕ → List ℕ
answer_line C i a = answer_head i a ++ domain_fields a C ++ newline

-- the lines of the first k answers
unfoldable pub answer_lines : ℕ → List ℕ → ℕ → List ℕ
answer_lines C space zero = []
answer_lines C space (suc i) = answer_lines C space i ++ answer_line C i (answer_at space i)

-- ---- a run
-- "Last line: accepted and the count"
unfoldable pub accepted_line : ℕ → List ℕ
accepted_line k = ascii "accepted" ++ field k ++ newline

-- "a refused run prints only: refused, number, place"; the run's number is "refusal × 65,536 + place"
unfoldable pub refused_line : ℕ → List ℕ
refused_line r = ascii "refused" ++ field (r / 65536) ++ field (r % 65536) ++ newline

-- the whole text of a run that returned r, on a book of C columns, with n orders: answers 0 to n, then the last line
unfoldable pub printed : ℕ → ℕ → ℕ → List ℕ → List ℕ
printed r C n space = cond (ltb r 65536) (answer_lines C space (suc n) ++ accepted_line r) (refused_line r)
