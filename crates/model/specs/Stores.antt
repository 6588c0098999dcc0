-- Stores. A store (document 01: box) is a list of masks, one for each column: mask c is the domain of column c.
use Rattle.std.specs.Prelude.{◌≡◌, Bool, true, false, List, ℕ, ◌^◌, ◌<◌, length, get_or, set}
use Rattle.std.specs.Int.Bits.{bit_and}
use Rattle.model.specs.Tests.{all_below, any_below, one_if, sum, tab}
use Rattle.model.specs.Masks.{bit, mask_of}

-- "A domain is the set of values left in a column": column c of the store B has the value v
unfoldable pub has : List ℕ → ℕ → ℕ → Bool
has B c v = bit v (get_or B c 0)

-- B lies within A: every value of B is a value of A, and equal counts
pub record Within (B A : List ℕ) : Type 0 where
  pub at : (c v : ℕ) → has B c v ≡ true → has A c v ≡ true

-- "A box gives each column a domain": C masks of 32 bits
pub record IsStore (C : ℕ) (A : List ℕ) : Type 0 where
  pub columns : length A ≡ C
  pub bits : (c : ℕ) → get_or A c 0 < 2 ^ 32

-- the store of C columns whose values, below 32, are those that pass a test
unfoldable pub store_of : ℕ → (ℕ → ℕ → Bool) → List ℕ
store_of C f = tab C (λ c. mask_of 32 (λ v. f c v))

-- the store of C empty columns
unfoldable pub empty_store : ℕ → List ℕ
empty_store C = store_of C (λ c v. false)

-- column c of D met with the mask m
abbrev pub meet : List ℕ → ℕ → ℕ → List ℕ
meet D c m = set D c (bit_and (get_or D c 0) m)

-- column c of D set to the value v alone
abbrev pub assign : List ℕ → ℕ → ℕ → List ℕ
assign D c v = set D c (2 ^ v)

-- no column is empty
unfoldable pub all_filled : ℕ → List ℕ → Bool
all_filled C B = all_below C (λ c. any_below 32 (λ v. has B c v))

-- the number of values in a store
unfoldable pub values : ℕ → List ℕ → ℕ
values C A = sum C (λ c. sum 32 (λ v. one_if (has A c v)))
