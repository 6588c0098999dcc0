-- Twins: two books whose sheets allow the same. What a buyer sees of them is the same, whatever their rows are.
use Rattle.std.specs.Prelude.{◌≡◌, List, ℕ, ◌<◌, length, get_or}
use Rattle.model.specs.Books.{Sheet, Book, sheet_at, allows, WellFormed}
use Rattle.model.specs.Answers.{answers, accepted_count}

-- a combination of these columns: a value for each, and "The values are 0 to V − 1"
pub record Combination (counts columns x : List ℕ) : Type 0 where
  pub size : length x ≡ length columns
  pub each : (i : ℕ) → i < length columns → get_or x i 0 < get_or counts (get_or columns i 0) 0

-- two sheets with the same columns that allow the same combinations. What they say of values from V on is all one: no store has them
pub record TwinSheets (counts : List ℕ) (s t : Sheet) : Type 0 where
  pub same_columns : s.columns ≡ t.columns
  pub same_allowed : (x : List ℕ) → Combination counts s.columns x → allows s x ≡ allows t x

-- two books with the same columns, and twins sheet by sheet
pub record Twins (b c : Book) : Type 0 where
  pub same_counts : b.counts ≡ c.counts
  pub as_many : length b.sheets ≡ length c.sheets
  pub sheets : (s : ℕ) → s < length b.sheets → TwinSheets b.counts (sheet_at b s) (sheet_at c s)

-- "What a buyer sees": all answers of every list, and the number of accepted orders
pub record SameAnswers (b c : Book) : Type 0 where
  pub every : (os : List (List ℕ)) → answers b os ≡ answers c os
  pub accepted : (os : List (List ℕ)) → accepted_count b os ≡ accepted_count c os

-- the claim, which `twins_answer` of proofs/Twins.antt proves
abbrev pub TwinsAnswer : Type 0
TwinsAnswer = (b c : Book) → WellFormed b → Twins b c → SameAnswers b c
