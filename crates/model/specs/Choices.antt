-- Choices of one value from each domain of a store: the order between them, and tests over all of them.
use Rattle.std.specs.Prelude.{◌≡◌, ◌↔◌, Bool, true, false, not, List, [], ◌∷◌, map, ℕ, zero, suc, ◌*◌, ◌≤◌, ◌<◌, length, get_or}
use Rattle.model.specs.Tests.{any_below, count}
use Rattle.model.specs.Masks.{bit, size}
use Rattle.model.specs.Stores.{has}

-- the entries of a list at some places
abbrev pub pick : List ℕ → List ℕ → List ℕ
pick x places = map (λ c. get_or x c 0) places

-- x takes one value of each domain of B
pub record Takes (B x : List ℕ) : Type 0 where
  pub size : length x ≡ length B
  pub each : (c : ℕ) → c < length B → has B c (get_or x c 0) ≡ true

-- x "has the lower value in the lowest column where they differ"
pub record Lower (x y : List ℕ) : Type 0 where
  pub column : ℕ
  pub same : (d : ℕ) → d < column → get_or x d 0 ≡ get_or y d 0
  pub less : get_or x column 0 < get_or y column 0

-- ---- tests over all choices
-- some choice passes
unfoldable pub any_choice : List ℕ → (List ℕ → Bool) → Bool
any_choice [] p = p []
any_choice (m ∷ B) p = any_below 32 (λ v. elim (bit v m) [ true ↦ any_choice B (λ x. p (v ∷ x)) | false ↦ false ])

-- every choice passes: there is none that does not
abbrev pub every_choice : List ℕ → (List ℕ → Bool) → Bool
every_choice B p = not (any_choice B (λ x. not (p x)))

-- ---- how many choices there are
-- from the domains of B: the product of their sizes
unfoldable pub space : List ℕ → ℕ
space [] = 1
space (m ∷ B) = size m * space B

-- the same of all domains but that of place i
unfoldable pub space_but : ℕ → List ℕ → ℕ
space_but i [] = 1
space_but zero (m ∷ B) = space B
space_but (suc i) (m ∷ B) = size m * space_but i B

-- ---- choices without repeats
-- each number below n that passes stands for a choice from B, with `cell r j` at place j, and no two stand for the same one
pub record Distinct (B : List ℕ) (n : ℕ) (passes : ℕ → Bool) (cell : ℕ → ℕ → ℕ) : Type 0 where
  pub inside : (r : ℕ) → r < n → passes r ≡ true → (j : ℕ) → j < length B → has B j (cell r j) ≡ true
  pub differ : (r q : ℕ) → r < n → q < n → passes r ≡ true → passes q ≡ true → ((j : ℕ) → j < length B → cell r j ≡ cell q j) → r ≡ q

-- the choice t is one of them
pub record Listed (B : List ℕ) (n : ℕ) (passes : ℕ → Bool) (cell : ℕ → ℕ → ℕ) (t : List ℕ) : Type 0 where
  pub number : ℕ
  pub inside : number < n
  pub chosen : passes number ≡ true
  pub same : (j : ℕ) → j < length B → cell number j ≡ get_or t j 0

-- the pigeonhole: there are at most as many of them as choices, and as many exactly when each choice is one of them. Proved as `pigeonhole`
-- (proofs/Tallies.antt), of domains of 32 values and any number of them
pub record Pigeonhole (B : List ℕ) (n : ℕ) (passes : ℕ → Bool) (cell : ℕ → ℕ → ℕ) : Type 0 where
  pub most : count n passes ≤ space B
  pub full : (count n passes ≡ space B) ↔ ((t : List ℕ) → Takes B t → Listed B n passes cell t)
