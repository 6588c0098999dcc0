-- Laws of outcomes: a search under a limit. Assumes nothing.
use mathlib.Core.Path.{◌≡◌, refl, sym, ap, ◌∙◌}
use mathlib.Core.Bool.{cond}
use mathlib.Core.Logic.{◌⊎◌, inl, inr}
use mathlib.Core.Option.{none, some}
use mathlib.Core.List.{List}
use Prim.Native.Nat.{ℕ, ◌≤◌, ◌<◌}
use native.Mathlib.Omega.{arith}
use borrow.Author.Tests.{le-leb, lt-leb}
use Rattle.model.specs.Search.{Searched}
use Rattle.model.specs.Answers.{found, not_found, stopped, outcome_number, outcome_tries, unlimited, limited}
use Rattle.model.proofs.Tests.{below}
use Rattle.model.proofs.Choices.{opt}

-- what a search without a limit shows
pub unlimited_found : (g : Searched) (x : List ℕ) → g.solution ≡ some x → unlimited g ≡ found x g.tries
unlimited_found g x e = rw (e, unlimited)

pub unlimited_none : (g : Searched) → g.solution ≡ none → unlimited g ≡ not_found g.tries
unlimited_none g e = rw (e, unlimited)

-- with a limit: as many tries are enough, or they are not
pub limited_enough : (n : ℕ) (g : Searched) → g.tries ≤ n → limited n g ≡ unlimited g
limited_enough n g l = ap (λ t. cond t (unlimited g) (stopped n)) (le-leb g.tries n l)

pub limited_stopped : (n : ℕ) (g : Searched) → n < g.tries → limited n g ≡ stopped n
limited_stopped n g l = ap (λ t. cond t (unlimited g) (stopped n)) (lt-leb g.tries n l)

-- the three cases
pub data LimitedTo (n : ℕ) (g : Searched) : Type 0 where
  is_found : (x : List ℕ) (t : ℕ) → limited n g ≡ found x t → g.solution ≡ some x → (t ≡ g.tries) × (t ≤ n) → LimitedTo n g
  is_none : (t : ℕ) → limited n g ≡ not_found t → g.solution ≡ none → (t ≡ g.tries) × (t ≤ n) → LimitedTo n g
  is_stopped : limited n g ≡ stopped n → n < g.tries → LimitedTo n g

pub limited_or : (n : ℕ) (g : Searched) → LimitedTo n g
limited_or n g = go (below n g.tries) (opt g.solution)
  where
    go : (n < g.tries) ⊎ (g.tries ≤ n) → (g.solution ≡ none) ⊎ ((x : List ℕ) × (g.solution ≡ some x)) → LimitedTo n g
    go (inl l) o = is_stopped (limited_stopped n g l) l
    go (inr l) (inl e) = is_none g.tries (limited_enough n g l ∙ unlimited_none g e) e (refl, l)
    go (inr l) (inr q) = is_found q.0 g.tries (limited_enough n g l ∙ unlimited_found g q.0 q.1) q.1 (refl, l)

-- no more tries than the limit
pub limited_tries : (n : ℕ) (g : Searched) → outcome_tries (limited n g) ≤ n
limited_tries n g = go (limited_or n g)
  where
    go : LimitedTo n g → outcome_tries (limited n g) ≤ n
    go (is_found x t e s l) = rw e l.1
    go (is_none t e s l) = rw e l.1
    go (is_stopped e l) = rw e (omega arith)

-- "A larger limit never changes found or none, nor the set"
pub limited_larger : (n m : ℕ) (g : Searched) → n ≤ m → (outcome_number (limited n g) ≡ 3 → ⊥) → limited m g ≡ limited n g
limited_larger n m g l k = go (below n g.tries)
  where
    go : (n < g.tries) ⊎ (g.tries ≤ n) → limited m g ≡ limited n g
    go (inl q) = absurd (k (ap outcome_number (limited_stopped n g q)))
    go (inr q) = limited_enough m g (omega arith) ∙ sym (limited_enough n g q)
