-- The closure of a store under any monotone support test: C columns, and `ok B c v` says that the store B supports the value v of column c.
-- These are the general notions; `Books` says in document 01's words what they are for a book (`ConsistentStore`, `Stays`, `Fails`).
use Rattle.std.specs.Prelude.{◌≡◌, Bool, true, false, cond, ◌&&◌, List, ℕ, zero, suc, ◌<◌}
use Rattle.model.specs.Tests.{eq_list}
use Rattle.model.specs.Stores.{has, Within, store_of, empty_store, all_filled, values}

module _ (C : ℕ) (ok : List ℕ → ℕ → ℕ → Bool) where
  -- more values support more
  pub record Monotone : Type 0 where
    pub grows : (B A : List ℕ) → Within B A → (c v : ℕ) → ok B c v ≡ true → ok A c v ≡ true

  -- a consistent store (sound box): no column is empty, and every value is supported
  pub record Consistent (B : List ℕ) : Type 0 where
    pub filled : (c : ℕ) → c < C → (v : ℕ) × (has B c v ≡ true)
    pub supported : (c v : ℕ) → has B c v ≡ true → ok B c v ≡ true

  -- the closure of A (settled domains) has the value v in column c: some consistent store within A holds it
  pub record InClosure (A : List ℕ) (c v : ℕ) : Type 0 where
    pub store : List ℕ
    pub consistent : Consistent store
    pub within : Within store A
    pub holds : has store c v ≡ true

  -- A is failed (dead): there is no consistent store within A
  pub record Failed (A : List ℕ) : Type 0 where
    pub none : (B : List ℕ) → Consistent B → Within B A → ⊥

  -- ---- the closure as a computation
  -- one round: strike each value that is not supported
  unfoldable pub strike : List ℕ → List ℕ
  strike A = store_of C (λ c v. has A c v && ok A c v)

  -- rounds until one strikes nothing, at most k
  unfoldable pub rounds : ℕ → List ℕ → List ℕ
  rounds zero A = A
  rounds (suc k) A = let S = strike A in elim (eq_list S A) [ true ↦ A | false ↦ rounds k S ]

  -- what the rounds leave, or nothing at all where a column is empty. As many rounds as A has values: each strikes at least one, or is the last
  unfoldable pub closure_of : List ℕ → List ℕ
  closure_of A = let B = rounds (values C A) A in cond (all_filled C B) B (empty_store C)

  -- ---- what an engine keeps that strikes unsupported values one by one, in any order
  -- B lies between the closure of A and A
  pub record Between (A B : List ℕ) : Type 0 where
    pub lower : Within (closure_of A) B
    pub upper : Within B A
