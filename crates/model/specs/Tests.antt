-- Tests over the numbers below a bound and over the elements of a list, counts and the lowest number that passes.
use Rattle.std.specs.Prelude.{◌≡◌, Bool, true, false, cond, ◌&&◌, ◌||◌, List, [], ◌∷◌, Option, MatchOption, ℕ, zero, suc, ◌+◌, ◌≤◌, ◌<◌, eqb}

-- every number below the bound passes
unfoldable pub all_below : ℕ → (ℕ → Bool) → Bool
all_below zero f = true
all_below (suc n) f = f 0 && all_below n (λ i. f (suc i))

-- some number below the bound passes
unfoldable pub any_below : ℕ → (ℕ → Bool) → Bool
any_below zero f = false
any_below (suc n) f = f 0 || any_below n (λ i. f (suc i))

-- every element passes
unfoldable pub all_in : {A : Type 0} → List A → (A → Bool) → Bool
all_in [] f = true
all_in (x ∷ xs) f = f x && all_in xs f

-- some element passes
unfoldable pub any_in : {A : Type 0} → List A → (A → Bool) → Bool
any_in [] f = false
any_in (x ∷ xs) f = f x || any_in xs f

-- 1 for true, 0 for false
abbrev pub one_if : Bool → ℕ
one_if true = 1
one_if false = 0

-- f 0 + f 1 + .. , n terms
unfoldable pub sum : ℕ → (ℕ → ℕ) → ℕ
sum zero f = 0
sum (suc n) f = f 0 + sum n (λ i. f (suc i))

-- how many numbers below the bound pass
unfoldable pub count : ℕ → (ℕ → Bool) → ℕ
count n f = sum n (λ i. one_if (f i))

-- the lowest number below the bound that passes, or the bound
unfoldable pub lowest : ℕ → (ℕ → Bool) → ℕ
lowest zero f = 0
lowest (suc n) f = cond (f 0) 0 (suc (lowest n (λ i. f (suc i))))

-- two lists of numbers are equal
unfoldable pub eq_list : List ℕ → List ℕ → Bool
eq_list [] [] = true
eq_list [] (y ∷ ys) = false
eq_list (x ∷ xs) [] = false
eq_list (x ∷ xs) (y ∷ ys) = eqb x y && eq_list xs ys

-- no number from a on and below e passes
pub record NoneIn (f : ℕ → Bool) (a e : ℕ) : Type 0 where
  pub at : (i : ℕ) → a ≤ i → i < e → f i ≡ false

-- r is the first number from a on and below e that passes, or e: what a loop that looks for it gives
pub record FirstIn (f : ℕ → Bool) (a e r : ℕ) : Type 0 where
  pub from : a ≤ r
  pub to : r ≤ e
  pub none : NoneIn f a r
  pub passes : r < e → f r ≡ true

-- o is the first number from a on and below e that passes, or nothing where none does: what a search for it gives
abbrev pub FirstOf : (ℕ → Bool) → ℕ → ℕ → Option ℕ → Type 0
FirstOf f a e o = MatchOption o (NoneIn f a e) (λ r. (r < e) × FirstIn f a e r)

-- r tells whether some number from a on and below e passes
pub record Finds (f : ℕ → Bool) (a e : ℕ) (r : Bool) : Type 0 where
  pub none : r ≡ false → NoneIn f a e
  pub some : r ≡ true → (i : ℕ) × (a ≤ i) × (i < e) × (f i ≡ true)

-- the list f 0, f 1, .. , n elements
unfoldable pub tab : {A : Type 0} → ℕ → (ℕ → A) → List A
tab zero f = []
tab (suc n) f = f 0 ∷ tab n (λ i. f (suc i))
