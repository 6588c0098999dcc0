-- Laws of solutions: found is the first, and none exactly when there is none; a wider store's first is the same or lower. Assumes nothing.
use mathlib.Core.Path.{◌≡◌, refl, sym, ◌∙◌}
use mathlib.Core.Bool.{Bool, true}
use mathlib.Core.Logic.{◌⊎◌, inl, inr, ◌↔◌}
use mathlib.Core.Option.{Option, none, some}
use mathlib.Core.List.{List, Memᴰ}
use Prim.Native.Nat.{ℕ, ◌<◌}
use lib.Dec.{eqb}
use lib.ListN.{length, get_or}
use borrow.Author.Tests.{eqb-true, eq-eqb}
use Rattle.model.specs.Tests.{all_in}
use Rattle.model.specs.Stores.{has, Within, IsStore, store_of}
use Rattle.model.specs.Choices.{pick, Takes, Lower}
use Rattle.model.specs.Books.{Sheet, Book, column_count, allows, WellFormed, ConsistentStore, closure}
use Rattle.model.specs.Solutions.{Solution, FirstSolution, NoSolution}
use Rattle.model.proofs.Tests.{all_in_e, all_in_i}
use Rattle.model.proofs.Stores.{has_i, has_e, in_store}
use Rattle.model.proofs.Choices.{First, first_choice, lower_same, opt, first_some_iff, first_none_iff, get_or-pick, length-pick, pick_i}
use Rattle.model.proofs.Books.{stays_iff}

-- ---- the first solution, by a look at every choice
-- every sheet allows the values of x in its columns
unfoldable pub forms_rows : Book → List ℕ → Bool
forms_rows b x = all_in b.sheets (λ s. allows s (pick x s.columns))

-- the first solution in B, or none
unfoldable pub first_solution : Book → List ℕ → Option (List ℕ)
first_solution b B = first_choice B (forms_rows b)

forms_e : (b : Book) (x : List ℕ) → forms_rows b x ≡ true → (s : Sheet) → Memᴰ s b.sheets → allows s (pick x s.columns) ≡ true
unfolding forms_rows
forms_e b x e s m = all_in_e b.sheets (λ s. allows s (pick x s.columns)) e s m

forms_i : (b : Book) (x : List ℕ) → ((s : Sheet) → Memᴰ s b.sheets → allows s (pick x s.columns) ≡ true) → forms_rows b x ≡ true
unfolding forms_rows
forms_i b x h = all_in_i b.sheets (λ s. allows s (pick x s.columns)) h

module _ (b : Book) (B : List ℕ) (h : IsStore (column_count b) B) where
  solution_to : (x : List ℕ) → Takes B x → forms_rows b x ≡ true → Solution b B x
  solution_to x t e =
      record { size = t.size ∙ h.columns; takes = λ c l. t.each c (rw h.columns l); forms = forms_e b x e }

  solution_takes : (x : List ℕ) → Solution b B x → Takes B x
  solution_takes x f = record { size = f.size ∙ sym h.columns; each = λ c l. f.takes c (rw h.columns at l) }

  -- found: the first solution
  pub found_iff : (x : List ℕ) → (first_solution b B ≡ some x) ↔ FirstSolution b B x
  unfolding first_solution
  found_iff x = (λ e. to ((first_some_iff B h.bits (forms_rows b) x).0 e), λ f. (first_some_iff B h.bits (forms_rows b) x).1 (from f))
    where
      to : First B (forms_rows b) x → FirstSolution b B x
      to f = record { solution = solution_to x f.takes f.passes; least = λ y g. f.least y (solution_takes y g) (forms_i b y g.forms) }

      from : FirstSolution b B x → First B (forms_rows b) x
      from f =
          record {
            takes = solution_takes x f.solution;
            passes = forms_i b x f.solution.forms;
            least = λ y t e. f.least y (solution_to y t e);
          }

  -- none exactly when there is no solution
  pub none_iff : (first_solution b B ≡ none) ↔ NoSolution b B
  unfolding first_solution
  none_iff = (
    λ e. record { none = λ x f. (first_none_iff B h.bits (forms_rows b)).0 e x (solution_takes x f) (forms_i b x f.forms) },
    λ n. (first_none_iff B h.bits (forms_rows b)).1 (λ x t e. n.none x (solution_to x t e)),
  )

  -- where there is a solution there is a first
  pub has_first : (x : List ℕ) → Solution b B x → (y : List ℕ) × FirstSolution b B y
  has_first x f = go (opt (first_solution b B))
    where
      go : (first_solution b B ≡ none) ⊎ ((y : List ℕ) × (first_solution b B ≡ some y)) → (y : List ℕ) × FirstSolution b B y
      go (inl e) = absurd ((none_iff.0 e).none x f)
      go (inr q) = (q.0, (found_iff q.0).0 q.1)

-- a solution in a store is one in a wider store
pub solution_mono : (b : Book) (A B x : List ℕ) → Within A B → Solution b A x → Solution b B x
solution_mono b A B x w f = record { size = f.size; takes = λ c l. w.at c (get_or x c 0) (f.takes c l); forms = f.forms }

-- there is one first
pub first_only : (b : Book) (B x y : List ℕ) → FirstSolution b B x → FirstSolution b B y → x ≡ y
first_only b B x y f g = lower_same (f.least y g.solution) (g.least x f.solution)

-- the first depends on the values of the store alone
pub first_same : (b : Book) (A B x : List ℕ) → Within A B → Within B A → FirstSolution b A x → FirstSolution b B x
first_same b A B x v w f =
    record { solution = solution_mono b A B x v f.solution; least = λ y g. f.least y (solution_mono b B A y w g) }

-- the first of a wider store is the same or lower
pub first_wider : (b : Book) (A B x y : List ℕ) → Within A B → FirstSolution b A x → FirstSolution b B y → (y ≡ x) ⊎ Lower y x
first_wider b A B x y w f g = g.least x (solution_mono b A B x w f.solution)

-- the closure keeps every solution: the store of its values alone is consistent
pub solution_closure : (b : Book) → WellFormed b → (A : List ℕ) → IsStore (column_count b) A → (x : List ℕ) → Solution b A x → Solution b (closure b A) x
solution_closure b p A a x f =
    record {
      size = f.size;
      takes = λ c l. (stays_iff b p A a c (get_or x c 0)).1 (record { store = S; consistent = consistent; within = inside; holds = own c l });
      forms = f.forms;
    }
  where
    S : List ℕ
    S = store_of (column_count b) (λ c v. eqb v (get_or x c 0))

    own : (c : ℕ) → c < column_count b → has S c (get_or x c 0) ≡ true
    own c l =
        has_i (column_count b) (λ c v. eqb v (get_or x c 0)) c (get_or x c 0) l
        (in_store (column_count b) A a c (get_or x c 0) (f.takes c l)).1 (eq-eqb (get_or x c 0) (get_or x c 0) refl)

    value : (c v : ℕ) → has S c v ≡ true → v ≡ get_or x c 0
    value c v e = eqb-true v (get_or x c 0) (has_e (column_count b) (λ c v. eqb v (get_or x c 0)) c v e).2

    inside : Within S A
    inside = record { at = λ c v e. rw (value c v e) (f.takes c (has_e (column_count b) (λ c v. eqb v (get_or x c 0)) c v e).0) }

    consistent : ConsistentStore b S
    consistent =
        record {
          filled = λ c l. (get_or x c 0, own c l);
          support = λ s m i l v e.
              record {
                tuple = pick x s.columns;
                sheet_allows = f.forms s m;
                valid =
                    record {
                      size = length-pick x s.columns ∙ sym (length-pick S s.columns);
                      each = λ j k'.
                          let k : j < length s.columns = rw (length-pick S s.columns) at k' in
                          pick_i S s.columns j _ k (rw (get_or-pick x s.columns j k) (own (get_or s.columns j 0) ((p.sheet s m).inside j k)));
                    };
                value = get_or-pick x s.columns i l ∙ sym (value (get_or s.columns i 0) v e);
              };
        }
