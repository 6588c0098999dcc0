-- The search of document 01 finds the first solution of a closed store. Assumes nothing.
use mathlib.Core.Path.{◌≡◌, refl, sym, ap, ap₂, ◌∙◌, subst}
use mathlib.Core.Bool.{Bool, true, false, not, true≢false}
use mathlib.Core.Logic.{◌⊎◌, inl, inr, ◌↔◌}
use mathlib.Core.Option.{Option, none, some}
use mathlib.Core.List.{List, [], ◌∷◌, map, Memᴰ}
use Prim.Native.Nat.{ℕ, zero, suc, ◌^◌, ◌≤◌, ◌<◌}
use native.Mathlib.Nat.{not-suc-le-zero, le_of_suc-le-suc, le_refl, zero-lt-suc}
use native.Mathlib.Omega.{arith}
use lib.Dec.{eqb, ltb}
use lib.ListN.{length, get_or, length-map}
use lib.Pow.{pow-lt}
use lib.Seq.{ext_get_or}
use borrow.Author.Tests.{eqb-true, eq-eqb, ne_eqb, ltb-true, ltb-false, lt-ltb, le-ltb, not-true, not-false}
use Rattle.model.specs.Tests.{lowest}
use Rattle.model.specs.Masks.{bit, size}
use Rattle.model.specs.Stores.{has, Within, IsStore, empty_store, assign, all_filled, values}
use Rattle.model.specs.Choices.{pick, Lower}
use Rattle.model.specs.Books.{Sheet, Book, column_count, allows, WellFormed, ConsistentStore, supported, closure}
use Rattle.model.specs.Solutions.{Solution, FirstSolution, NoSolution}
use Rattle.model.specs.Search.{after, open_column, value_of, Searched, at_once, following, or_else, try_each, search_from, searched}
use Rattle.model.proofs.Tests.{either, lowest_e, lowest_before, one_same, one_count, some_count, same_test, below}
use Rattle.model.proofs.Firsts.{first_in_lowest, none_lowest}
use Rattle.model.proofs.Masks.{mask_ext, bit_pow, bit_pow_only}
use Rattle.model.proofs.Stores.{in_store, empty_has, filled_e, filled_i, values_fall, assign_e, assign_i, assign_store}
use Rattle.model.proofs.Closure.{closure_within, closure_store, closure_again}
use Rattle.model.proofs.Choices.{first_of, opt, never, first_of_none, FirstOf, first_of_some, first_of_same, get_or-pick, length-pick, pick_e}
use Rattle.model.proofs.Books.{supported_mono, closed_or_empty}
use Rattle.model.proofs.Solutions.{first_solution, found_iff, none_iff, solution_mono, solution_closure}

-- ---- single columns
pub single_same : (C : ℕ) (D : List ℕ) → IsStore C D → (c : ℕ) → eqb (size (get_or D c 0)) 1 ≡ true
    → (u v : ℕ) → has D c u ≡ true → has D c v ≡ true → u ≡ v
unfolding has
single_same C D d c e u v p q =
    one_same 32 (λ v. bit v (get_or D c 0)) (eqb-true _ 1 e) u v (in_store C D d c u p).1 (in_store C D d c v q).1 p q

pub value_has : (C : ℕ) (D : List ℕ) → IsStore C D → (c v : ℕ) → has D c v ≡ true → has D c (value_of (get_or D c 0)) ≡ true
unfolding has value_of
value_has C D d c v e = lowest_e 32 (λ v. bit v (get_or D c 0)) (go (below (lowest 32 (λ v. bit v (get_or D c 0))) 32))
  where
    go : (lowest 32 (λ v. bit v (get_or D c 0)) < 32) ⊎ (32 ≤ lowest 32 (λ v. bit v (get_or D c 0))) → lowest 32 (λ v. bit v (get_or D c 0)) < 32
    go (inl l) = l
    go (inr l) =
        let k : v < 32 = (in_store C D d c v e).1 in
        absurd (true≢false (sym e ∙ lowest_before 32 (λ v. bit v (get_or D c 0)) v (omega arith)))

-- the value of a mask that has one alone
pub value_pow : (v : ℕ) → v < 32 → value_of (2 ^ v) ≡ v
unfolding has
value_pow v l = bit_pow_only v (value_of (2 ^ v)) (value_has 1 (2 ^ v ∷ []) (record { columns = refl; bits = bits }) 0 v (bit_pow v))
  where
    bits : (c : ℕ) → get_or (2 ^ v ∷ []) c 0 < 2 ^ 32
    bits zero = pow-lt l
    bits (suc c) = omega arith

-- the mask of a single column is its value alone
pub single_mask : (C : ℕ) (D : List ℕ) → IsStore C D → (c v : ℕ) → has D c v ≡ true → eqb (size (get_or D c 0)) 1 ≡ true
    → 2 ^ value_of (get_or D c 0) ≡ get_or D c 0
unfolding has
single_mask C D d c v h e =
    mask_ext 32 (2 ^ value_of (get_or D c 0)) (get_or D c 0) (pow-lt (in_store C D d c (value_of (get_or D c 0)) own).1) (d.bits c)
    (λ u l. same_test _ _ (λ q. rw (bit_pow_only (value_of (get_or D c 0)) u q) own) (λ q. rw (single_same C D d c e u _ q own) (bit_pow (value_of (get_or D c 0)))))
  where
    own : has D c (value_of (get_or D c 0)) ≡ true
    own = value_has C D d c v h

-- a column with a value and no second is single
pub single_column : (C : ℕ) (D : List ℕ) → IsStore C D → (c v : ℕ) → has D c v ≡ true → ltb 1 (size (get_or D c 0)) ≡ false → eqb (size (get_or D c 0)) 1 ≡ true
unfolding has
single_column C D d c v h n =
    eq-eqb (size (get_or D c 0)) 1 (omega (arith, some_count 32 (λ v. bit v (get_or D c 0)) v (in_store C D d c v h).1 h, ltb-false 1 (size (get_or D c 0)) n))

-- one with two or more is not
pub many_column : (m : ℕ) → ltb 1 (size m) ≡ true → eqb (size m) 1 ≡ false
many_column m h = ne_eqb (size m) 1 (λ e. omega (arith, ltb-true 1 (size m) h))

pub get_d_map : (f : ℕ → ℕ) (l : List ℕ) (i : ℕ) → i < length l → get_or (map f l) i 0 ≡ f (get_or l i 0)
get_d_map f [] i h = absurd (not-suc-le-zero h)
get_d_map f (x ∷ xs) zero h = refl
get_d_map f (x ∷ xs) (suc i) h = get_d_map f xs i (le_of_suc-le-suc h)

-- where every column is single, the masks of its values are the domains
pub assigned_masks : (C : ℕ) (D : List ℕ) → IsStore C D → ((c : ℕ) → c < C → (v : ℕ) × (has D c v ≡ true))
    → ((c : ℕ) → c < C → eqb (size (get_or D c 0)) 1 ≡ true) → map (λ v. 2 ^ v) (map value_of D) ≡ D
assigned_masks C D d h one =
    ext_get_or 0 (map (λ v. 2 ^ v) (map value_of D)) D long
    (λ c l.
    let k : c < C = omega (arith, long, d.columns) in
    let v = h c k in
    get_d_map (λ v. 2 ^ v) (map value_of D) c (omega (arith, long, length-map D value_of))
    ∙ ap (λ (v : ℕ). 2 ^ v) (get_d_map value_of D c (omega (arith, d.columns)))
    ∙ single_mask C D d c v.0 v.1 (one c k))
  where
    long : length (map (λ v. 2 ^ v) (map value_of D)) ≡ length D
    long = length-map (map value_of D) (λ v. 2 ^ v) ∙ length-map D value_of

-- in a consistent store of single columns the one choice is the first solution
module _ (b : Book) (p : WellFormed b) (D : List ℕ) (d : IsStore (column_count b) D) where
  pub assigned_first : ConsistentStore b D → ((c : ℕ) → c < column_count b → eqb (size (get_or D c 0)) 1 ≡ true) → FirstSolution b D (map value_of D)
  assigned_first h one = record { solution = record { size = long; takes = takes; forms = forms }; least = least }
    where
      x : List ℕ
      x = map value_of D

      long : length (map value_of D) ≡ column_count b
      long = length-map D value_of ∙ d.columns

      value : (c : ℕ) → c < column_count b → get_or x c 0 ≡ value_of (get_or D c 0)
      value c l = get_d_map value_of D c (rw d.columns l)

      takes : (c : ℕ) → c < column_count b → has D c (get_or (map value_of D) c 0) ≡ true
      takes c l = let r = h.filled c l in rw (value c l) (value_has (column_count b) D d c r.0 r.1)

      -- the row that supports the first column's value is the choice itself
      forms : (s : Sheet) → Memᴰ s b.sheets → allows s (pick (map value_of D) s.columns) ≡ true
      forms s m =
          let q = p.sheet s m in
          let k = h.support s m 0 q.some_column (get_or x (get_or s.columns 0 0) 0) (takes (get_or s.columns 0 0) (q.inside 0 q.some_column)) in
          let long' : length k.tuple ≡ length s.columns = k.valid.size ∙ length-pick D s.columns in
          let same : k.tuple ≡ pick x s.columns =
          ext_get_or 0 k.tuple (pick x s.columns) (long' ∙ sym (length-pick x s.columns))
          (λ i l. let j : i < length s.columns = rw long' at l in
          single_same (column_count b) D d (get_or s.columns i 0) (one (get_or s.columns i 0) (q.inside i j)) (get_or k.tuple i 0) (get_or x (get_or s.columns i 0) 0)
          (pick_e D s.columns i (get_or k.tuple i 0) (k.valid.each i (rw (length-pick D s.columns) j))).1 (takes (get_or s.columns i 0) (q.inside i j))
          ∙ sym (get_or-pick x s.columns i j))
          in
          ap (allows s) (sym same) ∙ k.sheet_allows

      least : (y : List ℕ) → Solution b D y → (map value_of D ≡ y) ⊎ Lower (map value_of D) y
      least y g =
          inl
          (ext_get_or 0 x y (long ∙ sym g.size)
          (λ c l. let k : c < column_count b = rw long at l in
          single_same (column_count b) D d c (one c k) (get_or x c 0) (get_or y c 0) (takes c k) (g.takes c k)))

-- ---- one column set to a value, and propagated
module _ (b : Book) (p : WellFormed b) (D : List ℕ) (d : IsStore (column_count b) D) (c : ℕ) (l : c < column_count b) where
  inside : c < length D
  inside = rw d.columns l

  module _ (v : ℕ) (h : has D c v ≡ true) where
    set_store' : IsStore (column_count b) (assign D c v)
    set_store' = assign_store (column_count b) D c v d l (in_store (column_count b) D d c v h).1

    pub after_store : IsStore (column_count b) (after b D c v)
    unfolding closure
    after_store = closure_store (column_count b) (supported b) (supported_mono b) _ set_store'

    pub after_closed : closure b (after b D c v) ≡ after b D c v
    unfolding closure
    after_closed = closure_again (column_count b) (supported b) (supported_mono b) _ set_store'

    after_within : Within (after b D c v) (assign D c v)
    unfolding closure
    after_within = closure_within (column_count b) (supported b) (supported_mono b) _ set_store'

    -- what is left is of D, and v alone in column c
    after_e : (k u : ℕ) → has (after b D c v) k u ≡ true → (has D k u ≡ true) × (k ≡ c → u ≡ v)
    after_e k u e = assign_e D c v k u inside h (after_within.at k u e)

    pub after_inside : Within (after b D c v) D
    after_inside = record { at = λ k u e. (after_e k u e).0 }

    -- a solution in D with v in column c is one of the closed store, and the other way round
    pub solution_after : (y : List ℕ) → Solution b D y → get_or y c 0 ≡ v → Solution b (after b D c v) y
    solution_after y f e =
        solution_closure b p (assign D c v) set_store' y
        (record {
          size = f.size;
          takes = λ k m. assign_i D c v k (get_or y k 0) inside (f.takes k m) (λ q. ap (λ (j : ℕ). get_or y j 0) q ∙ e);
          forms = f.forms;
        })

    pub after_solution : (y : List ℕ) → Solution b (after b D c v) y → Solution b D y
    after_solution y f = solution_mono b _ D y after_inside f

    after_value : (y : List ℕ) → Solution b (after b D c v) y → get_or y c 0 ≡ v
    after_value y f = (after_e c (get_or y c 0) (f.takes c l)).1 refl

    -- setting a column that is not single leaves fewer values
    pub after_fewer : eqb (size (get_or D c 0)) 1 ≡ false → values (column_count b) (after b D c v) < values (column_count b) D
    unfolding has
    after_fewer n =
        values_fall (column_count b) (after b D c v) D after_store d after_inside
        (λ q. true≢false (sym (alone q) ∙ n))
      where
        alone : after b D c v ≡ D → eqb (size (get_or D c 0)) 1 ≡ true
        alone q =
            eq-eqb _ 1
            (one_count 32 (λ u. bit u (get_or D c 0)) v (in_store (column_count b) D d c v h).1 h
            (λ u i. (after_e c u (subst (λ (X : List ℕ). has X c u ≡ true) (sym q) i)).1 refl))

  -- ---- the values of one column, in rising order
  -- the first solution with v in column c, if D has v there
  abbrev branch : ℕ → Option (List ℕ)
  branch v = elim (has D c v) [ true ↦ first_solution b (after b D c v) | false ↦ none ]

  branch_yes : (v : ℕ) → has D c v ≡ true → branch v ≡ first_solution b (after b D c v)
  branch_yes v e = rw (e, branch)

  branch_no : (v : ℕ) → has D c v ≡ false → branch v ≡ none
  branch_no v e = rw (e, branch)

  -- where all columns below c are single, the first branch with a solution has the first
  branch_first : ((k : ℕ) → k < c → eqb (size (get_or D k 0)) 1 ≡ true) → first_of 32 branch ≡ first_solution b D
  branch_first one = sym (go (opt (first_of 32 branch)))
    where
      missing : (v : ℕ) → branch v ≡ none → (y : List ℕ) → Solution b D y → get_or y c 0 ≡ v → ⊥
      missing v e y f q =
          let h : has D c v ≡ true = subst (λ (u : ℕ). has D c u ≡ true) q (f.takes c l) in
          ((none_iff b (after b D c v) (after_store v h)).0 (sym (branch_yes v h) ∙ e)).none y (solution_after v h y f q)

      best : (v : ℕ) → has D c v ≡ true → (x : List ℕ) → FirstSolution b (after b D c v) x → ((u : ℕ) → u < v → branch u ≡ none) → FirstSolution b D x
      best v h x f before =
          record { solution = own; least = λ y g. pos y g (below (get_or y c 0) v) (below v (get_or y c 0)) }
        where
          own : Solution b D x
          own = after_solution v h x f.solution

          pos : (y : List ℕ) → Solution b D y → (get_or y c 0 < v) ⊎ (v ≤ get_or y c 0) → (v < get_or y c 0) ⊎ (get_or y c 0 ≤ v) → (x ≡ y) ⊎ Lower x y
          pos y g (inl a) r = absurd (missing (get_or y c 0) (before (get_or y c 0) a) y g refl)
          pos y g (inr a) (inl r) =
              inr
              (record {
                column = c;
                same = λ k m.
                    single_same (column_count b) D d k (one k m) (get_or x k 0) (get_or y k 0) (own.takes k (omega arith)) (g.takes k (omega arith));
                less = omega (arith, after_value v h x f.solution);
              })
          pos y g (inr a) (inr r) = f.least y (solution_after v h y g (omega arith))

      go : (first_of 32 branch ≡ none) ⊎ ((x : List ℕ) × (first_of 32 branch ≡ some x)) → first_solution b D ≡ first_of 32 branch
      go (inl e) =
          (none_iff b D d).1
          (record {
            none = λ y f.
                missing (get_or y c 0) (first_of_none 32 branch e (get_or y c 0) (in_store (column_count b) D d c (get_or y c 0) (f.takes c l)).1) y f refl;
          })
          ∙ sym e
      go (inr q) = some_case (first_of_some 32 branch q.0 q.1)
        where
          some_case : FirstOf 32 branch q.0 → first_solution b D ≡ first_of 32 branch
          some_case f = have (either (has D c f.value))
            where
              have : (has D c f.value ≡ true) ⊎ (has D c f.value ≡ false) → first_solution b D ≡ first_of 32 branch
              have (inr n) = absurd (never (branch_no f.value n) f.found)
              have (inl e) =
                  (found_iff b D d q.0).1
                  (best f.value e q.0
                  ((found_iff b (after b D c f.value) (after_store f.value e) q.0).0 (sym (branch_yes f.value e) ∙ f.found)) f.before)
                  ∙ sym q.1

-- ---- tries, value by value
-- found, or not
pub else_found : (g h : Searched) {x : List ℕ} → g.solution ≡ some x → or_else g h ≡ g
else_found g h e = ap (λ (o : Option (List ℕ)). elim o [ some y ↦ g | none ↦ following g.tries h ]) e

pub else_none : (g h : Searched) → g.solution ≡ none → or_else g h ≡ following g.tries h
else_none g h e = ap (λ (o : Option (List ℕ)). elim o [ some y ↦ g | none ↦ following g.tries h ]) e

pub else_more : (g h : Searched) → g.tries ≤ (or_else g h).tries
else_more g h = go (opt g.solution)
  where
    go : (g.solution ≡ none) ⊎ ((x : List ℕ) × (g.solution ≡ some x)) → g.tries ≤ (or_else g h).tries
    go (inl e) = rw (else_none g h e) (omega arith)
    go (inr q) = rw (else_found g h q.1) (omega arith)

pub following_0 : (g : Searched) → following 0 g ≡ g
following_0 g = ap (λ (t : ℕ). record { solution = g.solution; tries = t }) (omega arith)

try_each_yes : (n : ℕ) (p : ℕ → Bool) (g : ℕ → Searched) → p 0 ≡ true
    → try_each (suc n) p g ≡ or_else (following 1 (g 0)) (try_each n (λ v. p (suc v)) (λ v. g (suc v)))
unfolding try_each
try_each_yes n p g e = rw (e, try_each)

try_each_no : (n : ℕ) (p : ℕ → Bool) (g : ℕ → Searched) → p 0 ≡ false → try_each (suc n) p g ≡ try_each n (λ v. p (suc v)) (λ v. g (suc v))
unfolding try_each
try_each_no n p g e = rw (e, try_each)

-- only the values that pass count
pub try_each_same : (n : ℕ) (p q : ℕ → Bool) (g h : ℕ → Searched) → ((v : ℕ) → v < n → p v ≡ q v) → ((v : ℕ) → v < n → p v ≡ true → g v ≡ h v)
    → try_each n p g ≡ try_each n q h
unfolding try_each
try_each_same zero p q g h s t = refl
try_each_same (suc n) p q g h s t =
    go (either (p 0)) (try_each_same n (λ v. p (suc v)) (λ v. q (suc v)) (λ v. g (suc v)) (λ v. h (suc v)) (λ v l. s (suc v) (omega arith)) (λ v l. t (suc v) (omega arith)))
  where
    go : (p 0 ≡ true) ⊎ (p 0 ≡ false)
        → try_each n (λ v. p (suc v)) (λ v. g (suc v)) ≡ try_each n (λ v. q (suc v)) (λ v. h (suc v)) → try_each (suc n) p g ≡ try_each (suc n) q h
    go (inl e) r =
        try_each_yes n p g e
        ∙ ap₂ (λ (x y : Searched). or_else (following 1 x) y) (t 0 (zero-lt-suc n) e) r
        ∙ sym (try_each_yes n q h (sym (s 0 (zero-lt-suc n)) ∙ e))
    go (inr e) r = try_each_no n p g e ∙ r ∙ sym (try_each_no n q h (sym (s 0 (zero-lt-suc n)) ∙ e))

-- no value passes
pub try_each_none : (n : ℕ) (p : ℕ → Bool) (g : ℕ → Searched) → ((v : ℕ) → v < n → p v ≡ false) → try_each n p g ≡ at_once none
unfolding try_each
try_each_none zero p g h = refl
try_each_none (suc n) p g h = try_each_no n p g (h 0 (zero-lt-suc n)) ∙ try_each_none n (λ v. p (suc v)) (λ v. g (suc v)) (λ v l. h (suc v) (omega arith))

-- v is the lowest that passes: it is tried first, and then the others
pub try_each-lowest : (n : ℕ) (p q : ℕ → Bool) (g : ℕ → Searched) (v : ℕ) → v < n → p v ≡ true → ((u : ℕ) → u < v → p u ≡ false)
    → q v ≡ false → ((u : ℕ) → (u ≡ v → ⊥) → q u ≡ p u) → try_each n p g ≡ or_else (following 1 (g v)) (try_each n q g)
unfolding try_each
try_each-lowest zero p q g v l e first gone rest = absurd (not-suc-le-zero l)
try_each-lowest (suc n) p q g zero l e first gone rest =
    try_each_yes n p g e
    ∙ ap (or_else (following 1 (g 0)))
    (try_each_same n (λ v. p (suc v)) (λ v. q (suc v)) (λ v. g (suc v)) (λ v. g (suc v)) (λ v m. sym (rest (suc v) (λ z. omega arith))) (λ v m i. refl)
    ∙ sym (try_each_no n q g gone))
try_each-lowest (suc n) p q g (suc v) l e first gone rest =
    try_each_no n p g (first 0 (zero-lt-suc v))
    ∙ try_each-lowest n (λ v. p (suc v)) (λ v. q (suc v)) (λ v. g (suc v)) v (le_of_suc-le-suc l) e (λ u m. first (suc u) (omega arith)) gone
    (λ u z. rest (suc u) (λ s. z (omega arith)))
    ∙ ap (or_else (following 1 (g (suc v)))) (sym (try_each_no n q g (rest 0 (λ z. omega arith) ∙ first 0 (zero-lt-suc v))))

-- what is found is what the first value finds that finds anything
abbrev finding : (ℕ → Bool) → (ℕ → Searched) → ℕ → Option (List ℕ)
finding p g v = elim (p v) [ true ↦ (g v).solution | false ↦ none ]

try_each_solution : (n : ℕ) (p : ℕ → Bool) (g : ℕ → Searched) → (try_each n p g).solution ≡ first_of n (finding p g)
unfolding try_each first_of
try_each_solution zero p g = refl
try_each_solution (suc n) p g = go (either (p 0)) (opt (g 0).solution) (try_each_solution n (λ v. p (suc v)) (λ v. g (suc v)))
  where
    more : Searched
    more = try_each n (λ v. p (suc v)) (λ v. g (suc v))

    go : (p 0 ≡ true) ⊎ (p 0 ≡ false) → ((g 0).solution ≡ none) ⊎ ((x : List ℕ) × ((g 0).solution ≡ some x))
        → more.solution ≡ first_of n (λ v. finding p g (suc v)) → (try_each (suc n) p g).solution ≡ first_of (suc n) (finding p g)
    go (inr e) o r =
        let a : first_of (suc n) (finding p g) ≡ first_of n (λ v. finding p g (suc v)) = rw (e, first_of) in
        ap (λ (s : Searched). s.solution) (try_each_no n p g e) ∙ r ∙ sym a
    go (inl e) (inl k) r =
        let a : first_of (suc n) (finding p g) ≡ first_of n (λ v. finding p g (suc v)) = rw (e, k, first_of) in
        ap (λ (s : Searched). s.solution) (try_each_yes n p g e ∙ else_none (following 1 (g 0)) more k) ∙ r ∙ sym a
    go (inl e) (inr k) r =
        let a : first_of (suc n) (finding p g) ≡ some k.0 = rw (e, k.1, first_of) in
        ap (λ (s : Searched). s.solution) (try_each_yes n p g e ∙ else_found (following 1 (g 0)) more k.1) ∙ k.1 ∙ sym a

-- ---- the search
pub search_failed : (b : Book) (k : ℕ) (D : List ℕ) → all_filled (column_count b) D ≡ false → search_from b (suc k) D ≡ at_once none
unfolding search_from
search_failed b k D e = rw (e, search_from)

pub search_assigned : (b : Book) (k : ℕ) (D : List ℕ) → all_filled (column_count b) D ≡ true → ltb (open_column (column_count b) D) (column_count b) ≡ false
    → search_from b (suc k) D ≡ at_once (some (map value_of D))
unfolding search_from
search_assigned b k D e q = rw (e, q, search_from)

-- the search at D, with c the lowest column that is open
abbrev trying : Book → ℕ → List ℕ → ℕ → Searched
trying b k D c = try_each 32 (has D c) (λ v. search_from b k (after b D c v))

pub search_open : (b : Book) (k : ℕ) (D : List ℕ) → all_filled (column_count b) D ≡ true → ltb (open_column (column_count b) D) (column_count b) ≡ true
    → search_from b (suc k) D ≡ trying b k D (open_column (column_count b) D)
unfolding search_from
search_open b k D e q = rw (e, q, search_from)

-- the columns below the open one are single, and it is not
open_below : (C : ℕ) (D : List ℕ) (i : ℕ) → i < open_column C D → eqb (size (get_or D i 0)) 1 ≡ true
unfolding open_column
open_below C D i h = not-false _ (lowest_before C (λ c. not (eqb (size (get_or D c 0)) 1)) i h)

open_many : (C : ℕ) (D : List ℕ) → open_column C D < C → eqb (size (get_or D (open_column C D) 0)) 1 ≡ false
unfolding open_column
open_many C D h = not-true _ (lowest_e C (λ c. not (eqb (size (get_or D c 0)) 1)) h)

-- the other way round
pub open_at : (C : ℕ) (D : List ℕ) (c : ℕ) → c < C → eqb (size (get_or D c 0)) 1 ≡ false → ((k : ℕ) → k < c → eqb (size (get_or D k 0)) 1 ≡ true) → open_column C D ≡ c
unfolding open_column
open_at C D c l n one =
    first_in_lowest
    (record { from = omega arith; to = omega arith; none = record { at = λ k p q. ap not (one k q) }; passes = λ q. ap not n })

pub open_none : (C : ℕ) (D : List ℕ) → ((c : ℕ) → c < C → eqb (size (get_or D c 0)) 1 ≡ true) → ltb (open_column C D) C ≡ false
unfolding open_column
open_none C D one = rw (none_lowest (record { at = λ k p q. ap not (one k q) })) (le-ltb C C (le_refl C))

module _ (b : Book) (p : WellFormed b) where
  abbrev C : ℕ
  C = column_count b

  -- a closed store with no empty column is consistent
  pub closed_consistent : (D : List ℕ) → IsStore (column_count b) D → closure b D ≡ D → all_filled (column_count b) D ≡ true → ConsistentStore b D
  closed_consistent D d s e = go (closed_or_empty b p D d)
    where
      go : ConsistentStore b (closure b D) ⊎ (closure b D ≡ empty_store (column_count b)) → ConsistentStore b D
      go (inl h) = subst (ConsistentStore b) s h
      go (inr q) =
          let r = filled_e (column_count b) D e 0 p.some_column in
          absurd (empty_has (column_count b) 0 r.0 (subst (λ (X : List ℕ). has X 0 r.0 ≡ true) (sym s ∙ q) r.1))

  -- ---- how deep it may go does not count, where that is deep enough
  search_depth : (k j : ℕ) (D : List ℕ) → IsStore (column_count b) D → values (column_count b) D < k → values (column_count b) D < j
      → search_from b k D ≡ search_from b j D
  search_depth zero j D d l m = absurd (not-suc-le-zero l)
  search_depth (suc k) zero D d l m = absurd (not-suc-le-zero m)
  search_depth (suc k) (suc j) D d l m =
      go (λ X x n o. search_depth k j X x n o) (either (all_filled C D)) (either (ltb (open_column C D) C))
    where
      c : ℕ
      c = open_column C D

      go : ((X : List ℕ) → IsStore C X → values C X < k → values C X < j → search_from b k X ≡ search_from b j X)
          → (all_filled C D ≡ true) ⊎ (all_filled C D ≡ false) → (ltb c C ≡ true) ⊎ (ltb c C ≡ false) → search_from b (suc k) D ≡ search_from b (suc j) D
      go rec (inr e) q = search_failed b k D e ∙ sym (search_failed b j D e)
      go rec (inl e) (inr q) = search_assigned b k D e q ∙ sym (search_assigned b j D e q)
      go rec (inl e) (inl q) =
          let lc : c < C = ltb-true c C q in
          search_open b k D e q
          ∙ try_each_same 32 (has D c) (has D c) (λ v. search_from b k (after b D c v)) (λ v. search_from b j (after b D c v)) (λ v i. refl)
          (λ v i h.
          let f = after_fewer b p D d c lc v h (open_many C D lc) in
          rec (after b D c v) (after_store b p D d c lc v h) (omega arith) (omega arith))
          ∙ sym (search_open b j D e q)

  search_from_lem : (k : ℕ) (D : List ℕ) → IsStore (column_count b) D → closure b D ≡ D → values (column_count b) D < k
      → (search_from b k D).solution ≡ first_solution b D
  search_from_lem zero D d s l = absurd (not-suc-le-zero l)
  search_from_lem (suc k) D d s l =
      go (λ X x t m. search_from_lem k X x t m) (either (all_filled C D)) (either (ltb (open_column C D) C))
    where
      c : ℕ
      c = open_column C D

      solution : Searched → Option (List ℕ)
      solution g = g.solution

      go : ((X : List ℕ) → IsStore C X → closure b X ≡ X → values C X < k → (search_from b k X).solution ≡ first_solution b X)
          → (all_filled C D ≡ true) ⊎ (all_filled C D ≡ false) → (ltb c C ≡ true) ⊎ (ltb c C ≡ false) → (search_from b (suc k) D).solution ≡ first_solution b D
      go rec (inr e) q =
          ap solution (search_failed b k D e)
          ∙ sym ((none_iff b D d).1 (record { none = λ x f. true≢false (sym (filled_i C D d (λ i h. (get_or x i 0, f.takes i h))) ∙ e) }))
      go rec (inl e) (inr q) =
          ap solution (search_assigned b k D e q)
          ∙ sym
          ((found_iff b D d (map value_of D)).1
          (assigned_first b p D d (closed_consistent D d s e) (λ i h. open_below C D i (omega (arith, ltb-false c C q)))))
      go rec (inl e) (inl q) =
          let lc : c < C = ltb-true c C q in
          let g : ℕ → Searched = λ v. search_from b k (after b D c v) in
          ap solution (search_open b k D e q)
          ∙ try_each_solution 32 (has D c) g
          ∙ first_of_same 32 (finding (has D c) g) (branch b p D d c lc) (λ v m. each lc v (either (has D c v)))
          ∙ branch_first b p D d c lc (open_below C D)
        where
          each : (lc : c < C) (v : ℕ) → (has D c v ≡ true) ⊎ (has D c v ≡ false)
              → finding (has D c) (λ v. search_from b k (after b D c v)) v ≡ branch b p D d c lc v
          each lc v (inr h) = let a : finding (has D c) (λ v. search_from b k (after b D c v)) v ≡ none = rw (h, finding) in a ∙ sym (branch_no b p D d c lc v h)
          each lc v (inl h) =
              let a : finding (has D c) (λ v. search_from b k (after b D c v)) v ≡ (search_from b k (after b D c v)).solution = rw (h, finding) in
              a
              ∙ rec (after b D c v) (after_store b p D d c lc v h) (after_closed b p D d c lc v h)
              (omega (arith, after_fewer b p D d c lc v h (open_many C D lc)))
              ∙ sym (branch_yes b p D d c lc v h)

  module _ (D : List ℕ) (d : IsStore (column_count b) D) where
    -- ---- what is found
    module _ (s : closure b D ≡ D) where
      -- the search finds the first solution
      pub search_first : (searched b D).solution ≡ first_solution b D
      unfolding searched
      search_first = search_from_lem (suc (values (column_count b) D)) D d s (le_refl _)

      pub searched_found : (x : List ℕ) → ((searched b D).solution ≡ some x) ↔ FirstSolution b D x
      searched_found x = let k = found_iff b D d x in (λ e. k.0 (sym search_first ∙ e), λ f. search_first ∙ k.1 f)

      pub searched_none : ((searched b D).solution ≡ none) ↔ NoSolution b D
      searched_none = let k = none_iff b D d in (λ e. k.0 (sym search_first ∙ e), λ n. search_first ∙ k.1 n)

    -- ---- the tries, one column at a time
    -- some column is empty: nothing is tried
    pub searched_empty : all_filled (column_count b) D ≡ false → searched b D ≡ at_once none
    unfolding searched
    searched_empty e = search_failed b (values (column_count b) D) D e

    -- every column is single: nothing is tried, and the domains are the solution
    pub searched_single : all_filled (column_count b) D ≡ true → ltb (open_column (column_count b) D) (column_count b) ≡ false
        → searched b D ≡ at_once (some (map value_of D))
    unfolding searched
    searched_single e one = search_assigned b (values (column_count b) D) D e one

    -- there is an open column: each value of the lowest is tried, in rising order
    pub searched_open : all_filled (column_count b) D ≡ true → open_column (column_count b) D < column_count b
        → searched b D ≡ try_each 32 (has D (open_column (column_count b) D)) (λ v. searched b (after b D (open_column (column_count b) D) v))
    unfolding searched
    searched_open e l =
        search_open b (values C D) D e (lt-ltb (open_column C D) C l)
        ∙ try_each_same 32 (has D (open_column C D)) (has D (open_column C D)) (λ v. search_from b (values C D) (after b D (open_column C D) v))
        (λ v. searched b (after b D (open_column C D) v)) (λ v i. refl)
        (λ v i h.
        search_depth (values C D) (suc (values C (after b D (open_column C D) v))) (after b D (open_column C D) v)
        (after_store b p D d (open_column C D) l v h) (after_fewer b p D d (open_column C D) l v h (open_many C D l)) (le_refl _))
