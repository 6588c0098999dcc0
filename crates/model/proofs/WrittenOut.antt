-- The written-out book allows the same combinations, has no 255, and is well-formed where its rows are few enough. Assumes nothing.
use mathlib.Core.Path.{◌≡◌, refl, sym, ap, ◌∙◌, subst}
use mathlib.Core.Bool.{true, false, cond, false≢true, true≢false}
use mathlib.Core.Logic.{◌⊎◌, inl, inr, ⊎_elim}
use mathlib.Core.List.Memᴰ
use mathlib.Core.List.{List, [], ◌∷◌, map, flat_map, Memᴰ}
use Prim.Native.Nat.{ℕ, zero, suc, ◌≤◌, ◌<◌}
use native.Mathlib.Nat.{not-suc-le-zero, le_of_suc-le-suc, zero-lt-suc}
use native.Mathlib.Omega.{arith}
use lib.ListN.{length, get_or, length-map, get_or-map}
use borrow.Author.Tests.{ne_eqb}
use Rattle.model.specs.Tests.{tab}
use Rattle.model.specs.Books.{Sheet, no_sheet, sheet_at, is_any, matches, row_matches, allows, WellFormedSheet}
use Rattle.model.specs.Twins.{Combination, TwinSheets}
use Rattle.model.specs.WrittenOut.{written_cell, written_row, written_sheet, written_out, WrittenOutTwins, WrittenOutAnswers, WrittenOutPlain, WrittenOutFormed}
use Rattle.model.proofs.Tests.{and_l, and_r, and_i, either, same_test, length-tab, get_or-tab}
use Rattle.model.proofs.Books.{matches_any, matches_plain, matches_self, allows_e, allows_i}
use Rattle.model.proofs.Rows.{at_place, in_list, row_plain, row_self}
use Rattle.model.proofs.Twins.{twins_answer}

-- ---- what a flattened list holds
module _ {A B : Type 0} (f : A → List B) where
  flat_i : (l : List A) (x : A) (y : B) → Memᴰ x l → Memᴰ y (f x) → Memᴰ y (flat_map f l)
  unfolding flat_map
  flat_i [] x y k m = elim k [ ]
  flat_i (z ∷ l) x y (Memᴰ.head e) m = Memᴰ.append_left (flat_map f l) (subst (λ (u : A). Memᴰ y (f u)) e m)
  flat_i (z ∷ l) x y (Memᴰ.tail k) m = Memᴰ.append_right (f z) (flat_i l x y k m)

  flat_e : (l : List A) (y : B) → Memᴰ y (flat_map f l) → (x : A) × Memᴰ x l × Memᴰ y (f x)
  unfolding flat_map
  flat_e [] y m = absurd (Memᴰ.not-nil m)
  flat_e (z ∷ l) y m = go (Memᴰ.append_cases (f z) m) (flat_e l y)
    where
      go : Memᴰ y (f z) ⊎ Memᴰ y (flat_map f l) → (Memᴰ y (flat_map f l) → (x : A) × Memᴰ x l × Memᴰ y (f x))
          → (x : A) × Memᴰ x (z ∷ l) × Memᴰ y (f x)
      go (inl k) r = (z, Memᴰ.head refl, k)
      go (inr k) r = let q = r k in (q.0, Memᴰ.tail q.1, q.2)

-- ---- a cell: it stands for the values that it matches
cell_i : (n x v : ℕ) → matches x v ≡ true → v < n → Memᴰ v (written_cell n x)
unfolding written_cell
cell_i n x v m l = go (either (is_any x))
  where
    go : (is_any x ≡ true) ⊎ (is_any x ≡ false) → Memᴰ v (cond (is_any x) (tab n (λ u. u)) (x ∷ []))
    go (inl e) = rw e (rw (get_or-tab 0 n (λ u. u) v l) at (in_list 0 (tab n (λ u. u)) v (rw (length-tab n (λ u. u)) l)))
    go (inr e) = rw e (Memᴰ.head (sym (matches_plain x v e m)))

cell_e : (n x v : ℕ) → (is_any x ≡ true) ⊎ (x < n) → Memᴰ v (written_cell n x) → (matches x v ≡ true) × (v < n)
unfolding written_cell
cell_e n x v h m = go (either (is_any x)) h
  where
    go : (is_any x ≡ true) ⊎ (is_any x ≡ false) → (is_any x ≡ true) ⊎ (x < n) → (matches x v ≡ true) × (v < n)
    go (inl e) k =
        let r = at_place 0 v (tab n (λ u. u)) (rw e at m) in
        let l : r.0 < n = omega (arith, r.1, length-tab n (λ u. u)) in
        (matches_any x v e, omega (arith, l, get_or-tab 0 n (λ u. u) r.0 l, r.2))
    go (inr e) (inl a) = absurd (true≢false (sym a ∙ e))
    go (inr e) (inr l) = let q : v ≡ x = Memᴰ.eq_of_singleton (rw e at m) in (rw q (matches_self x), rw q l)

-- ---- a row: it stands for the combinations that it matches
combination_nil : (counts : List ℕ) → Combination counts [] []
combination_nil counts = record { size = refl; each = λ i l. absurd (not-suc-le-zero l) }

combination_cons : (counts cs t : List ℕ) (c v : ℕ) → v < get_or counts c 0 → Combination counts cs t → Combination counts (c ∷ cs) (v ∷ t)
combination_cons counts cs t c v h k = record { size = ap suc k.size; each = at }
  where
    at : (i : ℕ) → i < suc (length cs) → get_or (v ∷ t) i 0 < get_or counts (get_or (c ∷ cs) i 0) 0
    at zero l = h
    at (suc i) l = k.each i (le_of_suc-le-suc l)

row_i : (counts cs r t : List ℕ) → row_matches r t ≡ true → Combination counts cs t → Memᴰ t (written_row counts cs r)
unfolding row_matches written_row
row_i counts [] [] [] e k = Memᴰ.head refl
row_i counts [] (x ∷ r) [] e k = absurd (false≢true e)
row_i counts [] r (v ∷ t) e k = absurd (omega (arith, k.size))
row_i counts (c ∷ cs) r [] e k = absurd (omega (arith, k.size))
row_i counts (c ∷ cs) [] (v ∷ t) e k = absurd (false≢true e)
row_i counts (c ∷ cs) (x ∷ r) (v ∷ t) e k =
    flat_i (λ u. map (λ y. u ∷ y) (written_row counts cs r)) (written_cell (get_or counts c 0) x) v (v ∷ t)
    (cell_i (get_or counts c 0) x v (and_l (matches x v) _ e) (k.each 0 (zero-lt-suc (length cs))))
    (Memᴰ.map (λ y. v ∷ y)
    (row_i counts cs r t (and_r (matches x v) _ e) (record { size = omega (arith, k.size); each = λ i l. k.each (suc i) (omega arith) })))

row_e : (counts cs r t : List ℕ) → length r ≡ length cs
    → ((i : ℕ) → i < length cs → (is_any (get_or r i 0) ≡ true) ⊎ (get_or r i 0 < get_or counts (get_or cs i 0) 0))
    → Memᴰ t (written_row counts cs r) → (row_matches r t ≡ true) × Combination counts cs t
unfolding row_matches written_row
row_e counts [] [] t n h m = rw (Memᴰ.eq_of_singleton m) (refl, combination_nil counts)
row_e counts [] (x ∷ r) t n h m = absurd (omega arith)
row_e counts (c ∷ cs) [] t n h m = absurd (omega arith)
row_e counts (c ∷ cs) (x ∷ r) t n h m =
    let q = flat_e (λ u. map (λ y. u ∷ y) (written_row counts cs r)) (written_cell (get_or counts c 0) x) t m in
    let u = Memᴰ.of_map (λ y. q.0 ∷ y) (written_row counts cs r) q.2 in
    let v = cell_e (get_or counts c 0) x q.0 (h 0 (zero-lt-suc (length cs))) q.1 in
    let w = row_e counts cs r u.0 (omega arith) (λ i l. h (suc i) (omega arith)) u.1 in
    rw (← u.2) (and_i v.0 w.0, combination_cons counts cs u.0 c q.0 v.1 w.1)

-- ---- a sheet
forbidden_same : (counts : List ℕ) (s : Sheet) → s.forbids ≡ true → written_sheet counts s ≡ s
unfolding written_sheet
forbidden_same counts s f = rw f

-- one that allows its rows
module _ (counts : List ℕ) (s : Sheet) (p : WellFormedSheet counts s) (f : s.forbids ≡ false) where
  abbrev written : Sheet
  written = record { forbids = false; columns = s.columns; rows = flat_map (written_row counts s.columns) s.rows }

  written_same : written_sheet counts s ≡ written
  unfolding written_sheet
  written_same = rw f

  -- what one of its rows stands for
  row_written : (r t : List ℕ) → Memᴰ r s.rows → Memᴰ t (written_row counts s.columns r)
      → (row_matches r t ≡ true) × Combination counts s.columns t
  row_written r t m k =
      let i = at_place [] r s.rows m in
      row_e counts s.columns r t (rw i.2 at (p.row_size i.0 i.1))
      (λ j l. rw i.2 at (⊎_elim (λ q. inl q.1) (λ q. inr q) (p.row_value i.0 j i.1 l))) k

  -- its written-out rows are combinations
  written_plain : (t : List ℕ) → Memᴰ t written.rows → Combination counts s.columns t
  written_plain t m = let q = flat_e (written_row counts s.columns) s.rows t m in (row_written q.0 t q.1 q.2).1

  written_twin : ((c : ℕ) → c < length counts → get_or counts c 0 ≤ 32) → TwinSheets counts s written
  written_twin few = record { same_columns = refl; same_allowed = λ x k. same_test _ _ (to x k) (from x) }
    where
      to : (x : List ℕ) → Combination counts s.columns x → allows s x ≡ true → allows written x ≡ true
      to x k e =
          let r = allows_e s f x e in
          allows_i written refl x x
          (flat_i (written_row counts s.columns) s.rows r.0 x r.1 (row_i counts s.columns r.0 x r.2 k)) (row_self x)

      not_any : (t : List ℕ) → Combination counts s.columns t → (i : ℕ) → i < length t → is_any (get_or t i 0) ≡ false
      not_any t k i l =
          let j : i < length s.columns = rw k.size at l in
          ne_eqb (get_or t i 0) 255 (λ e. omega (arith, k.each i j, few (get_or s.columns i 0) (p.inside i j)))

      from : (x : List ℕ) → allows written x ≡ true → allows s x ≡ true
      from x e =
          let t = allows_e written refl x e in
          let r = flat_e (written_row counts s.columns) s.rows t.0 t.1 in
          let w = row_written r.0 t.0 r.1 r.2 in
          allows_i s f r.0 x r.1 (ap (row_matches r.0) (sym (row_plain t.0 x (not_any t.0 w.1) t.2)) ∙ w.0)

  -- "k values, each below its column's V"
  written_formed : length written.rows ≤ 508 → WellFormedSheet counts written
  written_formed few =
      record {
        some_column = p.some_column;
        few_columns = p.few_columns;
        rising = p.rising;
        inside = p.inside;
        few_rows = few;
        row_size = λ r l. (written_plain _ (in_list [] written.rows r l)).size;
        row_value = λ r i l m. inr ((written_plain _ (in_list [] written.rows r l)).each i m);
        row_rises = λ e. absurd (false≢true e);
      }

-- ---- a sheet of either kind
module _ (counts : List ℕ) (s : Sheet) (p : WellFormedSheet counts s) where
  sheet_twin : ((c : ℕ) → c < length counts → get_or counts c 0 ≤ 32) → TwinSheets counts s (written_sheet counts s)
  sheet_twin few = go (either s.forbids)
    where
      go : (s.forbids ≡ true) ⊎ (s.forbids ≡ false) → TwinSheets counts s (written_sheet counts s)
      go (inl e) = rw (forbidden_same counts s e) (record { same_columns = refl; same_allowed = λ x k. refl })
      go (inr e) = rw (written_same counts s p e) (written_twin counts s p e few)

  sheet_plain : (t : List ℕ) → Memᴰ t (written_sheet counts s).rows → Combination counts (written_sheet counts s).columns t
  sheet_plain = go (either s.forbids)
    where
      cell : s.forbids ≡ true → (r i : ℕ) → r < length s.rows → i < length s.columns
          → get_or (get_or s.rows r []) i 0 < get_or counts (get_or s.columns i 0) 0
      cell e r i l m = ⊎_elim (λ q. absurd (true≢false (sym e ∙ q.0))) (λ q. q) (p.row_value r i l m)

      go : (s.forbids ≡ true) ⊎ (s.forbids ≡ false) → (t : List ℕ) → Memᴰ t (written_sheet counts s).rows
          → Combination counts (written_sheet counts s).columns t
      go (inl e) =
          rw (forbidden_same counts s e)
          (λ t m.
          let i = at_place [] t s.rows m in
          rw (← i.2) (record { size = p.row_size i.0 i.1; each = λ j l. cell e i.0 j i.1 l }))
      go (inr e) = rw (written_same counts s p e) (written_plain counts s p e)

  sheet_formed : length (written_sheet counts s).rows ≤ 508 → WellFormedSheet counts (written_sheet counts s)
  sheet_formed = go (either s.forbids)
    where
      go : (s.forbids ≡ true) ⊎ (s.forbids ≡ false) → length (written_sheet counts s).rows ≤ 508 → WellFormedSheet counts (written_sheet counts s)
      go (inl e) = rw (forbidden_same counts s e) (λ l. p)
      go (inr e) = rw (written_same counts s p e) (written_formed counts s p e)

-- ---- the book
pub written_out_twins : WrittenOutTwins
unfolding written_out written_sheet flat_map
written_out_twins b p =
    record {
      same_counts = refl;
      as_many = sym (length-map b.sheets (written_sheet b.counts));
      sheets = λ s l.
          rw (get_or-map (written_sheet b.counts) b.sheets s no_sheet)
          (sheet_twin b.counts (sheet_at b s) (p.sheet (sheet_at b s) (in_list _ b.sheets s l)) p.few_values);
    }

pub written_out_answers : WrittenOutAnswers
written_out_answers b p = twins_answer b (written_out b) p (written_out_twins b p)

pub written_out_plain : WrittenOutPlain
unfolding written_out written_sheet
written_out_plain b p =
    record {
      row = λ s m r k.
          let q = Memᴰ.of_map (written_sheet b.counts) b.sheets m in
          subst (λ (t : Sheet). Memᴰ r t.rows → Combination b.counts t.columns r) q.2
          (sheet_plain b.counts q.0 (p.sheet q.0 q.1) r) k;
    }

pub written_out_formed : WrittenOutFormed
unfolding written_out
written_out_formed b p few =
    record {
      some_column = p.some_column;
      few_columns = p.few_columns;
      few_sheets = rw (length-map b.sheets (written_sheet b.counts)) p.few_sheets;
      some_value = p.some_value;
      few_values = p.few_values;
      sheet = λ s m.
          let q = Memᴰ.of_map (written_sheet b.counts) b.sheets m in
          rw (← q.2) (sheet_formed b.counts q.0 (p.sheet q.0 q.1) (rw q.2 (few s m)));
    }
