-- Laws of books: the support test says what document 01 says, so a value stays exactly when a consistent store within holds it.
-- But for `allows_plain`, `allows_forbidden` and what cites them, none of them looks into `allows`. Assumes nothing.
use mathlib.Core.Path.{◌≡◌, refl, sym, ap, ◌∙◌, subst}
use mathlib.Core.Bool.{true, false, cond, not, ◌&&◌, ◌||◌, false≢true, true≢false}
use mathlib.Core.Logic.{◌⊎◌, inl, inr, ◌↔◌}
use mathlib.Core.List.Memᴰ
use mathlib.Core.List.{List, [], ◌∷◌, Memᴰ}
use Prim.Native.Nat.{ℕ, zero, suc, ◌^◌, ◌≤◌, ◌<◌}
use native.Mathlib.Nat.{not-suc-le-zero, le_of_suc-le-suc, zero-lt-suc}
use native.Mathlib.Omega.{arith}
use lib.Dec.{eqb, ltb}
use lib.ListN.{length, get_or}
use lib.Pow.{pow_pos}
use borrow.Author.Tests.{eqb-true, eq-eqb, lt-ltb, ltb-true, not-true}
use Rattle.model.specs.Tests.{any_in}
use Rattle.model.specs.Masks.{bit}
use Rattle.model.specs.Stores.{has, Within, IsStore, store_of, empty_store}
use Rattle.model.specs.Closure.{Monotone, Consistent, closure_of}
use Rattle.model.specs.Choices.{pick, any_choice}
use Rattle.model.specs.Books.{Sheet, Book, column_count, in_domain, is_any, matches, row_matches, is_row, allows, WellFormedSheet, WellFormed, Support, ConsistentStore, Stays, Fails, supports, supported_in, supported, closure}
use Rattle.model.proofs.Tests.{and_l, and_r, and_i, or_e, or_l, or_r, either, all_in_mono, all_in_e, all_in_i, any_in_e, any_in_i, below, positive}
use Rattle.model.proofs.Masks.{bit_of_zero, bit_pow, bit_pow_only, lt_own_pow, some_bit}
use Rattle.model.proofs.Stores.{has_i, has_e, is_store, in_store, within_trans}
use Rattle.model.proofs.Closure.{closure_iff, consistent_or_empty, failed_iff, between_self, between_rest}
use Rattle.model.proofs.Choices.{any_choice_e, any_choice_i, any_choice_mono, length-pick, pick_within, pick_small, takes_mono}

-- ---- the support test is monotone
pub supported_in_mono : (B A : List ℕ) → Within B A → (c v : ℕ) (s : Sheet) → supported_in B c v s ≡ true → supported_in A c v s ≡ true
unfolding supported_in
supported_in_mono B A w c v s e = go (or_e (not (any_in s.columns (eqb c))) _ e)
  where
    go : (not (any_in s.columns (eqb c)) ≡ true) ⊎ (any_choice (pick B s.columns) (λ t. allows s t && supports s.columns t c v) ≡ true)
        → (not (any_in s.columns (eqb c)) || any_choice (pick A s.columns) (λ t. allows s t && supports s.columns t c v)) ≡ true
    go (inl p) = or_l _ _ p
    go (inr q) =
        or_r (not (any_in s.columns (eqb c))) _
        (any_choice_mono (pick B s.columns) (pick A s.columns) (length-pick B s.columns ∙ sym (length-pick A s.columns)) (pick_within B A s.columns w) _ q)

-- it goes by the sheet's own columns
pub supported_in_same : (B A : List ℕ) (s : Sheet) → pick B s.columns ≡ pick A s.columns → (c v : ℕ) → supported_in B c v s ≡ supported_in A c v s
unfolding supported_in
supported_in_same B A s e c v =
    ap (λ (P : List ℕ). not (any_in s.columns (eqb c)) || any_choice P (λ t. allows s t && supports s.columns t c v)) e

pub supported_mono : (b : Book) → Monotone (column_count b) (supported b)
unfolding supported
supported_mono b =
    record { grows = λ B A w c v e. all_in_mono b.sheets (supported_in B c v) (supported_in A c v) (supported_in_mono B A w c v) e }

-- ---- columns of a sheet, and their places
place : (cs : List ℕ) (c : ℕ) → any_in cs (eqb c) ≡ true → (i : ℕ) × (i < length cs) × (get_or cs i 0 ≡ c)
unfolding any_in
place [] c e = absurd (false≢true e)
place (k ∷ ks) c e = go (or_e (eqb c k) _ e) (place ks c)
  where
    go : (eqb c k ≡ true) ⊎ (any_in ks (eqb c) ≡ true) → (any_in ks (eqb c) ≡ true → (i : ℕ) × (i < length ks) × (get_or ks i 0 ≡ c))
        → (i : ℕ) × (i < suc (length ks)) × (get_or (k ∷ ks) i 0 ≡ c)
    go (inl p) f = (0, zero-lt-suc (length ks), sym (eqb-true c k p))
    go (inr q) f = let r = f q in (suc r.0, omega arith, r.2)

placed : (cs : List ℕ) (i : ℕ) → i < length cs → any_in cs (eqb (get_or cs i 0)) ≡ true
unfolding any_in
placed [] i l = absurd (not-suc-le-zero l)
placed (k ∷ ks) zero l = or_l _ _ (eq-eqb k k refl)
placed (k ∷ ks) (suc i) l = or_r (eqb (get_or ks i 0) k) _ (placed ks i (le_of_suc-le-suc l))

-- a column has a place in the sheet, or it has none
pub place_or_none : (cs : List ℕ) (c : ℕ)
    → ((i : ℕ) × (i < length cs) × (get_or cs i 0 ≡ c)) ⊎ ((i : ℕ) → i < length cs → get_or cs i 0 ≡ c → ⊥)
place_or_none cs c = go (either (any_in cs (eqb c)))
  where
    go : (any_in cs (eqb c) ≡ true) ⊎ (any_in cs (eqb c) ≡ false)
        → ((i : ℕ) × (i < length cs) × (get_or cs i 0 ≡ c)) ⊎ ((i : ℕ) → i < length cs → get_or cs i 0 ≡ c → ⊥)
    go (inl e) = inl (place cs c e)
    go (inr e) = inr (λ i l q. true≢false (sym (placed cs i l) ∙ ap (λ (k : ℕ). any_in cs (eqb k)) q ∙ e))

supports_e : (ks r : List ℕ) (c v : ℕ) → supports ks r c v ≡ true → (i : ℕ) × (i < length ks) × (get_or ks i 0 ≡ c) × (get_or r i 0 ≡ v)
unfolding supports
supports_e [] r c v e = absurd (false≢true e)
supports_e (k ∷ ks) [] c v e = absurd (false≢true e)
supports_e (k ∷ ks) (x ∷ xs) c v e = go (or_e (eqb k c && eqb x v) _ e) (supports_e ks xs c v)
  where
    go : ((eqb k c && eqb x v) ≡ true) ⊎ (supports ks xs c v ≡ true)
        → (supports ks xs c v ≡ true → (i : ℕ) × (i < length ks) × (get_or ks i 0 ≡ c) × (get_or xs i 0 ≡ v))
        → (i : ℕ) × (i < suc (length ks)) × (get_or (k ∷ ks) i 0 ≡ c) × (get_or (x ∷ xs) i 0 ≡ v)
    go (inl p) f = (0, zero-lt-suc (length ks), eqb-true k c (and_l _ _ p), eqb-true x v (and_r (eqb k c) _ p))
    go (inr q) f = let r = f q in (suc r.0, omega arith, r.2, r.3)

supports_i : (ks r : List ℕ) (i v : ℕ) → length r ≡ length ks → i < length ks → get_or r i 0 ≡ v → supports ks r (get_or ks i 0) v ≡ true
unfolding supports
supports_i [] r i v h l e = absurd (not-suc-le-zero l)
supports_i (k ∷ ks) [] i v h l e = absurd (omega arith)
supports_i (k ∷ ks) (x ∷ xs) zero v h l e = or_l _ _ (and_i (eq-eqb k k refl) (eq-eqb x v e))
supports_i (k ∷ ks) (x ∷ xs) (suc i) v h l e =
    or_r (eqb k (get_or ks i 0) && eqb x v) _ (supports_i ks xs i v (omega arith) (le_of_suc-le-suc l) e)

-- rising columns differ
pub distinct : (cs : List ℕ) → ((i j : ℕ) → i < j → j < length cs → get_or cs i 0 < get_or cs j 0)
    → (i j : ℕ) → i < length cs → j < length cs → get_or cs i 0 ≡ get_or cs j 0 → i ≡ j
distinct cs h i j li lj e = go (below i j) (below j i)
  where
    go : (i < j) ⊎ (j ≤ i) → (j < i) ⊎ (i ≤ j) → i ≡ j
    go (inl p) q = absurd (omega (arith, h i j p lj))
    go (inr p) (inl q) = absurd (omega (arith, h j i q li))
    go (inr p) (inr q) = omega arith

-- ---- a sheet's support test, by supports
pub support_e : (B : List ℕ) (counts : List ℕ) (s : Sheet) → WellFormedSheet counts s → (i : ℕ) → i < length s.columns → (v : ℕ)
    → supported_in B (get_or s.columns i 0) v s ≡ true → Support B s i v
unfolding supported_in
support_e B counts s p i l v e = go (or_e (not (any_in s.columns (eqb (get_or s.columns i 0)))) _ e)
  where
    go : (not (any_in s.columns (eqb (get_or s.columns i 0))) ≡ true)
        ⊎ (any_choice (pick B s.columns) (λ t. allows s t && supports s.columns t (get_or s.columns i 0) v) ≡ true)
        → Support B s i v
    go (inl q) = absurd (true≢false (sym (placed s.columns i l) ∙ not-true _ q))
    go (inr q) =
        let r = any_choice_e (pick B s.columns) (λ t. allows s t && supports s.columns t (get_or s.columns i 0) v) q in
        let j = supports_e s.columns r.0 (get_or s.columns i 0) v (and_r (allows s r.0) _ r.2) in
        let same : j.0 ≡ i = distinct s.columns p.rising j.0 i j.1 l j.2 in
        record {
          tuple = r.0;
          sheet_allows = and_l (allows s r.0) _ r.2;
          valid = r.1;
          value = ap (λ (k : ℕ). get_or r.0 k 0) (sym same) ∙ j.3;
        }

-- whether column c is in the sheet or not
pub support_i : (B : List ℕ) → ((k : ℕ) → get_or B k 0 < 2 ^ 32) → (s : Sheet) (c v : ℕ)
    → ((i : ℕ) → i < length s.columns → get_or s.columns i 0 ≡ c → Support B s i v) → supported_in B c v s ≡ true
unfolding supported_in
support_i B d s c v h = go (either (any_in s.columns (eqb c)))
  where
    go : (any_in s.columns (eqb c) ≡ true) ⊎ (any_in s.columns (eqb c) ≡ false)
        → (not (any_in s.columns (eqb c)) || any_choice (pick B s.columns) (λ t. allows s t && supports s.columns t c v)) ≡ true
    go (inr q) = or_l _ _ (ap not q)
    go (inl q) =
        let i = place s.columns c q in
        let k = h i.0 i.1 i.2 in
        or_r (not (any_in s.columns (eqb c))) _
        (any_choice_i (pick B s.columns) (pick_small B s.columns d) (λ t. allows s t && supports s.columns t c v) k.tuple k.valid
        (and_i k.sheet_allows
        (rw i.2 at (supports_i s.columns k.tuple i.0 v (k.valid.size ∙ length-pick B s.columns) i.1 k.value))))

-- ---- consistent by the test, consistent by the paper
pub consistent_to : (b : Book) → WellFormed b → (B : List ℕ) → Consistent (column_count b) (supported b) B → ConsistentStore b B
unfolding supported
consistent_to b p B h =
    record {
      filled = h.filled;
      support = λ s m i l v e.
          support_e B b.counts s (p.sheet s m) i l v
          (all_in_e b.sheets (supported_in B (get_or s.columns i 0) v) (h.supported (get_or s.columns i 0) v e) s m);
    }

pub consistent_from : (b : Book) (B : List ℕ) → IsStore (column_count b) B → ConsistentStore b B → Consistent (column_count b) (supported b) B
unfolding supported
consistent_from b B d h =
    record {
      filled = h.filled;
      supported = λ c v e.
          all_in_i b.sheets (supported_in B c v)
          (λ s m. support_i B d.bits s c v (λ i l q. h.support s m i l v (rw q e)));
    }

-- a support in a store is one in a wider store
pub support_mono : (B D : List ℕ) → Within B D → (s : Sheet) (i v : ℕ) → Support B s i v → Support D s i v
support_mono B D w s i v k =
    record {
      tuple = k.tuple;
      sheet_allows = k.sheet_allows;
      valid = takes_mono (pick B s.columns) (pick D s.columns) k.tuple (length-pick B s.columns ∙ sym (length-pick D s.columns)) (pick_within B D s.columns w) k.valid;
      value = k.value;
    }

-- a store with the same values is as consistent
pub consistent_same : (b : Book) (B D : List ℕ) → Within B D → Within D B → ConsistentStore b B → ConsistentStore b D
consistent_same b B D w u h =
    record {
      filled = λ c l. let r = h.filled c l in (r.0, w.at c r.0 r.1);
      support = λ s m i l v e. support_mono B D w s i v (h.support s m i l v (u.at (get_or s.columns i 0) v e));
    }

-- ---- the closure of a book's store
-- the values of B as C masks of 32 bits
tidy : Book → List ℕ → List ℕ
tidy b B = store_of (column_count b) (λ c v. has B c v)

module _ (b : Book) (p : WellFormed b) (A : List ℕ) (a : IsStore (column_count b) A) where
  tidy_to : (B : List ℕ) → Within B A → Within B (tidy b B)
  unfolding tidy
  tidy_to B w =
      record {
        at = λ c v e.
            let i = in_store (column_count b) A a c v (w.at c v e) in
            has_i (column_count b) (λ c v. has B c v) c v i.0 i.1 e;
      }

  tidy_from : (B : List ℕ) → Within (tidy b B) B
  unfolding tidy
  tidy_from B = record { at = λ c v e. (has_e (column_count b) (λ c v. has B c v) c v e).2 }

  tidy_consistent : (B : List ℕ) → Within B A → ConsistentStore b B → Consistent (column_count b) (supported b) (tidy b B)
  unfolding tidy
  tidy_consistent B w h =
      consistent_from b (tidy b B) (is_store (column_count b) _) (consistent_same b B (tidy b B) (tidy_to B w) (tidy_from B) h)

  -- a value stays exactly when some consistent store within A holds it
  pub stays_iff : (c v : ℕ) → (has (closure b A) c v ≡ true) ↔ Stays b A c v
  unfolding closure
  stays_iff c v = (to, from)
    where
      to : has (closure_of (column_count b) (supported b) A) c v ≡ true → Stays b A c v
      to e =
          let s = (closure_iff (column_count b) (supported b) (supported_mono b) A a c v).0 e in
          record { store = s.store; consistent = consistent_to b p s.store s.consistent; within = s.within; holds = s.holds }

      from : Stays b A c v → has (closure_of (column_count b) (supported b) A) c v ≡ true
      from s =
          (closure_iff (column_count b) (supported b) (supported_mono b) A a c v).1
          (record {
            store = tidy b s.store;
            consistent = tidy_consistent s.store s.within s.consistent;
            within = within_trans (tidy_from s.store) s.within;
            holds = (tidy_to s.store s.within).at c v s.holds;
          })

  -- every domain is empty exactly when there is no consistent store within A
  pub fails_iff : (closure b A ≡ empty_store (column_count b)) ↔ Fails b A
  unfolding closure
  fails_iff = (
    λ e. record {
      none = λ B h w.
          ((failed_iff (column_count b) (supported b) (supported_mono b) A a p.some_column).0 e).none (tidy b B) (tidy_consistent B w h)
          (within_trans (tidy_from B) w);
    },
    λ n. (failed_iff (column_count b) (supported b) (supported_mono b) A a p.some_column).1
        (record { none = λ B h w. n.none B (consistent_to b p B h) w }),
  )

  -- the closure is consistent, or it is empty
  pub closed_or_empty : ConsistentStore b (closure b A) ⊎ (closure b A ≡ empty_store (column_count b))
  unfolding closure
  closed_or_empty = go (consistent_or_empty (column_count b) (supported b) (supported_mono b) A a)
    where
      go : Consistent (column_count b) (supported b) (closure_of (column_count b) (supported b) A)
          ⊎ (closure_of (column_count b) (supported b) A ≡ empty_store (column_count b))
          → ConsistentStore b (closure_of (column_count b) (supported b) A)
          ⊎ (closure_of (column_count b) (supported b) A ≡ empty_store (column_count b))
      go (inl h) = inl (consistent_to b p _ h)
      go (inr e) = inr e

-- ---- what a cell matches: all that the laws above and below ask of it
-- 255 matches every value
pub matches_any : (x v : ℕ) → is_any x ≡ true → matches x v ≡ true
unfolding in_domain
matches_any x v e = rw e (lt-ltb 0 (2 ^ v) (pow_pos v))

-- any other cell matches itself
pub matches_plain : (x v : ℕ) → is_any x ≡ false → matches x v ≡ true → x ≡ v
unfolding in_domain
matches_plain x v e m = bit_pow_only v x (rw e at m)

pub matches_self : (x : ℕ) → matches x x ≡ true
unfolding in_domain
matches_self x = go (either (is_any x))
  where
    go : (is_any x ≡ true) ⊎ (is_any x ≡ false) → cond (is_any x) (ltb 0 (2 ^ x)) (bit x (2 ^ x)) ≡ true
    go (inl e) = rw e (lt-ltb 0 (2 ^ x) (pow_pos x))
    go (inr e) = rw e (bit_pow x)

-- a cell is in a domain exactly when it matches a value of it
pub in_domain_i : (x d v : ℕ) → matches x v ≡ true → bit v d ≡ true → in_domain x d ≡ true
unfolding in_domain
in_domain_i x d v m e = go (either (is_any x))
  where
    go : (is_any x ≡ true) ⊎ (is_any x ≡ false) → cond (is_any x) (ltb 0 d) (bit x d) ≡ true
    go (inl a) = rw a (lt-ltb 0 d (positive d (λ z. false≢true (sym (bit_of_zero v) ∙ ap (bit v) (sym z) ∙ e))))
    go (inr a) = rw a (ap (λ (u : ℕ). bit u d) (bit_pow_only v x (rw a at m)) ∙ e)

pub in_domain_e : (x d : ℕ) → in_domain x d ≡ true → (v : ℕ) × (bit v d ≡ true) × (matches x v ≡ true)
unfolding in_domain
in_domain_e x d e = go (either (is_any x))
  where
    go : (is_any x ≡ true) ⊎ (is_any x ≡ false) → (v : ℕ) × (bit v d ≡ true) × (cond (is_any x) (ltb 0 (2 ^ v)) (bit x (2 ^ v)) ≡ true)
    go (inl a) =
        let r = some_bit d d (lt_own_pow d) (ltb-true 0 d (rw a at e)) in (r.0, r.2, rw a (lt-ltb 0 (2 ^ r.0) (pow_pos r.0)))
    go (inr a) = (x, rw a at e, rw a (bit_pow x))

-- ---- what is allowed, by the kind of the sheet
pub is_row_e : (s : Sheet) (t : List ℕ) → is_row s t ≡ true → (r : List ℕ) × Memᴰ r s.rows × (row_matches r t ≡ true)
unfolding is_row
is_row_e s t e = any_in_e s.rows (λ r. row_matches r t) e

pub is_row_i : (s : Sheet) (r t : List ℕ) → Memᴰ r s.rows → row_matches r t ≡ true → is_row s t ≡ true
unfolding is_row
is_row_i s r t m e = any_in_i s.rows (λ r. row_matches r t) r m e

pub allows_plain : (s : Sheet) → s.forbids ≡ false → (t : List ℕ) → allows s t ≡ is_row s t
unfolding allows
allows_plain s f t = rw f

pub allows_forbidden : (s : Sheet) → s.forbids ≡ true → (t : List ℕ) → allows s t ≡ not (is_row s t)
unfolding allows
allows_forbidden s f t = rw f

-- where rows are allowed: what is allowed matches a row, and what matches a row is allowed
pub allows_e : (s : Sheet) → s.forbids ≡ false → (t : List ℕ) → allows s t ≡ true → (r : List ℕ) × Memᴰ r s.rows × (row_matches r t ≡ true)
allows_e s f t e = is_row_e s t (sym (allows_plain s f t) ∙ e)

pub allows_i : (s : Sheet) → s.forbids ≡ false → (r t : List ℕ) → Memᴰ r s.rows → row_matches r t ≡ true → allows s t ≡ true
allows_i s f r t m e = allows_plain s f t ∙ is_row_i s r t m e

-- a book with a sheet that allows no rows fails, whatever the others allow: K8 for every such book
pub no_rows_fail : (b : Book) → WellFormed b → (s : Sheet) → Memᴰ s b.sheets → s.forbids ≡ false → s.rows ≡ []
    → (A : List ℕ) → IsStore (column_count b) A → closure b A ≡ empty_store (column_count b)
no_rows_fail b p s m plain e A a = (fails_iff b p A a).1 (record { none = gone })
  where
    gone : (B : List ℕ) → ConsistentStore b B → Within B A → ⊥
    gone B h w =
        let q = p.sheet s m in
        let r = h.filled (get_or s.columns 0 0) (q.inside 0 q.some_column) in
        let k = h.support s m 0 q.some_column r.0 r.1 in
        let r = allows_e s plain k.tuple k.sheet_allows in Memᴰ.not-nil (subst (λ (l : List (List ℕ)). Memᴰ r.0 l) e r.1)

-- in a book without sheets all values stay, where no column is empty: K9 for every such book
pub no_sheets_stay : (b : Book) → b.sheets ≡ [] → (A : List ℕ) → IsStore (column_count b) A
    → ((c : ℕ) → c < column_count b → (v : ℕ) × (has A c v ≡ true)) → closure b A ≡ A
unfolding closure
no_sheets_stay b e A a h =
    between_rest (column_count b) (supported b) (supported_mono b) A a A a (between_self (column_count b) (supported b) (supported_mono b) A a)
    (consistent_from b A a (record { filled = h; support = λ s m. absurd (Memᴰ.not-nil (rw e at m)) }))
