-- A forbidden sheet by counting its valid rows: they do not repeat, so with a value at a place there are as many of them as choices for the other places
-- exactly when each such choice is forbidden; and it is done exactly when no row is valid. Assumes nothing.
use mathlib.Core.Path.{◌∙◌, ◌≡◌, ap, refl, sym}
use mathlib.Core.Bool.{Bool, ◌&&◌, false, not, true, true≢false}
use mathlib.Core.Logic.{◌⊎◌, inl, inr}
use mathlib.Core.List.{List, []}
use Prim.Native.Nat.{◌+◌, ◌-◌, ◌<◌, ◌^◌, ◌≤◌, suc, zero, ℕ}
use native.Mathlib.Omega.{arith}
use lib.Dec.{eqb, ltb}
use lib.ListN.{get_or, length, length-set, set}
use lib.Pow.{pow-lt}
use lib.Seq.{ext_get_or, get_or-set_other, get_or-set_same}
use borrow.Author.Tests.{eq-eqb, eqb-true, lt-ltb, ltb-true, ne_eqb, not-true}
use Rattle.model.specs.Answers.{Subsumed}
use Rattle.model.specs.Books.{Sheet, Support, WellFormedSheet, in_domain, is_any, is_row}
use Rattle.model.specs.Choices.{Distinct, Listed, Lower, Pigeonhole, Takes, any_choice, pick, space}
use Rattle.model.specs.Masks.{bit}
use Rattle.model.specs.States.{SupportsByCounting, choices_but, valid_row, valid_rows_at}
use Rattle.model.specs.Stores.{has}
use Rattle.model.specs.Tests.{count}
use Rattle.model.proofs.Books.{allows_forbidden, is_row_e, is_row_i}
use Rattle.model.proofs.Choices.{Small, any_choice_e, any_choice_i, length-pick, pick_i, pick_small}
use Rattle.model.proofs.Masks.{bit_below, bit_pow, bit_pow_only}
use Rattle.model.proofs.Rows.{at_place, in_list, matched_valid, row_plain, row_self, valid_e}
use Rattle.model.proofs.Tallies.{pigeonhole, space_single}
use Rattle.model.proofs.Tests.{and_i, and_l, and_r, below, either}

-- ---- rows that rise do not repeat
lower_trans : (x y z : List ℕ) → Lower x y → Lower y z → Lower x z
lower_trans x y z a b = go (below a.column b.column) (below b.column a.column)
  where
    go : (a.column < b.column) ⊎ (b.column ≤ a.column) → (b.column < a.column) ⊎ (a.column ≤ b.column) → Lower x z
    go (inl p) q =
        record {
          column = a.column;
          same = λ d l. a.same d l ∙ b.same d (omega arith);
          less = omega (arith, a.less, b.same a.column p);
        }
    go (inr p) (inl q) =
        record {
          column = b.column;
          same = λ d l. a.same d (omega arith) ∙ b.same d l;
          less = omega (arith, b.less, a.same b.column q);
        }
    go (inr p) (inr q) =
        let e : a.column ≡ b.column = omega arith in
        let k : get_or x b.column 0 < get_or y b.column 0 = rw e at a.less in
        record { column = b.column; same = λ d l. a.same d (omega arith) ∙ b.same d l; less = omega (arith, b.less) }

module _ (rows : List (List ℕ)) (rises : (r : ℕ) → suc r < length rows → Lower (get_or rows r []) (get_or rows (suc r) [])) where
  lower_on : (k i j : ℕ) → suc (i + k) ≡ j → j < length rows → Lower (get_or rows i []) (get_or rows j [])
  lower_on zero i j e l = let q : j ≡ suc i = omega arith in rw q (rises i (omega arith))
  lower_on (suc k) i j e l =
      lower_trans (get_or rows i []) (get_or rows (suc i) []) (get_or rows j []) (rises i (omega arith)) (lower_on k (suc i) j (omega arith) l)

  not_same : (i j : ℕ) → i < j → j < length rows → get_or rows i [] ≡ get_or rows j [] → ⊥
  not_same i j l k e =
      let f = lower_on (j - suc i) i j (omega arith) k in omega (arith, f.less, ap (λ (x : List ℕ). get_or x f.column 0) e)

  rows_differ : (i j : ℕ) → i < length rows → j < length rows → get_or rows i [] ≡ get_or rows j [] → i ≡ j
  rows_differ i j l m e = go (below i j) (below j i)
    where
      go : (i < j) ⊎ (j ≤ i) → (j < i) ⊎ (i ≤ j) → i ≡ j
      go (inl p) q = absurd (not_same i j p m e)
      go (inr p) (inl q) = absurd (not_same j i q l (sym e))
      go (inr p) (inr q) = omega arith

-- ---- rows by numbers
-- the numbers below m that pass stand for the valid rows with v at place i, each for another
pub record Numbered (D : List ℕ) (s : Sheet) (i v m : ℕ) (passes : ℕ → Bool) (number : ℕ → ℕ) : Type 0 where
  pub valid : (q : ℕ) → q < m → passes q ≡ true → valid_row D s (number q) ≡ true
  pub value : (q : ℕ) → q < m → passes q ≡ true → get_or (get_or s.rows (number q) []) i 0 ≡ v
  pub once : (q r : ℕ) → q < m → r < m → passes q ≡ true → passes r ≡ true → number q ≡ number r → q ≡ r
  pub every : (r : ℕ) → valid_row D s r ≡ true → get_or (get_or s.rows r []) i 0 ≡ v → (q : ℕ) × (q < m) × (passes q ≡ true) × (number q ≡ r)

-- ---- the choices with the value v at place i
module _ (B : List ℕ) (i v : ℕ) (l : i < length B) (e : has B i v ≡ true) where
  single_e : (t : List ℕ) → Takes (set B i (2 ^ v)) t → Takes B t × (get_or t i 0 ≡ v)
  unfolding has
  single_e t k =
      let here : get_or t i 0 ≡ v = bit_pow_only v (get_or t i 0) (rw (get_or-set_same B i (2 ^ v) 0 l) at (k.each i (rw (length-set B i (2 ^ v)) l))) in
      (record { size = k.size ∙ length-set B i (2 ^ v); each = λ c m. each here c m (either (eqb c i)) }, here)
    where
      each : get_or t i 0 ≡ v → (c : ℕ) → c < length B → (eqb c i ≡ true) ⊎ (eqb c i ≡ false) → bit (get_or t c 0) (get_or B c 0) ≡ true
      each h c m (inl q) = let z : c ≡ i = eqb-true c i q in rw (z, h) e
      each h c m (inr q) =
          rw (get_or-set_other B i c (2 ^ v) 0 (λ z. true≢false (sym (eq-eqb c i z) ∙ q))) at (k.each c (rw (length-set B i (2 ^ v)) m))

  single_i : (t : List ℕ) → Takes B t → get_or t i 0 ≡ v → Takes (set B i (2 ^ v)) t
  unfolding has
  single_i t k h =
      record {
        size = k.size ∙ sym (length-set B i (2 ^ v));
        each = λ c m. each c (rw (length-set B i (2 ^ v)) at m) (either (eqb c i));
      }
    where
      each : (c : ℕ) → c < length B → (eqb c i ≡ true) ⊎ (eqb c i ≡ false) → bit (get_or t c 0) (get_or (set B i (2 ^ v)) c 0) ≡ true
      each c m (inl q) = let z : c ≡ i = eqb-true c i q in rw (z, h, get_or-set_same B i (2 ^ v) 0 l) (bit_pow v)
      each c m (inr q) = rw (get_or-set_other B i c (2 ^ v) 0 (λ z. true≢false (sym (eq-eqb c i z) ∙ q))) (k.each c m)

  single_small : Small B → Small (set B i (2 ^ v))
  unfolding has
  single_small h c = go (either (eqb c i))
    where
      go : (eqb c i ≡ true) ⊎ (eqb c i ≡ false) → get_or (set B i (2 ^ v)) c 0 < 2 ^ 32
      go (inl q) =
          let z : c ≡ i = eqb-true c i q in
          rw (z, get_or-set_same B i (2 ^ v) 0 l) (pow-lt (bit_below 32 (get_or B i 0) v (h i) e))
      go (inr q) = rw (get_or-set_other B i c (2 ^ v) 0 (λ z. true≢false (sym (eq-eqb c i z) ∙ q))) (h c)

-- ---- a forbidden sheet
module _ (D counts : List ℕ) (s : Sheet) (p : WellFormedSheet counts s) (few : (c : ℕ) → c < length counts → get_or counts c 0 ≤ 32) (d : Small D) (f : s.forbids ≡ true) where
  abbrev row : ℕ → List ℕ
  row r = get_or s.rows r []

  abbrev B : List ℕ
  B = pick D s.columns

  -- it has no 255
  not_any : (r : ℕ) → r < length s.rows → (j : ℕ) → j < length (row r) → is_any (get_or (row r) j 0) ≡ false
  not_any r l j m = go (p.row_value r j l (rw (p.row_size r l) at m))
    where
      go : ((s.forbids ≡ false) × (is_any (get_or (row r) j 0) ≡ true)) ⊎ (get_or (row r) j 0 < get_or counts (get_or s.columns j 0) 0) → is_any (get_or (row r) j 0) ≡ false
      go (inl q) = absurd (true≢false (sym f ∙ q.0))
      go (inr q) =
          ne_eqb (get_or (row r) j 0) 255
          (λ e. omega (arith, few (get_or s.columns j 0) (p.inside j (rw (p.row_size r l) at m))))

  row_short : (r : ℕ) → valid_row D s r ≡ true → r < length s.rows
  unfolding valid_row
  row_short r e = ltb-true r (length s.rows) (and_l (ltb r (length s.rows)) _ e)

  -- a valid row is a choice, and a choice that is a row is a valid one
  row_takes : (r : ℕ) → valid_row D s r ≡ true → Takes B (row r)
  unfolding valid_row in_domain has
  row_takes r e =
      let l = row_short r e in
      let h = valid_e D s.columns (row r) (and_r (ltb r (length s.rows)) _ e) in
      record {
        size = h.0 ∙ sym (length-pick D s.columns);
        each = λ j m.
            let k : j < length s.columns = rw (length-pick D s.columns) at m in
            pick_i D s.columns j (get_or (row r) j 0) k (rw (not_any r l j (rw h.0 k)) at (h.1 j k));
      }

  row_valid : (r : ℕ) → r < length s.rows → Takes B (row r) → valid_row D s r ≡ true
  unfolding valid_row
  row_valid r l k = and_i (lt-ltb r (length s.rows) l) (matched_valid D s.columns (row r) (row r) (row_self (row r)) k)

  -- t is a row: which one
  which : (t : List ℕ) → is_row s t ≡ true → (r : ℕ) × (r < length s.rows) × (row r ≡ t)
  which t e =
      let m = is_row_e s t e in
      let i = at_place [] m.0 s.rows m.1 in
      (i.0, i.1, row_plain (row i.0) t (not_any i.0 i.1) (rw i.2 m.2))

  -- ---- done: every choice is allowed exactly when no row is valid
  pub none_forbidden : ((r : ℕ) → valid_row D s r ≡ true → ⊥) → Subsumed D s
  none_forbidden n = record { each = λ t k. allows_forbidden s f t ∙ ap not (go t k (either (is_row s t))) }
    where
      go : (t : List ℕ) → Takes B t → (is_row s t ≡ true) ⊎ (is_row s t ≡ false) → is_row s t ≡ false
      go t k (inl e) = let r = which t e in absurd (n r.0 (row_valid r.0 r.1 (rw r.2 k)))
      go t k (inr e) = e

  pub some_forbidden : Subsumed D s → (r : ℕ) → valid_row D s r ≡ true → ⊥
  some_forbidden h r e =
      true≢false
      (sym (is_row_i s (row r) (row r) (in_list [] s.rows r (row_short r e)) (row_self (row r)))
      ∙ not-true _ (sym (allows_forbidden s f (row r)) ∙ h.each (row r) (row_takes r e)))

  module _ (i v : ℕ) (l : i < length s.columns) (e : has D (get_or s.columns i 0) v ≡ true) where
    wide : i < length B
    wide = rw (length-pick D s.columns) l

    here : has B i v ≡ true
    here = pick_i D s.columns i v l e

    abbrev C : List ℕ
    C = set B i (2 ^ v)

    long : length C ≡ length s.columns
    long = length-set B i (2 ^ v) ∙ length-pick D s.columns

    small : Small C
    small = single_small B i v wide here (pick_small D s.columns d)

    choices : space C ≡ choices_but D s i
    unfolding has
    choices = space_single B i v wide (bit_below 32 (get_or B i 0) v (pick_small D s.columns d i) here)

    same_rows : (t u : List ℕ) → length t ≡ length C → length u ≡ length C → ((j : ℕ) → j < length C → get_or t j 0 ≡ get_or u j 0) → t ≡ u
    same_rows t u m n h = ext_get_or 0 t u (m ∙ sym n) (λ j q. h j (rw m at q))

    -- however the valid rows with v at place i are numbered
    module _ {m : ℕ} {passes : ℕ → Bool} {number : ℕ → ℕ} (n : Numbered D s i v m passes number) where
      abbrev cell : ℕ → ℕ → ℕ
      cell q j = get_or (row (number q)) j 0

      inside : (q : ℕ) → q < m → passes q ≡ true → number q < length s.rows
      inside q k p = row_short (number q) (n.valid q k p)

      passes_takes : (q : ℕ) → q < m → passes q ≡ true → Takes C (row (number q))
      passes_takes q k p = single_i B i v wide here (row (number q)) (row_takes (number q) (n.valid q k p)) (n.value q k p)

      row_long : (q : ℕ) → q < m → passes q ≡ true → length (row (number q)) ≡ length C
      row_long q k z = p.row_size (number q) (inside q k z) ∙ sym long

      rows_distinct : Distinct C m passes cell
      rows_distinct =
          record {
            inside = λ q k z j y. (passes_takes q k z).each j y;
            differ = λ q r k y a b h.
                n.once q r k y a b
                (rows_differ s.rows (p.row_rises f) (number q) (number r) (inside q k a) (inside r y b)
                (same_rows (row (number q)) (row (number r)) (row_long q k a) (row_long r y b) h));
          }

      holes : Pigeonhole C m passes cell
      holes = pigeonhole C small m passes cell rows_distinct

      listed_row : (t : List ℕ) → Takes C t → Listed C m passes cell t → is_row s t ≡ true
      listed_row t k q =
          let z : row (number q.number) ≡ t = same_rows (row (number q.number)) t (row_long q.number q.inside q.chosen) k.size q.same in
          is_row_i s (row (number q.number)) t (in_list [] s.rows (number q.number) (inside q.number q.inside q.chosen)) (rw z (row_self t))

      row_listed : (t : List ℕ) → Takes C t → is_row s t ≡ true → Listed C m passes cell t
      row_listed t k q =
          let r = which t q in
          let h = single_e B i v wide here t k in
          let u = n.every r.0 (row_valid r.0 r.1 (rw r.2 h.0)) (ap (λ (x : List ℕ). get_or x i 0) r.2 ∙ h.1) in
          record {
            number = u.0;
            inside = u.1;
            chosen = u.2;
            same = λ j z. ap (λ (x : ℕ). get_or (row x) j 0) u.3 ∙ ap (λ (x : List ℕ). get_or x j 0) r.2;
          }

      pub counted_most : count m passes ≤ choices_but D s i
      counted_most = omega (arith, holes.most, choices)

      pub counted_to : Support D s i v → count m passes < choices_but D s i
      counted_to k =
          let t = single_i B i v wide here k.tuple k.valid k.value in
          let no : is_row s k.tuple ≡ false = not-true _ (sym (allows_forbidden s f k.tuple) ∙ k.sheet_allows) in
          let ne : count m passes ≡ space C → ⊥ = λ q. true≢false (sym (listed_row k.tuple t (holes.full.0 q k.tuple t)) ∙ no) in
          omega (arith, holes.most, choices)

      pub counted_from : count m passes < choices_but D s i → Support D s i v
      counted_from k = go (either (any_choice C (λ t. not (is_row s t))))
        where
          go : (any_choice C (λ t. not (is_row s t)) ≡ true) ⊎ (any_choice C (λ t. not (is_row s t)) ≡ false) → Support D s i v
          go (inl q) =
              let t = any_choice_e C (λ t. not (is_row s t)) q in
              let h = single_e B i v wide here t.0 t.1 in
              record { tuple = t.0; sheet_allows = allows_forbidden s f t.0 ∙ t.2; valid = h.0; value = h.1 }
          go (inr q) = absurd (omega (arith, choices, holes.full.1 (λ t k. row_listed t k (all t k (either (is_row s t))))))
            where
              all : (t : List ℕ) → Takes C t → (is_row s t ≡ true) ⊎ (is_row s t ≡ false) → is_row s t ≡ true
              all t k (inl z) = z
              all t k (inr z) = absurd (true≢false (sym (any_choice_i C small (λ t. not (is_row s t)) t k (ap not z)) ∙ q))

-- by their own numbers
own_numbers : (D : List ℕ) (s : Sheet) (i v : ℕ)
    → Numbered D s i v (length s.rows) (λ r. valid_row D s r && eqb (get_or (get_or s.rows r []) i 0) v) (λ r. r)
unfolding valid_row
own_numbers D s i v =
    record {
      valid = λ r l q. and_l (valid_row D s r) _ q;
      value = λ r l q. eqb-true _ v (and_r (valid_row D s r) _ q);
      once = λ r q l m a b h. h;
      every = λ r q h. (r, ltb-true r (length s.rows) (and_l (ltb r (length s.rows)) _ q), and_i q (eq-eqb _ v h), refl);
    }

pub supports_by_counting : SupportsByCounting
unfolding valid_rows_at
supports_by_counting D counts s p few d f i v l e =
    let n = own_numbers D s i v in
    (counted_to D counts s p few d f i v l e n, counted_from D counts s p few d f i v l e n)
