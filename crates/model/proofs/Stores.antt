-- Laws of stores: what a store has, and when two are equal. Assumes nothing.
use mathlib.Core.Path.{◌≡◌, sym, ap, ◌∙◌, subst}
use mathlib.Core.Bool.{Bool, true, false, not, ◌&&◌, ◌||◌, false≢true}
use mathlib.Core.Logic.{◌⊎◌, inl, inr}
use mathlib.Core.List.{List}
use Prim.Native.Nat.{ℕ, ◌^◌, ◌≤◌, ◌<◌}
use native.Mathlib.Nat.{lt_of_le_of_lt}
use native.Mathlib.Omega.{arith}
use lib.Dec.{eqb}
use lib.Bits.{bit_and, and_le_l}
use lib.Pow.{pow-lt}
use lib.Arith.{lt_of_le-ne}
use lib.ListN.{length, get_or, set, length-set, get_or-eq_default}
use lib.Seq.{ext_get_or, get_or-set_same, get_or-set_other}
use borrow.Author.Tests.{eqb-true, eqb-false, eq-eqb, ne_eqb}
use Rattle.model.specs.Tests.{any_below, one_if, sum, tab}
use Rattle.model.specs.Masks.{bit, mask_of}
use Rattle.model.specs.Stores.{has, Within, IsStore, store_of, empty_store, meet, assign, all_filled, values}
use Rattle.model.proofs.Tests.{and_l, and_true, either, all_below_e, all_below_i, any_below_e, any_below_i, sum_le, sum_eq, one_if_le, one_if_eq, length-tab, get_or-tab, get_or-tab_out, tab_same, below}
use Rattle.model.proofs.Masks.{bit_of_zero, bit-mask_of, mask_of_lt, mask_of_same, mask_ext, bit-and, bit-mask_of_out, bit_below, bit_pow, bit_pow_only}

pub has_i : (C : ℕ) (f : ℕ → ℕ → Bool) (c v : ℕ) → c < C → v < 32 → f c v ≡ true → has (store_of C f) c v ≡ true
unfolding has store_of
has_i C f c v hc hv e =
    ap (bit v) (get_or-tab 0 C (λ k. mask_of 32 (λ w. f k w)) c hc) ∙ bit-mask_of 32 (λ w. f c w) v hv ∙ e

pub has_e : (C : ℕ) (f : ℕ → ℕ → Bool) (c v : ℕ) → has (store_of C f) c v ≡ true → (c < C) × (v < 32) × (f c v ≡ true)
unfolding has store_of
has_e C f c v e = go (below c C) (below v 32)
  where
    go : (c < C) ⊎ (C ≤ c) → (v < 32) ⊎ (32 ≤ v) → (c < C) × (v < 32) × (f c v ≡ true)
    go (inl p) (inl q) =
        (p, q, sym (bit-mask_of 32 (λ w. f c w) v q) ∙ ap (bit v) (sym (get_or-tab 0 C (λ k. mask_of 32 (λ w. f k w)) c p)) ∙ e)
    go (inl p) (inr q) =
        absurd (false≢true (sym (bit-mask_of_out 32 (λ w. f c w) v q) ∙ ap (bit v) (sym (get_or-tab 0 C (λ k. mask_of 32 (λ w. f k w)) c p)) ∙ e))
    go (inr p) q =
        absurd (false≢true (sym (bit_of_zero v) ∙ ap (bit v) (sym (get_or-tab_out C (λ k. mask_of 32 (λ w. f k w)) c p)) ∙ e))

pub store_of_same : (C : ℕ) (f g : ℕ → ℕ → Bool) → ((c v : ℕ) → c < C → v < 32 → f c v ≡ g c v) → store_of C f ≡ store_of C g
unfolding store_of
store_of_same C f g h = tab_same C _ _ (λ c p. mask_of_same 32 (λ v. f c v) (λ v. g c v) (λ v q. h c v p q))

pub is_store : (C : ℕ) (f : ℕ → ℕ → Bool) → IsStore C (store_of C f)
unfolding store_of
is_store C f = record { columns = length-tab C _; bits = λ c. go c (below c C) }
  where
    go : (c : ℕ) → (c < C) ⊎ (C ≤ c) → get_or (tab C (λ k. mask_of 32 (λ w. f k w))) c 0 < 2 ^ 32
    go c (inl p) = rw (get_or-tab 0 C (λ k. mask_of 32 (λ w. f k w)) c p) (mask_of_lt 32 (λ w. f c w))
    go c (inr p) = rw (get_or-tab_out C (λ k. mask_of 32 (λ w. f k w)) c p) (omega arith)

-- stores with the same values are equal
pub store_ext : (C : ℕ) (A B : List ℕ) → IsStore C A → IsStore C B → ((c v : ℕ) → c < C → v < 32 → has A c v ≡ has B c v) → A ≡ B
unfolding has
store_ext C A B a b h =
    ext_get_or 0 A B (a.columns ∙ sym b.columns)
    (λ c l. mask_ext 32 (get_or A c 0) (get_or B c 0) (a.bits c) (b.bits c) (λ v p. h c v (omega (arith, a.columns)) p))

-- every value of a store stands in one of its columns, below 32
pub in_store : (C : ℕ) (A : List ℕ) → IsStore C A → (c v : ℕ) → has A c v ≡ true → (c < C) × (v < 32)
unfolding has
in_store C A a c v e = (go (below c C), bit_below 32 (get_or A c 0) v (a.bits c) e)
  where
    go : (c < C) ⊎ (C ≤ c) → c < C
    go (inl p) = p
    go (inr q) =
        absurd (false≢true (sym (bit_of_zero v) ∙ ap (bit v) (sym (get_or-eq_default A 0 (omega (arith, a.columns)))) ∙ e))

pub within_refl : (A : List ℕ) → Within A A
within_refl A = record { at = λ c v e. e }

pub within_trans : {A B D : List ℕ} → Within A B → Within B D → Within A D
within_trans p q = record { at = λ c v e. q.at c v (p.at c v e) }

-- ---- the empty store
pub empty_has : (C c v : ℕ) → has (empty_store C) c v ≡ true → ⊥
unfolding empty_store
empty_has C c v e = false≢true (has_e C (λ c v. false) c v e).2

pub empty_store_lem : (C : ℕ) → IsStore C (empty_store C)
unfolding empty_store
empty_store_lem C = is_store C _

-- ---- no column is empty
pub filled_e : (C : ℕ) (B : List ℕ) → all_filled C B ≡ true → (c : ℕ) → c < C → (v : ℕ) × (has B c v ≡ true)
unfolding all_filled
filled_e C B e c l =
    let r = any_below_e 32 (λ v. has B c v) (all_below_e C (λ c. any_below 32 (λ v. has B c v)) e c l) in
    (r.0, r.2)

pub filled_i : (C : ℕ) (B : List ℕ) → IsStore C B → ((c : ℕ) → c < C → (v : ℕ) × (has B c v ≡ true)) → all_filled C B ≡ true
unfolding all_filled
filled_i C B b h =
    all_below_i C (λ c. any_below 32 (λ v. has B c v))
    (λ c l. let r = h c l in any_below_i 32 (λ v. has B c v) r.0 (in_store C B b c r.0 r.1).1 r.1)

-- no column of the empty store is filled
pub empty_unfilled : (C : ℕ) → 0 < C → all_filled C (empty_store C) ≡ false
empty_unfilled C pos = go (either (all_filled C (empty_store C)))
  where
    go : (all_filled C (empty_store C) ≡ true) ⊎ (all_filled C (empty_store C) ≡ false) → all_filled C (empty_store C) ≡ false
    go (inl e) = let r = filled_e C (empty_store C) e 0 pos in absurd (empty_has C 0 r.0 r.1)
    go (inr e) = e

-- ---- a store within another and not equal to it has fewer values
pub values_fall : (C : ℕ) (B A : List ℕ) → IsStore C B → IsStore C A → Within B A → (B ≡ A → ⊥) → values C B < values C A
unfolding values
values_fall C B A bb ba w n = lt_of_le-ne (sum_le C _ _ col) (λ e. n (store_ext C B A bb ba (same e)))
  where
    cell : (c v : ℕ) → one_if (has B c v) ≤ one_if (has A c v)
    cell c v = one_if_le (has B c v) (has A c v) (w.at c v)

    col : (c : ℕ) → c < C → sum 32 (λ v. one_if (has B c v)) ≤ sum 32 (λ v. one_if (has A c v))
    col c l = sum_le 32 _ _ (λ v m. cell c v)

    same : sum C (λ c. sum 32 (λ v. one_if (has B c v))) ≡ sum C (λ c. sum 32 (λ v. one_if (has A c v)))
        → (c v : ℕ) → c < C → v < 32 → has B c v ≡ has A c v
    same e c v p q = one_if_eq _ _ (sum_eq 32 _ _ (λ w m. cell c w) (sum_eq C _ _ col e c p) v q)

-- ---- one column replaced
-- column k is column c, or another
same_or_other : (D : List ℕ) (c m k : ℕ) → c < length D
    → ((c ≡ k) × (get_or (set D c m) k 0 ≡ m)) ⊎ ((c ≡ k → ⊥) × (get_or (set D c m) k 0 ≡ get_or D k 0))
same_or_other D c m k l = go (either (eqb c k))
  where
    go : (eqb c k ≡ true) ⊎ (eqb c k ≡ false)
        → ((c ≡ k) × (get_or (set D c m) k 0 ≡ m)) ⊎ ((c ≡ k → ⊥) × (get_or (set D c m) k 0 ≡ get_or D k 0))
    go (inl e) =
        let q : c ≡ k = eqb-true c k e in
        inl (q, ap (λ (j : ℕ). get_or (set D c m) j 0) (sym q) ∙ get_or-set_same D c m 0 l)
    go (inr e) = inr (eqb-false c k e, get_or-set_other D c k m 0 (λ q. eqb-false c k e (sym q)))

pub set_store : (C : ℕ) (D : List ℕ) (c m : ℕ) → IsStore C D → c < C → m < 2 ^ 32 → IsStore C (set D c m)
set_store C D c m d l h = record { columns = length-set D c m ∙ d.columns; bits = λ k. go k (same_or_other D c m k (omega (arith, d.columns))) }
  where
    go : (k : ℕ) → ((c ≡ k) × (get_or (set D c m) k 0 ≡ m)) ⊎ ((c ≡ k → ⊥) × (get_or (set D c m) k 0 ≡ get_or D k 0))
        → get_or (set D c m) k 0 < 2 ^ 32
    go k (inl p) = rw p.1 h
    go k (inr q) = rw q.1 (d.bits k)

-- column c met with a mask
pub meet-has : (D : List ℕ) (c m k v : ℕ) → c < length D → has (meet D c m) k v ≡ (has D k v && (not (eqb c k) || bit v m))
unfolding has
meet-has D c m k v l = go (same_or_other D c (bit_and (get_or D c 0) m) k l)
  where
    go : ((c ≡ k) × (get_or (meet D c m) k 0 ≡ bit_and (get_or D c 0) m)) ⊎ ((c ≡ k → ⊥) × (get_or (meet D c m) k 0 ≡ get_or D k 0))
        → bit v (get_or (meet D c m) k 0) ≡ (bit v (get_or D k 0) && (not (eqb c k) || bit v m))
    go (inl p) = rw (p.1, eq-eqb c k p.0) (bit-and v (get_or D c 0) m ∙ ap (λ (j : ℕ). bit v (get_or D j 0) && bit v m) p.0)
    go (inr q) = rw (q.1, ne_eqb c k q.0) (sym (and_true (bit v (get_or D k 0))))

pub meet_within : (D : List ℕ) (c m : ℕ) → c < length D → Within (meet D c m) D
meet_within D c m l = record { at = λ k v e. and_l (has D k v) _ (sym (meet-has D c m k v l) ∙ e) }

pub meet_store : (C : ℕ) (D : List ℕ) (c m : ℕ) → IsStore C D → c < C → IsStore C (meet D c m)
meet_store C D c m d l =
    set_store C D c (bit_and (get_or D c 0) m) d l (lt_of_le_of_lt (and_le_l (get_or D c 0) m) (d.bits c))

-- column c set to one value
pub assign_e : (D : List ℕ) (c v k u : ℕ) → c < length D → has D c v ≡ true → has (assign D c v) k u ≡ true
    → (has D k u ≡ true) × (k ≡ c → u ≡ v)
unfolding has
assign_e D c v k u l h e = go (same_or_other D c (2 ^ v) k l)
  where
    go : ((c ≡ k) × (get_or (assign D c v) k 0 ≡ 2 ^ v)) ⊎ ((c ≡ k → ⊥) × (get_or (assign D c v) k 0 ≡ get_or D k 0))
        → (bit u (get_or D k 0) ≡ true) × (k ≡ c → u ≡ v)
    go (inl p) =
        let q : u ≡ v = bit_pow_only v u (rw p.1 at e) in
        (subst (λ (j : ℕ). bit u (get_or D j 0) ≡ true) p.0 (rw q h), λ r. q)
    go (inr q) = (rw q.1 at e, λ r. absurd (q.0 (sym r)))

pub assign_i : (D : List ℕ) (c v k u : ℕ) → c < length D → has D k u ≡ true → (k ≡ c → u ≡ v) → has (assign D c v) k u ≡ true
unfolding has
assign_i D c v k u l e h = go (same_or_other D c (2 ^ v) k l)
  where
    go : ((c ≡ k) × (get_or (assign D c v) k 0 ≡ 2 ^ v)) ⊎ ((c ≡ k → ⊥) × (get_or (assign D c v) k 0 ≡ get_or D k 0))
        → bit u (get_or (assign D c v) k 0) ≡ true
    go (inl p) = rw (p.1, h (sym p.0)) (bit_pow v)
    go (inr q) = rw q.1 e

pub assign_store : (C : ℕ) (D : List ℕ) (c v : ℕ) → IsStore C D → c < C → v < 32 → IsStore C (assign D c v)
assign_store C D c v d l h = set_store C D c (2 ^ v) d l (pow-lt h)
