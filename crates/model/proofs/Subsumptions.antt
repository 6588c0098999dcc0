-- Laws of subsumed sheets: what the test says, and that a sheet is subsumed in consistent domains of which at most one is open. Assumes nothing.
use mathlib.Core.Path.{◌∙◌, ◌≡◌, ap, sym}
use mathlib.Core.Bool.{Bool, false, true, true≢false}
use mathlib.Core.Logic.{◌⊎◌, ◌↔◌, inl, inr}
use mathlib.Core.List.{List, Memᴰ}
use Prim.Native.Nat.{◌<◌, ◌^◌, ◌≤◌, ℕ}
use native.Mathlib.Omega.{arith}
use lib.Dec.{ltb}
use lib.ListN.{get_or, length}
use lib.Seq.{ext_get_or}
use borrow.Author.Tests.{lt-ltb}
use Rattle.model.specs.Answers.{Subsumed, subsumed}
use Rattle.model.specs.Books.{Book, ConsistentStore, Sheet, Support, allows}
use Rattle.model.specs.Choices.{Takes, every_choice, pick}
use Rattle.model.specs.Masks.{bit, size}
use Rattle.model.specs.Stores.{has}
use Rattle.model.specs.Tests.{any_below}
use Rattle.model.proofs.Choices.{Small, every_choice_iff, length-pick, pick_e, pick_small}
use Rattle.model.proofs.Masks.{bit_below}
use Rattle.model.proofs.Tests.{any_below_e, any_below_i, below, either, two_count}

pub subsumed_iff : (D : List ℕ) → Small D → (s : Sheet) → (subsumed D s ≡ true) ↔ Subsumed D s
unfolding subsumed
subsumed_iff D h s =
    let k = every_choice_iff (pick D s.columns) (pick_small D s.columns h) (allows s) in (λ e. record { each = k.0 e }, λ a. k.1 a.each)

-- it goes by the domains of the sheet's own columns
pub subsumed_same : (D E : List ℕ) (s : Sheet) → pick D s.columns ≡ pick E s.columns → subsumed D s ≡ subsumed E s
unfolding subsumed
subsumed_same D E s e = ap (λ (B : List ℕ). every_choice B (allows s)) e

same_place : (j i : ℕ) → (j ≡ i) ⊎ (j ≡ i → ⊥)
same_place j i = go (below i j) (below j i)
  where
    go : (i < j) ⊎ (j ≤ i) → (j < i) ⊎ (i ≤ j) → (j ≡ i) ⊎ (j ≡ i → ⊥)
    go (inl a) r = inr (λ e. omega arith)
    go (inr a) (inl r) = inr (λ e. omega arith)
    go (inr a) (inr r) = inl (omega arith)

-- two values of a domain that is not open are one
single : (m u v : ℕ) → m < 2 ^ 32 → (1 < size m → ⊥) → bit u m ≡ true → bit v m ≡ true → u ≡ v
single m u v l n p q = go (below u v) (below v u)
  where
    go : (u < v) ⊎ (v ≤ u) → (v < u) ⊎ (u ≤ v) → u ≡ v
    go (inl a) r = absurd (n (two_count 32 (λ i. bit i m) u v (bit_below 32 m u l p) (bit_below 32 m v l q) p q (λ e. omega arith)))
    go (inr a) (inl r) = absurd (n (two_count 32 (λ i. bit i m) u v (bit_below 32 m u l p) (bit_below 32 m v l q) p q (λ e. omega arith)))
    go (inr a) (inr r) = omega arith

-- the rule of before request W3, "at most one column of s holds more than one value", is enough in settled domains: any other place than i holds one
-- value, so a choice is the support of its value at place i
module _ (b : Book) (D : List ℕ) (h : Small D) (c : ConsistentStore b D) (s : Sheet) (m : Memᴰ s b.sheets) where
  one_choice : (i : ℕ) → i < length s.columns
      → ((j : ℕ) → j < length s.columns → (j ≡ i → ⊥) → 1 < size (get_or D (get_or s.columns j 0) 0) → ⊥) → Subsumed D s
  unfolding has
  one_choice i l n = record { each = each }
    where
      each : (t : List ℕ) → Takes (pick D s.columns) t → allows s t ≡ true
      each t k =
          let wide = length-pick D s.columns in
          let u = c.support s m i l (get_or t i 0) (pick_e D s.columns i (get_or t i 0) (k.each i (rw wide l))).1 in
          let same : u.tuple ≡ t = ext_get_or 0 u.tuple t (u.valid.size ∙ sym k.size) (λ j q. at u j (omega (arith, u.valid.size, wide)) (same_place j i)) in
          rw same at u.sheet_allows
        where
          at : (u : Support D s i (get_or t i 0)) (j : ℕ) → j < length s.columns → (j ≡ i) ⊎ (j ≡ i → ⊥) → get_or u.tuple j 0 ≡ get_or t j 0
          at u j q (inl e) = rw e u.value
          at u j q (inr e) =
              let wide = length-pick D s.columns in
              single (get_or D (get_or s.columns j 0) 0) (get_or u.tuple j 0) (get_or t j 0) (h (get_or s.columns j 0)) (n j q e)
              (pick_e D s.columns j (get_or u.tuple j 0) (u.valid.each j (rw wide q))).1 (pick_e D s.columns j (get_or t j 0) (k.each j (rw wide q))).1

  abbrev opens : ℕ → Bool
  opens j = ltb 1 (size (get_or D (get_or s.columns j 0) 0))

  pub one_open : 0 < length s.columns → ((i j : ℕ) → i < j → j < length s.columns → opens i ≡ true → opens j ≡ true → ⊥) → Subsumed D s
  one_open l n = go (either (any_below (length s.columns) opens))
    where
      go : (any_below (length s.columns) opens ≡ true) ⊎ (any_below (length s.columns) opens ≡ false) → Subsumed D s
      go (inl e) =
          let r = any_below_e (length s.columns) opens e in
          one_choice r.0 r.1 (λ j q ne o. other r.0 j r.1 q r.2 (lt-ltb 1 _ o) ne (below r.0 j) (below j r.0))
        where
          other : (i j : ℕ) → i < length s.columns → j < length s.columns → opens i ≡ true → opens j ≡ true → (j ≡ i → ⊥) → (i < j) ⊎ (j ≤ i) → (j < i) ⊎ (i ≤ j) → ⊥
          other i j p q e f ne (inl a) r = n i j a q e f
          other i j p q e f ne (inr a) (inl r) = n j i r p f e
          other i j p q e f ne (inr a) (inr r) = ne (omega arith)
      go (inr e) = one_choice 0 l (λ j q ne o. true≢false (sym (any_below_i (length s.columns) opens j q (lt-ltb 1 _ o)) ∙ e))
