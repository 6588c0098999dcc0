-- A sheet settles: once the values without support are struck, what is left has support in what is left. This is for any allowed set: nothing here looks
-- into `allows`. Assumes nothing.
use mathlib.Core.Path.{◌∙◌, ◌≡◌, ap, sym}
use mathlib.Core.Bool.{false, false≢true, true}
use mathlib.Core.Logic.{◌⊎◌, inl, inr}
use mathlib.Core.List.{List}
use Prim.Native.Nat.{◌<◌, ◌^◌, ℕ}
use lib.ListN.{get_or, length}
use Rattle.model.specs.Books.{Settles, Sheet, Support, WellFormedSheet, supported_in}
use Rattle.model.specs.Stores.{has}
use Rattle.model.proofs.Books.{distinct, place_or_none, support_e, support_i}
use Rattle.model.proofs.Choices.{length-pick, pick_e, pick_i}
use Rattle.model.proofs.Tests.{either}

module _ (counts D E : List ℕ) (s : Sheet) (p : WellFormedSheet counts s) (d : (c : ℕ) → get_or D c 0 < 2 ^ 32) (h : Settles D E s) where
  -- every value of a support is supported by it, so none of them is struck
  pub tuple_left : (i v : ℕ) (k : Support D s i v) (j : ℕ) → j < length s.columns → has E (get_or s.columns j 0) (get_or k.tuple j 0) ≡ true
  tuple_left i v k j l =
      go (h.struck (get_or s.columns j 0) (get_or k.tuple j 0) (pick_e D s.columns j (get_or k.tuple j 0) (k.valid.each j (rw (length-pick D s.columns) l))).1)
    where
      own : supported_in D (get_or s.columns j 0) (get_or k.tuple j 0) s ≡ true
      own =
          support_i D d s (get_or s.columns j 0) (get_or k.tuple j 0)
          (λ n m q.
          record {
            tuple = k.tuple;
            sheet_allows = k.sheet_allows;
            valid = k.valid;
            value = ap (λ (x : ℕ). get_or k.tuple x 0) (distinct s.columns p.rising n j m l q);
          })

      go : (has E (get_or s.columns j 0) (get_or k.tuple j 0) ≡ true) ⊎ (supported_in D (get_or s.columns j 0) (get_or k.tuple j 0) s ≡ false)
          → has E (get_or s.columns j 0) (get_or k.tuple j 0) ≡ true
      go (inl e) = e
      go (inr e) = absurd (false≢true (sym e ∙ own))

  support_left : (i v : ℕ) → Support D s i v → Support E s i v
  support_left i v k =
      record {
        tuple = k.tuple;
        sheet_allows = k.sheet_allows;
        valid =
            record {
              size = k.valid.size ∙ length-pick D s.columns ∙ sym (length-pick E s.columns);
              each = λ j m.
                  let l : j < length s.columns = rw (length-pick E s.columns) at m in
                  pick_i E s.columns j (get_or k.tuple j 0) l (tuple_left i v k j l);
            };
        value = k.value;
      }

  -- what is left has support in what is left
  pub left_support : (i v : ℕ) → i < length s.columns → has E (get_or s.columns i 0) v ≡ true → Support E s i v
  left_support i v l e = support_left i v (support_e D counts s p i l v (h.left (get_or s.columns i 0) v e))

  pub settles_seen : ((c : ℕ) → get_or E c 0 < 2 ^ 32) → (c v : ℕ) → has E c v ≡ true → supported_in E c v s ≡ true
  settles_seen z c v e = support_i E z s c v (λ i l q. left_support i v l (rw q e))

  -- a value left in one column of the sheet leaves one in each
  own_filled : (i v : ℕ) → i < length s.columns → has E (get_or s.columns i 0) v ≡ true → (j : ℕ) → j < length s.columns
      → (u : ℕ) × (has E (get_or s.columns j 0) u ≡ true)
  own_filled i v l e j m = let k = support_e D counts s p i l v (h.left (get_or s.columns i 0) v e) in (get_or k.tuple j 0, tuple_left i v k j m)

  -- so no column becomes empty where the first does not
  pub settles_filled : (w : ℕ) → has E (get_or s.columns 0 0) w ≡ true → (c v : ℕ) → has D c v ≡ true → (u : ℕ) × (has E c u ≡ true)
  settles_filled w f c v e = go (place_or_none s.columns c)
    where
      other : ((i : ℕ) → i < length s.columns → get_or s.columns i 0 ≡ c → ⊥) → (has E c v ≡ true) ⊎ (supported_in D c v s ≡ false) → (u : ℕ) × (has E c u ≡ true)
      other n (inl t) = (v, t)
      other n (inr t) = absurd (false≢true (sym t ∙ support_i D d s c v (λ i l q. absurd (n i l q))))

      go : ((i : ℕ) × (i < length s.columns) × (get_or s.columns i 0 ≡ c)) ⊎ ((i : ℕ) → i < length s.columns → get_or s.columns i 0 ≡ c → ⊥)
          → (u : ℕ) × (has E c u ≡ true)
      go (inl j) = let u = own_filled 0 w p.some_column f j.0 j.1 in (u.0, rw j.2 at u.1)
      go (inr n) = other n (h.struck c v e)

  -- and where the first does, no value of the sheet's columns has support
  pub settles_failed : ((w : ℕ) → has E (get_or s.columns 0 0) w ≡ true → ⊥) → (i v : ℕ) → i < length s.columns
      → supported_in D (get_or s.columns i 0) v s ≡ false
  settles_failed n i v l = go (either (supported_in D (get_or s.columns i 0) v s))
    where
      go : (supported_in D (get_or s.columns i 0) v s ≡ true) ⊎ (supported_in D (get_or s.columns i 0) v s ≡ false)
          → supported_in D (get_or s.columns i 0) v s ≡ false
      go (inl e) = let k = support_e D counts s p i l v e in absurd (n (get_or k.tuple 0 0) (tuple_left i v k 0 p.some_column))
      go (inr e) = e

-- a value has support exactly when the test says so
pub supported_iff : (D counts : List ℕ) → ((c : ℕ) → get_or D c 0 < 2 ^ 32) → (s : Sheet) → WellFormedSheet counts s → (i v : ℕ) → i < length s.columns
    → (supported_in D (get_or s.columns i 0) v s ≡ true → Support D s i v) × (Support D s i v → supported_in D (get_or s.columns i 0) v s ≡ true)
supported_iff D counts d s p i v l = (
  support_e D counts s p i l v,
  λ k. support_i D d s (get_or s.columns i 0) v
      (λ n m q. let e : n ≡ i = distinct s.columns p.rising n i m l q in rw e k),
)
