-- Laws of the first number that passes a test, for loops that look for it and for the stretches that are put together. Assumes nothing.
use mathlib.Core.Path.{◌≡◌, refl, sym, ap, ◌∙◌}
use mathlib.Core.Bool.{Bool, true, false, ◌||◌, false≢true}
use mathlib.Core.Logic.{◌⊎◌, inl, inr}
use Prim.Native.Nat.{ℕ, ◌+◌, ◌*◌, ◌/◌, ◌%◌, ◌≤◌, ◌<◌}
use native.Mathlib.Nat.{le_refl}
use native.Mathlib.Omega.{arith}
use denote.Param.Members.{Mut}
use denote.Ref.{Bor}
use Rattle.std.proofs.lemmas.Iterator.{first_from_Range}
use Rattle.std.specs.Fn.{CalledAt}
use Rattle.std.specs.Iterator.{YieldsThen}
use Rattle.std.specs.List.{FoldsTo}
use Rattle.std.specs.Prelude.{None, Option, Some, MatchOption, ⊤, List}
use Rattle.std.specs.declared.ops.Range.{Range}
use Rattle.std.proofs.iter.Yields.{nat_range_steps}
use Rattle.model.specs.Tests.{Finds, FirstIn, FirstOf, NoneIn, any_below, lowest}
use Rattle.model.proofs.Tests.{any_below_i, any_below_none, below, either, lowest_before, lowest_e, lowest_le, or_e, or_false_l, or_false_r}

module _ {f : ℕ → Bool} where
  -- ---- nothing passes
  pub none_empty : {a e : ℕ} → e ≤ a → NoneIn f a e
  none_empty h = record { at = λ i p q. absurd (omega arith) }

  -- one number more, k the one after it
  pub none_to : {a i k : ℕ} → k ≡ i + 1 → NoneIn f a i → f i ≡ false → NoneIn f a k
  none_to {a} {i} {k} w h e = record { at = λ j p q. go j p q (below j i) }
    where
      go : (j : ℕ) → a ≤ j → j < k → (j < i) ⊎ (i ≤ j) → f j ≡ false
      go j p q (inl l) = h.at j p l
      go j p q (inr l) = let z : j ≡ i = omega arith in ap f z ∙ e

  pub none_more : {a i : ℕ} → NoneIn f a i → f i ≡ false → NoneIn f a (i + 1)
  none_more = none_to refl

  pub none_join : {a m e : ℕ} → NoneIn f a m → NoneIn f m e → NoneIn f a e
  none_join {a} {m} {e} h g = record { at = λ k p q. go k p q (below k m) }
    where
      go : (k : ℕ) → a ≤ k → k < e → (k < m) ⊎ (m ≤ k) → f k ≡ false
      go k p q (inl l) = h.at k p l
      go k p q (inr l) = g.at k l q

  -- ---- the first that passes
  pub first_in_found : {a e i : ℕ} → a ≤ i → i < e → NoneIn f a i → f i ≡ true → FirstIn f a e i
  first_in_found p q h t = record { from = p; to = omega arith; none = h; passes = λ l. t }

  pub first_in_end : {a e r : ℕ} → a ≤ r → r ≤ e → e ≤ r → NoneIn f a r → FirstIn f a e r
  first_in_end p q l h = record { from = p; to = q; none = h; passes = λ k. absurd (omega arith) }

  -- found below m, it is the first below every later end
  pub first_in_wider : {a m r : ℕ} (e : ℕ) → m ≤ e → FirstIn f a m r → r < m → FirstIn f a e r
  first_in_wider e p h l = record { from = h.from; to = omega (arith, h.to); none = h.none; passes = λ k. h.passes l }

  -- nothing from a to m, so it is the first from a on
  pub first_in_join : {a m e r : ℕ} → a ≤ m → NoneIn f a m → FirstIn f m e r → FirstIn f a e r
  first_in_join p h g = record { from = omega (arith, g.from); to = g.to; none = none_join h g.none; passes = g.passes }

  -- not found before the end
  pub first_in_none : {a e r : ℕ} → FirstIn f a e r → e ≤ r → NoneIn f a e
  first_in_none {a} {e} {r} h p = record { at = λ i l k. h.none.at i l (omega arith) }

  -- it is no higher than one that passes
  pub first_in_most : {a e r : ℕ} (i : ℕ) → FirstIn f a e r → a ≤ i → f i ≡ true → r ≤ i
  first_in_most {a} {e} {r} i h p t = go (below i r)
    where
      go : (i < r) ⊎ (r ≤ i) → r ≤ i
      go (inl l) = absurd (false≢true (sym (h.none.at i p l) ∙ t))
      go (inr l) = l

  -- there is only one
  pub first_in_only : {a e r q : ℕ} → FirstIn f a e r → FirstIn f a e q → r ≡ q
  first_in_only {a} {e} {r} {q} h g = go (below r q) (below q r)
    where
      go : (r < q) ⊎ (q ≤ r) → (q < r) ⊎ (r ≤ q) → r ≡ q
      go (inl l) y = absurd (false≢true (sym (g.none.at r h.from l) ∙ h.passes (omega (arith, g.to))))
      go (inr l) (inl k) = absurd (false≢true (sym (h.none.at q g.from k) ∙ g.passes (omega (arith, h.to))))
      go (inr l) (inr k) = omega arith

  -- ---- the first that passes, or nothing
  pub first_of_found : {a e i : ℕ} → a ≤ i → i < e → NoneIn f a i → f i ≡ true → FirstOf f a e (Some i)
  first_of_found p q h t = (q, first_in_found p q h t)

  -- found in the stretch from m to k, with nothing before it
  pub first_of_some : {a m k i : ℕ} (e : ℕ) → a ≤ m → k ≤ e → NoneIn f a m → FirstOf f m k (Some i) → FirstOf f a e (Some i)
  first_of_some e p q h x = (omega (arith, x.0), first_in_wider e q (first_in_join p h x.1) x.0)

  -- looked for in the last stretch, with nothing before it
  pub first_of_join : {a m : ℕ} (e : ℕ) (o : Option ℕ) → a ≤ m → NoneIn f a m → FirstOf f m e o → FirstOf f a e o
  first_of_join e None p h x = none_join h x
  first_of_join e (Some i) p h x = (x.0, first_in_join p h x.1)

  pub lowest_first_in : (n : ℕ) → FirstIn f 0 n (lowest n f)
  lowest_first_in n = record {
    from = omega arith;
    to = lowest_le n f;
    none = record { at = λ i p q. lowest_before n f i q };
    passes = lowest_e n f;
  }

  pub first_in_lowest : {n r : ℕ} → FirstIn f 0 n r → lowest n f ≡ r
  first_in_lowest {n} h = first_in_only (lowest_first_in n) h

  -- nothing passes exactly when the lowest is the bound
  pub none_lowest : {n : ℕ} → NoneIn f 0 n → lowest n f ≡ n
  none_lowest {n} h = first_in_lowest (first_in_end (omega arith) (le_refl n) (le_refl n) h)

  pub lowest_none : (n : ℕ) → (lowest n f < n → ⊥) → NoneIn f 0 n
  lowest_none n h = go (below (lowest n f) n)
    where
      go : (lowest n f < n) ⊎ (n ≤ lowest n f) → NoneIn f 0 n
      go (inl l) = absurd (h l)
      go (inr l) = first_in_none (lowest_first_in n) l

  -- ---- the same as a test
  pub none_any : {n : ℕ} → NoneIn f 0 n → any_below n f ≡ false
  none_any {n} h = any_below_none n f (λ i l. h.at i (omega arith) l)

  pub any_none : {n : ℕ} → any_below n f ≡ false → NoneIn f 0 n
  any_none {n} e = record { at = λ i p q. go i q (either (f i)) }
    where
      go : (i : ℕ) → i < n → (f i ≡ true) ⊎ (f i ≡ false) → f i ≡ false
      go i q (inl t) = absurd (false≢true (sym e ∙ any_below_i n f i q t))
      go i q (inr t) = t

  -- ---- whether one passes
  pub finds_empty : {a e : ℕ} → e ≤ a → Finds f a e false
  finds_empty h = record { none = λ p. none_empty h; some = λ p. absurd (false≢true p) }

  pub finds_more : {a i : ℕ} (t : Bool) → a ≤ i → Finds f a i t → Finds f a (i + 1) (t || f i)
  finds_more {a} {i} true h x = let r = x.some refl in record {
    none = λ p. absurd (false≢true (sym p));
    some = λ p. (r.0, r.1, omega (arith, r.2), r.3);
  }
  finds_more {a} {i} false h x = record { none = λ p. none_more (x.none refl) p; some = λ p. (i, h, omega arith, p) }

  pub finds_any : {n : ℕ} (t : Bool) → Finds f 0 n t → any_below n f ≡ t
  finds_any {n} true x = let r = x.some refl in any_below_i n f r.0 r.2 r.3
  finds_any {n} false x = none_any (x.none refl)

-- the same tests have the same first
pub first_in_same : {f g : ℕ → Bool} {a e r : ℕ} → ((i : ℕ) → a ≤ i → i < e → f i ≡ g i) → FirstIn f a e r → FirstIn g a e r
first_in_same h x = record {
  from = x.from;
  to = x.to;
  none = record { at = λ i p q. sym (h i p (omega (arith, x.to))) ∙ x.none.at i p q };
  passes = λ l. sym (h _ x.from l) ∙ x.passes l;
}

pub first_of_same : {f g : ℕ → Bool} {a e : ℕ} (o : Option ℕ) → ((i : ℕ) → a ≤ i → i < e → f i ≡ g i) → FirstOf f a e o → FirstOf g a e o
first_of_same None h x = record { at = λ i p q. sym (h i p q) ∙ x.at i p q }
first_of_same (Some r) h x = (x.0, first_in_same h x.1)

-- what `find` gives over a range, where the closure computes the test
pub first_of_range : {F : Type 0} {g : Mut F (Bor ℕ × Unit {0}) Bool} (f : ℕ → Bool) (s u : Range ℕ) (p : F) (r : Option ℕ)
    → (xs : List ℕ) × (j : F) × YieldsThen nat_range_steps s xs r u × FoldsTo (λ p x q. CalledAt g p x false q) p xs j × MatchOption r ⊤ (λ x. (h : F) × CalledAt g j x true h)
    → ((x : ℕ) (b : Bool) (q : F) → CalledAt g p x b q → (q ≡ p) × (b ≡ f x)) → FirstOf f s.start s.end r
first_of_range f s u p r ran called =
    go r
    (first_from_Range s u p r (λ x. f x ≡ true) (λ x. f x ≡ false) ran (λ x q k. sym (called x true q k).1)
    (λ x q k. let e = called x false q k in (e.0, sym e.1)))
  where
    go : (o : Option ℕ)
        → MatchOption o ((k : ℕ) → s.start ≤ k → k < s.end → f k ≡ false) (λ i. (s.start ≤ i) × (i < s.end) × (f i ≡ true) × ((k : ℕ) → s.start ≤ k → k < i → f k ≡ false))
        → FirstOf f s.start s.end o
    go None h = record { at = h }
    go (Some i) h = first_of_found h.0 h.1 (record { at = h.3 }) h.2

pub finds_same : {f g : ℕ → Bool} {a e : ℕ} {t : Bool} → ((i : ℕ) → a ≤ i → i < e → f i ≡ g i) → Finds f a e t → Finds g a e t
finds_same h x = record {
  none = λ p. record { at = λ i l m. sym (h i l m) ∙ (x.none p).at i l m };
  some = λ p. let r = x.some p in (r.0, r.1, r.2, sym (h r.0 r.1 r.2) ∙ r.3);
}

-- g tells of four numbers of f at a time
pub finds_fours : {f g : ℕ → Bool} {n : ℕ} {t : Bool}
    → ((r : ℕ) → r < n → g r ≡ (f (4 * r) || (f (4 * r + 1) || (f (4 * r + 2) || f (4 * r + 3))))) → Finds g 0 n t → Finds f 0 (4 * n) t
finds_fours {f} {g} {n} {t} h x = record {
  none = λ p. record { at = λ i l m. off i (sym (h (i / 4) (omega arith)) ∙ (x.none p).at (i / 4) (omega arith) (omega arith)) };
  some = λ p. let r = x.some p in on r.0 r.2 (sym (h r.0 r.2) ∙ r.3);
}
  where
    off : (i : ℕ) → (f (4 * (i / 4)) || (f (4 * (i / 4) + 1) || (f (4 * (i / 4) + 2) || f (4 * (i / 4) + 3)))) ≡ false → f i ≡ false
    off i e = go (below (i % 4) 1) (below (i % 4) 2) (below (i % 4) 3)
      where
        e1 : (f (4 * (i / 4) + 1) || (f (4 * (i / 4) + 2) || f (4 * (i / 4) + 3))) ≡ false
        e1 = or_false_r (f (4 * (i / 4))) _ e

        e2 : (f (4 * (i / 4) + 2) || f (4 * (i / 4) + 3)) ≡ false
        e2 = or_false_r (f (4 * (i / 4) + 1)) _ e1

        go : (i % 4 < 1) ⊎ (1 ≤ i % 4) → (i % 4 < 2) ⊎ (2 ≤ i % 4) → (i % 4 < 3) ⊎ (3 ≤ i % 4) → f i ≡ false
        go (inl a) b c = let d : i ≡ 4 * (i / 4) = omega arith in ap f d ∙ or_false_l (f (4 * (i / 4))) _ e
        go (inr a) (inl b) c = let d : i ≡ 4 * (i / 4) + 1 = omega arith in ap f d ∙ or_false_l (f (4 * (i / 4) + 1)) _ e1
        go (inr a) (inr b) (inl c) = let d : i ≡ 4 * (i / 4) + 2 = omega arith in ap f d ∙ or_false_l (f (4 * (i / 4) + 2)) _ e2
        go (inr a) (inr b) (inr c) = let d : i ≡ 4 * (i / 4) + 3 = omega arith in ap f d ∙ or_false_r (f (4 * (i / 4) + 2)) _ e2

    on : (r : ℕ) → r < n → (f (4 * r) || (f (4 * r + 1) || (f (4 * r + 2) || f (4 * r + 3)))) ≡ true
        → (i : ℕ) × (0 ≤ i) × (i < 4 * n) × (f i ≡ true)
    on r l e = go (or_e (f (4 * r)) _ e)
      where
        last : (f (4 * r + 2) ≡ true) ⊎ (f (4 * r + 3) ≡ true) → (i : ℕ) × (0 ≤ i) × (i < 4 * n) × (f i ≡ true)
        last (inl c) = (4 * r + 2, omega arith, omega arith, c)
        last (inr c) = (4 * r + 3, omega arith, omega arith, c)

        rest : (f (4 * r + 1) ≡ true) ⊎ ((f (4 * r + 2) || f (4 * r + 3)) ≡ true) → (i : ℕ) × (0 ≤ i) × (i < 4 * n) × (f i ≡ true)
        rest (inl b) = (4 * r + 1, omega arith, omega arith, b)
        rest (inr b) = last (or_e (f (4 * r + 2)) _ b)

        go : (f (4 * r) ≡ true) ⊎ ((f (4 * r + 1) || (f (4 * r + 2) || f (4 * r + 3))) ≡ true)
            → (i : ℕ) × (0 ≤ i) × (i < 4 * n) × (f i ≡ true)
        go (inl a) = (4 * r, omega arith, omega arith, a)
        go (inr a) = rest (or_e (f (4 * r + 1)) _ a)
