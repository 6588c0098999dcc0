-- Laws of choices: the first that passes is the least, and none is found exactly when none passes. Assumes nothing.
use mathlib.Core.Path.{◌≡◌, refl, sym, ap, ap₂, ◌∙◌, subst, subst⁻¹}
use mathlib.Core.Bool.{Bool, true, false, cond, not, false≢true}
use mathlib.Core.Logic.{◌⊎◌, inl, inr, ◌↔◌}
use mathlib.Core.Option.{Option, none, some}
use mathlib.Core.List.{List, [], ◌∷◌}
use Prim.Native.Nat.{ℕ, zero, suc, ◌^◌, ◌≤◌, ◌<◌}
use native.Mathlib.Nat.{not-suc-le-zero, le_of_suc-le-suc, zero-lt-suc}
use native.Mathlib.Omega.{arith}
use lib.ListN.{length, get_or, length-map, get_or-eq_default}
use borrow.Author.Tests.{not-true}
use Rattle.model.specs.Masks.{bit}
use Rattle.model.specs.Stores.{has, Within}
use Rattle.model.specs.Choices.{pick, Takes, Lower, any_choice, every_choice}
use Rattle.model.proofs.Tests.{either, same_test, any_below_e, any_below_i, below}
use Rattle.model.proofs.Masks.{bit_of_zero, bit_below}

-- ---- the first choice of one value from each domain that passes a test: lowest by column 0, then column 1, and so on
-- x is a choice from B that passes, and no other that passes is lower
pub record First (B : List ℕ) (p : List ℕ → Bool) (x : List ℕ) : Type 0 where
  pub takes : Takes B x
  pub passes : p x ≡ true
  pub least : (y : List ℕ) → Takes B y → p y ≡ true → (x ≡ y) ⊎ Lower x y

-- the first of f 0, f 1, .. , f (n - 1) that is there
unfoldable pub first_of : ℕ → (ℕ → Option (List ℕ)) → Option (List ℕ)
first_of zero f = none
first_of (suc n) f = elim (f 0) [ none ↦ first_of n (λ v. f (suc v)) | some x ↦ some x ]

-- v in front of a choice for the rest
abbrev pub lead : ℕ → Option (List ℕ) → Option (List ℕ)
lead v none = none
lead v (some x) = some (v ∷ x)

-- "lowest by column 0, then column 1, and so on": the values of the first column in rising order, and for each the first choice of the rest
unfoldable pub first_choice : List ℕ → (List ℕ → Bool) → Option (List ℕ)
first_choice [] p = cond (p []) (some []) none
first_choice (m ∷ B) p = first_of 32 (λ v. elim (bit v m) [ true ↦ lead v (first_choice B (λ x. p (v ∷ x))) | false ↦ none ])

-- ---- laws
pub opt : (o : Option (List ℕ)) → (o ≡ none) ⊎ ((x : List ℕ) × (o ≡ some x))
opt none = inl refl
opt (some x) = inr (x, refl)

pub never : {o : Option (List ℕ)} {x : List ℕ} → o ≡ none → o ≡ some x → ⊥
never p q = let z : ◌≡◌ {A = ℕ} 0 1 = cc in omega arith

pub first_of_none : (n : ℕ) (f : ℕ → Option (List ℕ)) → first_of n f ≡ none → (v : ℕ) → v < n → f v ≡ none
unfolding first_of
first_of_none zero f e v l = absurd (not-suc-le-zero l)
first_of_none (suc n) f e v l = go v l (opt (f 0)) (first_of_none n (λ v. f (suc v)))
  where
    go : (v : ℕ) → v < suc n → (f 0 ≡ none) ⊎ ((x : List ℕ) × (f 0 ≡ some x))
        → (first_of n (λ v. f (suc v)) ≡ none → (v : ℕ) → v < n → f (suc v) ≡ none) → f v ≡ none
    go zero l (inl p) r = p
    go (suc v) l (inl p) r = r (rw (p, first_of) at e) v (le_of_suc-le-suc l)
    go v l (inr q) r = let k : first_of (suc n) f ≡ some q.0 = rw (q.1, first_of) in absurd (never e k)

pub record FirstOf (n : ℕ) (f : ℕ → Option (List ℕ)) (x : List ℕ) : Type 0 where
  pub value : ℕ
  pub inside : value < n
  pub found : f value ≡ some x
  pub before : (u : ℕ) → u < value → f u ≡ none

pub first_of_some : (n : ℕ) (f : ℕ → Option (List ℕ)) (x : List ℕ) → first_of n f ≡ some x → FirstOf n f x
unfolding first_of
first_of_some zero f x e = absurd (never refl e)
first_of_some (suc n) f x e = go (opt (f 0)) (first_of_some n (λ v. f (suc v)) x)
  where
    go : (f 0 ≡ none) ⊎ ((x : List ℕ) × (f 0 ≡ some x))
        → (first_of n (λ v. f (suc v)) ≡ some x → FirstOf n (λ v. f (suc v)) x) → FirstOf (suc n) f x
    go (inl p) r = more (r (rw (p, first_of) at e))
      where
        more : FirstOf n (λ v. f (suc v)) x → FirstOf (suc n) f x
        more h = record { value = suc h.value; inside = omega arith; found = h.found; before = earlier }
          where
            earlier : (u : ℕ) → u < suc h.value → f u ≡ none
            earlier zero l = p
            earlier (suc u) l = h.before u (le_of_suc-le-suc l)
    go (inr q) r =
        let k : first_of (suc n) f ≡ some q.0 = rw (q.1, first_of) in
        record { value = 0; inside = zero-lt-suc n; found = q.1 ∙ sym k ∙ e; before = λ u l. absurd (not-suc-le-zero l) }

pub first_of_same : (n : ℕ) (f g : ℕ → Option (List ℕ)) → ((v : ℕ) → v < n → f v ≡ g v) → first_of n f ≡ first_of n g
unfolding first_of
first_of_same zero f g h = refl
first_of_same (suc n) f g h = go (opt (f 0)) (first_of_same n (λ v. f (suc v)) (λ v. g (suc v)) (λ v l. h (suc v) (omega arith)))
  where
    go : (f 0 ≡ none) ⊎ ((x : List ℕ) × (f 0 ≡ some x)) → first_of n (λ v. f (suc v)) ≡ first_of n (λ v. g (suc v)) → first_of (suc n) f ≡ first_of (suc n) g
    go (inl e) r =
        let a : first_of (suc n) f ≡ first_of n (λ v. f (suc v)) = rw (e, first_of) in
        let z : first_of (suc n) g ≡ first_of n (λ v. g (suc v)) = rw (sym (h 0 (zero-lt-suc n)) ∙ e, first_of) in
        a ∙ r ∙ sym z
    go (inr q) r =
        let a : first_of (suc n) f ≡ some q.0 = rw (q.1, first_of) in
        let z : first_of (suc n) g ≡ some q.0 = rw (sym (h 0 (zero-lt-suc n)) ∙ q.1, first_of) in
        a ∙ sym z

-- one column's step
abbrev step : ℕ → List ℕ → (List ℕ → Bool) → ℕ → Option (List ℕ)
unfolding first_choice
step m B p v = elim (bit v m) [ true ↦ lead v (first_choice B (λ x. p (v ∷ x))) | false ↦ none ]

step_yes : (m : ℕ) (B : List ℕ) (p : List ℕ → Bool) (v : ℕ) → bit v m ≡ true → step m B p v ≡ lead v (first_choice B (λ x. p (v ∷ x)))
unfolding first_choice
step_yes m B p v e = rw (e, step)

step_no : (m : ℕ) (B : List ℕ) (p : List ℕ → Bool) (v : ℕ) → bit v m ≡ false → step m B p v ≡ none
unfolding first_choice
step_no m B p v e = rw (e, step)

lead_none : (v : ℕ) (o : Option (List ℕ)) → lead v o ≡ none → o ≡ none
lead_none v none e = refl
lead_none v (some x) e = absurd (never e refl)

lead_some : (v : ℕ) (o : Option (List ℕ)) (x : List ℕ) → lead v o ≡ some x → (y : List ℕ) × (o ≡ some y) × (x ≡ v ∷ y)
lead_some v none x e = absurd (never refl e)
lead_some v (some y) x e = (y, refl, cc)

-- what a choice from m ∷ B is
takes_tail : {m : ℕ} {B : List ℕ} {v : ℕ} {x : List ℕ} → Takes (m ∷ B) (v ∷ x) → Takes B x
unfolding has
takes_tail t = record { size = omega (arith, t.size); each = λ c l. t.each (suc c) (omega arith) }

takes_head : {m : ℕ} {B : List ℕ} {v : ℕ} {x : List ℕ} → Takes (m ∷ B) (v ∷ x) → bit v m ≡ true
unfolding has
takes_head {m} {B} t = t.each 0 (zero-lt-suc (length B))

pub takes_nil : Takes [] []
takes_nil = record { size = refl; each = λ c l. absurd (not-suc-le-zero l) }

pub takes_cons : {m : ℕ} {B : List ℕ} {v : ℕ} {x : List ℕ} → bit v m ≡ true → Takes B x → Takes (m ∷ B) (v ∷ x)
unfolding has
takes_cons {m} {B} {v} {x} e t = record { size = ap suc t.size; each = at }
  where
    at : (c : ℕ) → c < suc (length B) → bit (get_or (v ∷ x) c 0) (get_or (m ∷ B) c 0) ≡ true
    at zero l = e
    at (suc c) l = t.each c (le_of_suc-le-suc l)

-- every mask has 32 bits
abbrev pub Small : List ℕ → Type 0
Small B = (c : ℕ) → get_or B c 0 < 2 ^ 32

-- nothing passes where none is found
first_never : (B : List ℕ) → Small B → (p : List ℕ → Bool) → first_choice B p ≡ none → (y : List ℕ) → Takes B y → p y ≡ true → ⊥
unfolding first_choice
first_never [] h p e [] t q = let k : first_choice [] p ≡ some [] = rw q in never e k
first_never [] h p e (v ∷ y) t q = omega (arith, t.size)
first_never (m ∷ B) h p e [] t q = omega (arith, t.size)
first_never (m ∷ B) h p e (v ∷ y) t q =
    first_never B (λ c. h (suc c)) (λ x. p (v ∷ x))
    (lead_none v _ (sym (step_yes m B p v (takes_head t)) ∙ first_of_none 32 (step m B p) e v (bit_below 32 m v (h 0) (takes_head t))))
    y (takes_tail t) q

lower_cons : (v : ℕ) {x y : List ℕ} → Lower x y → Lower (v ∷ x) (v ∷ y)
lower_cons v {x} {y} h = record { column = suc h.column; same = at; less = h.less }
  where
    at : (d : ℕ) → d < suc h.column → get_or (v ∷ x) d 0 ≡ get_or (v ∷ y) d 0
    at zero l = refl
    at (suc d) l = h.same d (le_of_suc-le-suc l)

first_nil : (p : List ℕ → Bool) → p [] ≡ true → First [] p []
first_nil p q = record { takes = takes_nil; passes = q; least = at }
  where
    at : (y : List ℕ) → Takes [] y → p y ≡ true → ([] ≡ y) ⊎ Lower [] y
    at [] t r = inl refl
    at (v ∷ y) t r = absurd (omega (arith, t.size))

-- v is the first value of column 0 with a choice for the rest, and x is the first of those
first_cons : (m : ℕ) (B : List ℕ) → Small (m ∷ B) → (p : List ℕ → Bool) (v : ℕ) (x : List ℕ)
    → bit v m ≡ true → First B (λ x. p (v ∷ x)) x → ((u : ℕ) → u < v → step m B p u ≡ none) → First (m ∷ B) p (v ∷ x)
unfolding first_choice
first_cons m B h p v x e f before = record { takes = takes_cons e f.takes; passes = f.passes; least = at }
  where
    same : (u : ℕ) (y : List ℕ) → v ≡ u → (x ≡ y) ⊎ Lower x y → (v ∷ x ≡ u ∷ y) ⊎ Lower (v ∷ x) (u ∷ y)
    same u y q (inl a) = inl cc
    same u y q (inr a) = inr (rw (← q) (lower_cons v a))

    go : (u : ℕ) (y : List ℕ) → Takes (m ∷ B) (u ∷ y) → p (u ∷ y) ≡ true → (u < v) ⊎ (v ≤ u) → (v < u) ⊎ (u ≤ v)
        → (v ∷ x ≡ u ∷ y) ⊎ Lower (v ∷ x) (u ∷ y)
    go u y t r (inl a) b =
        absurd
        (first_never B (λ c. h (suc c)) (λ x. p (u ∷ x)) (lead_none u _ (sym (step_yes m B p u (takes_head t)) ∙ before u a)) y (takes_tail t) r)
    go u y t r (inr a) (inl b) = inr (record { column = 0; same = λ d l. absurd (not-suc-le-zero l); less = b })
    go u y t r (inr a) (inr b) =
        let q : v ≡ u = omega arith in
        same u y q (f.least y (takes_tail t) (ap (λ (w : ℕ). p (w ∷ y)) q ∙ r))

    at : (y : List ℕ) → Takes (m ∷ B) y → p y ≡ true → (v ∷ x ≡ y) ⊎ Lower (v ∷ x) y
    at [] t r = absurd (omega (arith, t.size))
    at (u ∷ y) t r = go u y t r (below u v) (below v u)

first_found : (B : List ℕ) → Small B → (p : List ℕ → Bool) (x : List ℕ) → first_choice B p ≡ some x → First B p x
unfolding first_choice
first_found [] h p x e = go (either (p []))
  where
    go : (p [] ≡ true) ⊎ (p [] ≡ false) → First [] p x
    go (inr q) = let k : first_choice [] p ≡ none = rw q in absurd (never k e)
    go (inl q) = let k : first_choice [] p ≡ some [] = rw q in let z : [] ≡ x = cc in subst (First [] p) z (first_nil p q)
first_found (m ∷ B) h p x e = go (first_of_some 32 (step m B p) x e) (λ q y r. first_found B (λ c. h (suc c)) q y r)
  where
    go : FirstOf 32 (step m B p) x → ((q : List ℕ → Bool) (y : List ℕ) → first_choice B q ≡ some y → First B q y) → First (m ∷ B) p x
    go f ih = bits (either (bit f.value m))
      where
        bits : (bit f.value m ≡ true) ⊎ (bit f.value m ≡ false) → First (m ∷ B) p x
        bits (inr q) = absurd (never (step_no m B p f.value q) f.found)
        bits (inl q) =
            let r = lead_some f.value _ x (sym (step_yes m B p f.value q) ∙ f.found) in
            subst⁻¹ (First (m ∷ B) p) r.2 (first_cons m B h p f.value r.0 q (ih _ r.0 r.1) f.before)

-- two lists of one length are equal, or one of them is lower, and not both
lower_not : (x y : List ℕ) → Lower x y → Lower y x → ⊥
lower_not x y a b = go (below a.column b.column) (below b.column a.column)
  where
    go : (a.column < b.column) ⊎ (b.column ≤ a.column) → (b.column < a.column) ⊎ (a.column ≤ b.column) → ⊥
    go (inl p) q = omega (arith, a.less, b.same a.column p)
    go (inr p) (inl q) = omega (arith, b.less, a.same b.column q)
    go (inr p) (inr q) =
        let e : a.column ≡ b.column = omega arith in
        let l : get_or x b.column 0 < get_or y b.column 0 = rw e at a.less in
        omega (arith, b.less)

-- each is the other or lower: they are one
pub lower_same : {x y : List ℕ} → (x ≡ y) ⊎ Lower x y → (y ≡ x) ⊎ Lower y x → x ≡ y
lower_same (inl e) k = e
lower_same (inr a) (inl e) = sym e
lower_same {x} {y} (inr a) (inr k) = absurd (lower_not x y a k)

-- there is one first choice
pub first_unique : (B : List ℕ) (p : List ℕ → Bool) (x y : List ℕ) → First B p x → First B p y → x ≡ y
first_unique B p x y f g = lower_same (f.least y g.takes g.passes) (g.least x f.takes f.passes)

module _ (B : List ℕ) (h : Small B) (p : List ℕ → Bool) where
  -- found: the first choice that passes
  pub first_some_iff : (x : List ℕ) → (first_choice B p ≡ some x) ↔ First B p x
  first_some_iff x = (first_found B h p x, from (opt (first_choice B p)))
    where
      from : (first_choice B p ≡ none) ⊎ ((y : List ℕ) × (first_choice B p ≡ some y)) → First B p x → first_choice B p ≡ some x
      from (inl e) f = absurd (first_never B h p e x f.takes f.passes)
      from (inr q) f = q.1 ∙ ap {B = Option (List ℕ)} some (first_unique B p q.0 x (first_found B h p q.0 q.1) f)

  -- none exactly when there is none
  pub first_none_iff : (first_choice B p ≡ none) ↔ ((x : List ℕ) → Takes B x → p x ≡ true → ⊥)
  first_none_iff = (first_never B h p, from (opt (first_choice B p)))
    where
      from : (first_choice B p ≡ none) ⊎ ((y : List ℕ) × (first_choice B p ≡ some y)) → ((x : List ℕ) → Takes B x → p x ≡ true → ⊥) → first_choice B p ≡ none
      from (inl e) n = e
      from (inr q) n = let f = first_found B h p q.0 q.1 in absurd (n q.0 f.takes f.passes)

-- ---- some choice passes
abbrev also : ℕ → List ℕ → (List ℕ → Bool) → ℕ → Bool
also m B p v = elim (bit v m) [ true ↦ any_choice B (λ x. p (v ∷ x)) | false ↦ false ]

also_e : (m : ℕ) (B : List ℕ) (p : List ℕ → Bool) (v : ℕ) → also m B p v ≡ true → (bit v m ≡ true) × (any_choice B (λ x. p (v ∷ x)) ≡ true)
also_e m B p v e = go (either (bit v m))
  where
    go : (bit v m ≡ true) ⊎ (bit v m ≡ false) → (bit v m ≡ true) × (any_choice B (λ x. p (v ∷ x)) ≡ true)
    go (inl q) = (q, rw (q, also) at e)
    go (inr q) = let k : also m B p v ≡ false = rw (q, also) in absurd (false≢true (sym k ∙ e))

also_i : (m : ℕ) (B : List ℕ) (p : List ℕ → Bool) (v : ℕ) → bit v m ≡ true → any_choice B (λ x. p (v ∷ x)) ≡ true → also m B p v ≡ true
also_i m B p v q e = rw (q, also) e

pub any_choice_e : (B : List ℕ) (p : List ℕ → Bool) → any_choice B p ≡ true → (x : List ℕ) × Takes B x × (p x ≡ true)
unfolding any_choice
any_choice_e [] p e = ([], takes_nil, e)
any_choice_e (m ∷ B) p e =
    let r = any_below_e 32 (also m B p) e in
    let q = also_e m B p r.0 r.2 in
    let t = any_choice_e B (λ x. p (r.0 ∷ x)) q.1 in
    (r.0 ∷ t.0, takes_cons q.0 t.1, t.2)

pub any_choice_i : (B : List ℕ) → Small B → (p : List ℕ → Bool) (x : List ℕ) → Takes B x → p x ≡ true → any_choice B p ≡ true
unfolding any_choice
any_choice_i [] h p [] t e = e
any_choice_i [] h p (v ∷ x) t e = absurd (omega (arith, t.size))
any_choice_i (m ∷ B) h p [] t e = absurd (omega (arith, t.size))
any_choice_i (m ∷ B) h p (v ∷ x) t e =
    any_below_i 32 (also m B p) v (bit_below 32 m v (h 0) (takes_head t))
    (also_i m B p v (takes_head t) (any_choice_i B (λ c. h (suc c)) (λ y. p (v ∷ y)) x (takes_tail t) e))

-- a weaker test, and one that agrees on every choice
any_choice_weaker : (B : List ℕ) (p q : List ℕ → Bool) → ((x : List ℕ) → Takes B x → p x ≡ true → q x ≡ true) → any_choice B p ≡ true → any_choice B q ≡ true
unfolding any_choice
any_choice_weaker [] p q h e = h [] takes_nil e
any_choice_weaker (m ∷ B) p q h e =
    let r = any_below_e 32 (also m B p) e in
    let k = also_e m B p r.0 r.2 in
    any_below_i 32 (also m B q) r.0 r.1
    (also_i m B q r.0 k.0 (any_choice_weaker B (λ x. p (r.0 ∷ x)) (λ x. q (r.0 ∷ x)) (λ x t. h (r.0 ∷ x) (takes_cons k.0 t)) k.1))

pub any_choice_same : (B : List ℕ) (p q : List ℕ → Bool) → ((x : List ℕ) → Takes B x → p x ≡ q x) → any_choice B p ≡ any_choice B q
any_choice_same B p q h =
    same_test _ _ (any_choice_weaker B p q (λ x t e. sym (h x t) ∙ e)) (any_choice_weaker B q p (λ x t e. h x t ∙ e))

-- every choice passes
pub every_choice_iff : (B : List ℕ) → Small B → (p : List ℕ → Bool) → (every_choice B p ≡ true) ↔ ((x : List ℕ) → Takes B x → p x ≡ true)
every_choice_iff B h p = (to, from)
  where
    to : every_choice B p ≡ true → (x : List ℕ) → Takes B x → p x ≡ true
    to e x t = go (either (p x))
      where
        go : (p x ≡ true) ⊎ (p x ≡ false) → p x ≡ true
        go (inl q) = q
        go (inr q) = absurd (false≢true (sym (not-true _ e) ∙ any_choice_i B h (λ x. not (p x)) x t (ap not q)))

    from : ((x : List ℕ) → Takes B x → p x ≡ true) → every_choice B p ≡ true
    from k = go (either (any_choice B (λ x. not (p x))))
      where
        go : (any_choice B (λ x. not (p x)) ≡ true) ⊎ (any_choice B (λ x. not (p x)) ≡ false) → every_choice B p ≡ true
        go (inl e) = let r = any_choice_e B (λ x. not (p x)) e in absurd (false≢true (sym (not-true _ r.2) ∙ k r.0 r.1))
        go (inr e) = ap not e

pub every_choice_same : (B : List ℕ) (p q : List ℕ → Bool) → ((x : List ℕ) → Takes B x → p x ≡ q x) → every_choice B p ≡ every_choice B q
every_choice_same B p q h = ap not (any_choice_same B (λ x. not (p x)) (λ x. not (q x)) (λ x t. ap not (h x t)))

-- more values, more choices
pub any_choice_mono : (B A : List ℕ) → length B ≡ length A → Within B A → (p : List ℕ → Bool) → any_choice B p ≡ true → any_choice A p ≡ true
unfolding any_choice has
any_choice_mono [] [] l w p e = e
any_choice_mono [] (n ∷ A) l w p e = absurd (omega arith)
any_choice_mono (m ∷ B) [] l w p e = absurd (omega arith)
any_choice_mono (m ∷ B) (n ∷ A) l w p e =
    let r = any_below_e 32 (also m B p) e in
    let q = also_e m B p r.0 r.2 in
    any_below_i 32 (also n A p) r.0 r.1
    (also_i n A p r.0 (w.at 0 r.0 q.0) (any_choice_mono B A (omega arith) (record { at = λ c v i. w.at (suc c) v i }) (λ x. p (r.0 ∷ x)) q.1))

-- ---- the entries of a list at some places
pub get_or-pick : (x cs : List ℕ) (i : ℕ) → i < length cs → get_or (pick x cs) i 0 ≡ get_or x (get_or cs i 0) 0
get_or-pick x [] i l = absurd (not-suc-le-zero l)
get_or-pick x (c ∷ cs) zero l = refl
get_or-pick x (c ∷ cs) (suc i) l = get_or-pick x cs i (le_of_suc-le-suc l)

pub pick_same : (B A cs : List ℕ) → ((i : ℕ) → i < length cs → get_or B (get_or cs i 0) 0 ≡ get_or A (get_or cs i 0) 0) → pick B cs ≡ pick A cs
pick_same B A [] h = refl
pick_same B A (c ∷ cs) h =
    ap₂ (λ (x : ℕ) (l : List ℕ). x ∷ l) (h 0 (zero-lt-suc (length cs))) (pick_same B A cs (λ i l. h (suc i) (omega arith)))

pub length-pick : (x cs : List ℕ) → length (pick x cs) ≡ length cs
length-pick x cs = length-map cs (λ c. get_or x c 0)

pub pick_e : (B cs : List ℕ) (i v : ℕ) → has (pick B cs) i v ≡ true → (i < length cs) × (has B (get_or cs i 0) v ≡ true)
unfolding has
pick_e B cs i v e = go (below i (length cs))
  where
    go : (i < length cs) ⊎ (length cs ≤ i) → (i < length cs) × (bit v (get_or B (get_or cs i 0) 0) ≡ true)
    go (inl l) = (l, ap (bit v) (sym (get_or-pick B cs i l)) ∙ e)
    go (inr l) = absurd (false≢true (sym (bit_of_zero v) ∙ ap (bit v) (sym (get_or-eq_default (pick B cs) 0 (omega (arith, length-pick B cs)))) ∙ e))

pub pick_i : (B cs : List ℕ) (i v : ℕ) → i < length cs → has B (get_or cs i 0) v ≡ true → has (pick B cs) i v ≡ true
unfolding has
pick_i B cs i v l e = ap (bit v) (get_or-pick B cs i l) ∙ e

pub pick_within : (B A cs : List ℕ) → Within B A → Within (pick B cs) (pick A cs)
pick_within B A cs w =
    record { at = λ i v e. let r = pick_e B cs i v e in pick_i A cs i v r.0 (w.at (get_or cs i 0) v r.1) }

pub pick_small : (B cs : List ℕ) → Small B → Small (pick B cs)
pick_small B [] h i = omega arith
pick_small B (c ∷ cs) h zero = h c
pick_small B (c ∷ cs) h (suc i) = pick_small B cs h i

pub takes_mono : (B A x : List ℕ) → length B ≡ length A → Within B A → Takes B x → Takes A x
takes_mono B A x e w t = record { size = t.size ∙ e; each = λ c l. w.at c (get_or x c 0) (t.each c (rw e l)) }
