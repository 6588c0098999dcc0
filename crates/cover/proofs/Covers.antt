-- Laws of the test: a mask tried value by value, what a table allows, and the choices that the rows of a sheet match. Assumes nothing.
use mathlib.Core.Path.{◌∙◌, ◌≡◌, ap, refl, sym}
use mathlib.Core.Bool.{Bool, ◌||◌, false, false≢true, not, true, true≢false}
use mathlib.Core.Logic.{◌⊎◌, inl, inr}
use mathlib.Core.List.{List}
use Prim.Native.Nat.{◌*◌, ◌+◌, ◌-◌, ◌<◌, ◌^◌, ◌≤◌, ℕ}
use native.Mathlib.Nat.{lt_of_le_of_lt}
use native.Mathlib.Omega.{arith}
use lib.Bits.{and_le_l, bit_and, or_lt}
use lib.Dec.{ltb}
use lib.ListN.{get_or, replicate}
use borrow.Author.Tests.{eq-eqb, lt-ltb, ltb-true, not-true}
use Rattle.model.specs.Books.{matches}
use Rattle.model.specs.Masks.{Cleared, bit}
use Rattle.model.proofs.Masks.{bit-and, bit_below, bit_of_zero, bit-or, ones32, some_bit}
use Rattle.model.proofs.Tests.{and_i, and_l, and_r, or_e, or_l, or_r, positive, zeros_at}
use Rattle.cells.specs.Cells.{SmallSets, four_of}
use Rattle.counters.proofs.Ones.{complement}
use Rattle.cells.proofs.Walks.{Part, four_all, part_cleared, split}
use Rattle.words.specs.Sheets.{AtSheet, SheetWords, is_set, value_at}
use Rattle.words.proofs.Gathers.{nothing_outside, set_cell}
use Rattle.cover.specs.Covers.{AllMatched, ChosenFrom, IsTable, MatchedBy, TableOf, TellsAllowed, TellsMatched, allowed_with, entry_at, set_with, slot}
use Rattle.cover.proofs.Tables.{match_slot, slot_match, slot_most}

-- ---- a mask, value by value
-- of the values of `all` those that are no longer left have passed
pub record Tried (Passes : ℕ → Type 0) (all left : ℕ) : Type 0 where
  pub part : Part left all
  pub each : (v : ℕ) → bit v all ≡ true → bit v left ≡ false → Passes v

module _ {Passes : ℕ → Type 0} {all : ℕ} where
  pub tried_turn : {left rest t : ℕ} → Tried Passes all left → Cleared left rest t → Passes t → Tried Passes all rest
  tried_turn {left} {rest} {t} h c p = record {
    part = part_cleared c h.part;
    each = λ v q e. split v t (λ z. rw z p) (λ n. h.each v q (sym (c.rest v n) ∙ e));
  }

  pub tried_all : {left : ℕ} → left ≡ 0 → Tried Passes all left → (v : ℕ) → bit v all ≡ true → Passes v
  tried_all e h v q = h.each v q (ap (bit v) e ∙ bit_of_zero v)

-- ---- what a table allows
-- x has a value that is not in y, or none, as the code tests it
pub some_outside : (x y : ℕ) → x < 2 ^ 32 → y < 2 ^ 32 → (bit_and x (ones32 - y) ≡ 0 → ⊥) → (a : ℕ) × (bit a x ≡ true) × (bit a y ≡ false)
some_outside x y lx ly n =
    let r = some_bit 32 (bit_and x (ones32 - y)) (lt_of_le_of_lt (and_le_l x (ones32 - y)) lx) (positive _ n) in
    let b = sym (bit-and r.0 x (ones32 - y)) ∙ r.2 in
    (r.0, and_l (bit r.0 x) _ b, not-true _ (sym (complement 32 y r.0 ly r.1) ∙ and_r (bit r.0 x) _ b))

pub none_outside : (x y : ℕ) → x < 2 ^ 32 → y < 2 ^ 32 → bit_and x (ones32 - y) ≡ 0 → (a : ℕ) → bit a x ≡ true → bit a y ≡ true
none_outside x y lx ly e = nothing_outside x y lx ly (ap not (eq-eqb (bit_and x (ones32 - y)) 0 e))

pub allowed_small : (T : List ℕ) (c e : ℕ) → IsTable T → allowed_with T c e < 2 ^ 32
unfolding allowed_with
allowed_small T c e h =
    or_lt 32 _ _ (or_lt 32 _ _ (or_lt 32 _ _ (h.fits (33 * 32 + 32)) (h.fits (33 * c + 32))) (h.fits (33 * 32 + e))) (h.fits (33 * c + e))

pub not_allowed : {T x : List ℕ} {m : ℕ} (a e c : ℕ) → bit a (get_or x 0 0) ≡ true → bit e (get_or x 1 0) ≡ true → bit c m ≡ true → bit a (allowed_with T c e) ≡ false
    → TellsAllowed T x m false
not_allowed a e c p q r n = record { yes = λ f. absurd (false≢true f); no = λ f. (a, e, c, p, q, r, n) }

pub all_allowed : {T x : List ℕ} {m : ℕ}
    → ((c : ℕ) → bit c m ≡ true → (e : ℕ) → bit e (get_or x 1 0) ≡ true → (a : ℕ) → bit a (get_or x 0 0) ≡ true → bit a (allowed_with T c e) ≡ true) → TellsAllowed T x m true
all_allowed h = record { yes = λ f a e c p q r. h c r e q a p; no = λ f. absurd (true≢false f) }

allowed_bits : (T : List ℕ) (c e a : ℕ)
    → bit a (allowed_with T c e) ≡ (((bit a (entry_at T 32 32) || bit a (entry_at T c 32)) || bit a (entry_at T 32 e)) || bit a (entry_at T c e))
unfolding allowed_with
allowed_bits T c e a =
    bit-or a _ (entry_at T c e)
    ∙ ap (λ (t : Bool). t || bit a (entry_at T c e))
    (bit-or a _ (entry_at T 32 e) ∙ ap (λ (t : Bool). t || bit a (entry_at T 32 e)) (bit-or a (entry_at T 32 32) (entry_at T c 32)))

-- an entry is allowed where its slots are those of the values, or that of 255
entry_allowed : (T : List ℕ) (i j c e a : ℕ) → (i ≡ c) ⊎ (i ≡ 32) → (j ≡ e) ⊎ (j ≡ 32) → bit a (entry_at T i j) ≡ true → bit a (allowed_with T c e) ≡ true
entry_allowed T i j c e a p q h = allowed_bits T c e a ∙ go p q
  where
    go : (i ≡ c) ⊎ (i ≡ 32) → (j ≡ e) ⊎ (j ≡ 32)
        → (((bit a (entry_at T 32 32) || bit a (entry_at T c 32)) || bit a (entry_at T 32 e)) || bit a (entry_at T c e)) ≡ true
    go (inl p) (inl q) = or_r ((bit a (entry_at T 32 32) || bit a (entry_at T c 32)) || bit a (entry_at T 32 e)) _ (rw (p, q) at h)
    go (inr p) (inl q) = or_l _ (bit a (entry_at T c e)) (or_r (bit a (entry_at T 32 32) || bit a (entry_at T c 32)) _ (rw (p, q) at h))
    go (inl p) (inr q) = or_l _ (bit a (entry_at T c e)) (or_l _ (bit a (entry_at T 32 e)) (or_r (bit a (entry_at T 32 32)) _ (rw (p, q) at h)))
    go (inr p) (inr q) = or_l _ (bit a (entry_at T c e)) (or_l _ (bit a (entry_at T 32 e)) (or_l _ (bit a (entry_at T c 32)) (rw (p, q) at h)))

-- and what is allowed stands at such slots
allowed_entry : (T : List ℕ) (c e a : ℕ) → bit a (allowed_with T c e) ≡ true
    → (i : ℕ) × (j : ℕ) × ((i ≡ c) ⊎ (i ≡ 32)) × ((j ≡ e) ⊎ (j ≡ 32)) × (bit a (entry_at T i j) ≡ true)
allowed_entry T c e a h = go (or_e _ (bit a (entry_at T c e)) (sym (allowed_bits T c e a) ∙ h))
  where
    first : ((bit a (entry_at T 32 32) ≡ true) ⊎ (bit a (entry_at T c 32) ≡ true))
        → (i : ℕ) × (j : ℕ) × ((i ≡ c) ⊎ (i ≡ 32)) × ((j ≡ e) ⊎ (j ≡ 32)) × (bit a (entry_at T i j) ≡ true)
    first (inl p) = (32, 32, inr refl, inr refl, p)
    first (inr p) = (c, 32, inl refl, inr refl, p)

    second : ((bit a (entry_at T 32 32) || bit a (entry_at T c 32)) ≡ true) ⊎ (bit a (entry_at T 32 e) ≡ true)
        → (i : ℕ) × (j : ℕ) × ((i ≡ c) ⊎ (i ≡ 32)) × ((j ≡ e) ⊎ (j ≡ 32)) × (bit a (entry_at T i j) ≡ true)
    second (inl p) = first (or_e (bit a (entry_at T 32 32)) (bit a (entry_at T c 32)) p)
    second (inr p) = (32, e, inr refl, inl refl, p)

    go : (((bit a (entry_at T 32 32) || bit a (entry_at T c 32)) || bit a (entry_at T 32 e)) ≡ true) ⊎ (bit a (entry_at T c e) ≡ true)
        → (i : ℕ) × (j : ℕ) × ((i ≡ c) ⊎ (i ≡ 32)) × ((j ≡ e) ⊎ (j ≡ 32)) × (bit a (entry_at T i j) ≡ true)
    go (inl p) = second (or_e _ (bit a (entry_at T 32 e)) p)
    go (inr p) = (c, e, inl refl, inl refl, p)

value_small : {x : List ℕ} → SmallSets x → (t : ℕ → ℕ) → ChosenFrom x t → (j : ℕ) → j < 4 → t j < 32
value_small {x} f t k j l = bit_below 32 (get_or x j 0) (t j) (f.fits j) (k.each j l)

-- ---- a table of the rows with v at place 3 allows the choices with v there that are matched
module _ {b : List ℕ} {begin s : ℕ} (a : AtSheet b begin s) {W X N : List ℕ} (h : SheetWords b s W X N) (v : ℕ) {T : List ℕ} (q : TableOf b s W v (replicate 1089 0) T) where
  pub allowed_matched : (t : ℕ → ℕ) → t 0 < 32 → t 1 < 32 → t 2 < 32 → t 3 ≡ v → bit (t 0) (allowed_with T (t 2) (t 1)) ≡ true → MatchedBy b s W t
  unfolding set_with
  allowed_matched t l0 l1 l2 e p =
      let r = allowed_entry T (t 2) (t 1) (t 0) p in from r.0 r.1 r.2 r.3 (q.sound (33 * r.0 + r.1) (t 0) l0 r.4)
    where
      slot_most_of : (i c : ℕ) → c < 32 → (i ≡ c) ⊎ (i ≡ 32) → i ≤ 32
      slot_most_of i c l (inl z) = omega arith
      slot_most_of i c l (inr z) = omega arith

      from : (i j : ℕ) → (i ≡ t 2) ⊎ (i ≡ 32) → (j ≡ t 1) ⊎ (j ≡ 32)
          → (bit (t 0) (get_or (replicate 1089 0) (33 * i + j) 0) ≡ true)
          ⊎ ((r : ℕ) × (set_with b s W v r ≡ true) × (33 * slot (value_at b s r 2) + slot (value_at b s r 1) ≡ 33 * i + j) × (matches (value_at b s r 0) (t 0) ≡ true))
          → MatchedBy b s W t
      from i j y z (inl n) = absurd (false≢true (sym (bit_of_zero (t 0)) ∙ ap (bit (t 0)) (sym (zeros_at 1089 (33 * i + j))) ∙ n))
      from i j y z (inr (r, set-r, at, m)) =
          let few = ltb-true r 512 (and_l (ltb r 512) _ set-r) in
          let k = and_r (ltb r 512) _ set-r in
          let set_is = and_l (is_set W s r) _ k in
          let i-most = slot_most_of i (t 2) l2 y in
          let j-most = slot_most_of j (t 1) l1 z in
          let two : slot (value_at b s r 2) ≡ i = omega (arith, slot_most (value_at b s r 2), slot_most (value_at b s r 1)) in
          let one : slot (value_at b s r 1) ≡ j = omega (arith, slot_most (value_at b s r 2), slot_most (value_at b s r 1)) in
          record {
            row = r;
            small = few;
            set_row = set_is;
            cells =
                four_all (λ j. matches (value_at b s r j) (t j) ≡ true) m (slot_match (set_cell a h r 1 few (omega arith) set_is) l1 (rw one z))
                (slot_match (set_cell a h r 2 few (omega arith) set_is) l2 (rw two y)) (rw e (and_r (is_set W s r) _ k));
          }

  pub matched_allowed : (t : ℕ → ℕ) → t 0 < 32 → t 3 ≡ v → MatchedBy b s W t → bit (t 0) (allowed_with T (t 2) (t 1)) ≡ true
  unfolding set_with
  matched_allowed t l e m =
      let r = m.row in
      let three : matches (value_at b s r 3) v ≡ true = rw e at (m.cells 3 (omega arith)) in
      entry_allowed T (slot (value_at b s r 2)) (slot (value_at b s r 1)) (t 2) (t 1) (t 0)
      (match_slot (set_cell a h r 2 m.small (omega arith) m.set_row) (m.cells 2 (omega arith)))
      (match_slot (set_cell a h r 1 m.small (omega arith) m.set_row) (m.cells 1 (omega arith)))
      (q.new r (t 0) l (and_i (lt-ltb r 512 m.small) (and_i m.set_row three)) (m.cells 0 (omega arith)))

  -- every choice with v at place 3, or one that is not matched
  module _ {x : List ℕ} (f : SmallSets x) where
    pub each_matched : {r : _} → TellsAllowed T x (get_or x 2 0) r → r ≡ true → (t : ℕ → ℕ) → ChosenFrom x t → t 3 ≡ v → MatchedBy b s W t
    each_matched k y t c e =
        allowed_matched t (value_small f t c 0 (omega arith)) (value_small f t c 1 (omega arith)) (value_small f t c 2 (omega arith)) e
        (k.yes y (t 0) (t 1) (t 2) (c.each 0 (omega arith)) (c.each 1 (omega arith)) (c.each 2 (omega arith)))

    pub one_missed : {r : _} → TellsAllowed T x (get_or x 2 0) r → r ≡ false → bit v (get_or x 3 0) ≡ true → TellsMatched b s W x false
    one_missed k y p = record { yes = λ z. absurd (false≢true z); no = λ z m. go m (k.no y) }
      where
        go : AllMatched b s W x
            → (a : ℕ) × (e : ℕ) × (c : ℕ) × (bit a (get_or x 0 0) ≡ true) × (bit e (get_or x 1 0) ≡ true) × (bit c (get_or x 2 0) ≡ true) × (bit a (allowed_with T c e) ≡ false) → ⊥
        go m (a, e, c, i, j, l, n) =
            let t : ℕ → ℕ = λ j. get_or (four_of a e c v) j 0 in
            let chosen : ChosenFrom x t = record { each = four_all (λ j. bit (t j) (get_or x j 0) ≡ true) i j l p } in
            true≢false (sym (matched_allowed t (value_small f t chosen 0 (omega arith)) refl (m.each t chosen)) ∙ n)

-- each value of place 3 has been tried
pub every_matched : {b : List ℕ} {s : ℕ} {W x : List ℕ} → ((v : ℕ) → bit v (get_or x 3 0) ≡ true → (t : ℕ → ℕ) → ChosenFrom x t → t 3 ≡ v → MatchedBy b s W t) → TellsMatched b s W x true
every_matched h = record { yes = λ e. record { each = λ t c. h (t 3) (c.each 3 (omega arith)) t c refl }; no = λ e. absurd (true≢false e) }
