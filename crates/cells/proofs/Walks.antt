-- Laws of a walk over the places of a word, lowest first. Assumes nothing.
use mathlib.Core.Path.{◌∙◌, ◌≡◌, ap, refl, sym}
use mathlib.Core.Bool.{Bool, ◌&&◌, ◌||◌, cond, false, false≢true, or-false, true}
use mathlib.Core.Logic.{◌⊎◌, inl, inr}
use mathlib.Core.List.{List}
use Prim.Native.Nat.{◌%◌, ◌*◌, ◌+◌, ◌/◌, ◌<◌, ◌^◌, suc, zero, ℕ}
use native.Mathlib.Nat.{mod-eq_of_lt, one-mul, zero-mul}
use native.Mathlib.Omega.{arith}
use lib.Bits.{bit_and, bit_or}
use lib.Dec.{eqb, ltb}
use lib.Pow.{pow-lt}
use mir.Val.{bool_byte}
use borrow.Author.Tests.{eqb-false, eqb-true, lt-ltb, ne_eqb}
use Rattle.model.specs.Books.{in_domain, is_any}
use Rattle.model.specs.Masks.{Cleared, bit}
use Rattle.model.proofs.Masks.{bit-and, bit_high, bit_of_zero, bit-or, bit_pow, bit_pow_other}
use Rattle.model.proofs.Tests.{and_false, and_true, either, positive}
use Rattle.cells.specs.declared.bits.Places.{Places}
use Rattle.cells.specs.Cells.{IsCell, Kept, KeptAny, KeptBy, Readable, WithAny, cell_at}

pub four_all : (P : ℕ → Type 0) → P 0 → P 1 → P 2 → P 3 → (j : ℕ) → j < 4 → P j
four_all P p q r s zero l = p
four_all P p q r s (suc zero) l = q
four_all P p q r s (suc (suc zero)) l = r
four_all P p q r s (suc (suc (suc zero))) l = s
four_all P p q r s (suc (suc (suc (suc j)))) l = absurd (omega arith)

-- every place of a is a place of b
pub record Part (a b : ℕ) : Type 0 where
  pub at : (k : ℕ) → bit k a ≡ true → bit k b ≡ true

pub whole : (a : ℕ) → Part a a
whole a = record { at = λ k e. e }

-- word has the places of x and those of y
pub record TwoParts (word x y : ℕ) : Type 0 where
  pub at : (k : ℕ) → bit k word ≡ (bit k x || bit k y)

pub parts_swap : {word x y : ℕ} → TwoParts word x y → TwoParts word y x
parts_swap {word} {x} {y} p = record { at = λ k. p.at k ∙ swap (bit k x) (bit k y) }
  where
    swap : (s t : Bool) → (s || t) ≡ (t || s)
    swap true true = refl
    swap true false = refl
    swap false true = refl
    swap false false = refl

-- by whether a place is the one that was cleared
pub split : {P : Type 0} (k t : ℕ) → (k ≡ t → P) → ((k ≡ t → ⊥) → P) → P
split {P} k t f g = go (either (eqb k t))
  where
    go : (eqb k t ≡ true) ⊎ (eqb k t ≡ false) → P
    go (inl e) = f (eqb-true k t e)
    go (inr e) = g (eqb-false k t e)

pub part_cleared : {left rest t word : ℕ} → Cleared left rest t → Part left word → Part rest word
part_cleared {left} {rest} {t} {word} c p =
    record {
      at = λ k e.
          split k t (λ q. absurd (false≢true (sym c.gone ∙ ap (λ (i : ℕ). bit i rest) (sym q) ∙ e))) (λ n. p.at k (sym (c.rest k n) ∙ e));
    }

-- what is left of the places of x, where none is taken yet, and later
pub all_left : (s t : Places) {x : ℕ} → s ≡ t → t.left ≡ x → s.left ≡ x
all_left s t e l = ap (λ (p : Places). p.left) e ∙ l

-- 1 shifted to the place v
pub shifted_one : (k v : ℕ) → v < k → (1 * 2 ^ v) % 2 ^ k ≡ 2 ^ v
shifted_one k v l = rw (one-mul, mod-eq_of_lt (pow-lt l))

pub shifted_bit : (k v : ℕ) → v < k → bit v ((1 * 2 ^ v) % 2 ^ k) ≡ true
shifted_bit k v l = rw (shifted_one k v l) (bit_pow v)

-- ---- pass 1
-- what is kept, and of what is left whatever passes p, is what passes p of the word
pub record Walked (p : ℕ → Bool) (word left keep : ℕ) : Type 0 where
  pub at : (k : ℕ) → (bit k keep || (bit k left && p k)) ≡ (bit k word && p k)

pub walked_start : (p : ℕ → Bool) (word : ℕ) → Walked p word word 0
walked_start p word = record { at = λ k. rw bit_of_zero }

pub walked_end : {p : ℕ → Bool} {word keep : ℕ} → Walked p word 0 keep → (k : ℕ) → bit k keep ≡ (bit k word && p k)
walked_end {p} {word} {keep} w k = sym (or-false (bit k keep)) ∙ (rw bit_of_zero at (w.at k))

-- a digit shifted to the place t
digit_at : (h t : ℕ) → h < 2 → t < 64 → bit t ((h * 2 ^ t) % 2 ^ 64) ≡ eqb h 1
digit_at zero t l q = rw zero-mul (bit_of_zero t)
digit_at (suc zero) t l q = rw (one-mul, mod-eq_of_lt (pow-lt q)) (bit_pow t)
digit_at (suc (suc h)) t l q = absurd (omega arith)

digit_off : (h t k : ℕ) → h < 2 → t < 64 → (k ≡ t → ⊥) → bit k ((h * 2 ^ t) % 2 ^ 64) ≡ false
digit_off zero t k l q n = rw zero-mul (bit_of_zero k)
digit_off (suc zero) t k l q n = rw (one-mul, mod-eq_of_lt (pow-lt q)) (bit_pow_other t k n)
digit_off (suc (suc h)) t k l q n = absurd (omega arith)

here_law : (a b : Bool) → ((a || b) || (false && b)) ≡ (a || (true && b))
here_law true b = refl
here_law false true = refl
here_law false false = refl

pub walked_turn : {p : ℕ → Bool} {word left keep rest h t : ℕ} → Walked p word left keep → Cleared left rest t → h < 2 → t < 64 → p t ≡ eqb h 1
    → Walked p word rest (bit_or keep ((h * 2 ^ t) % 2 ^ 64))
walked_turn {p} {word} {left} {keep} {rest} {h} {t} w c l q e =
    record {
      at = λ k.
          split k t
          (λ z. rw (z, bit-or, digit_at h t l q, c.gone, e) (here_law (bit t keep) (eqb h 1) ∙ (rw (z, c.here, e) at (w.at k))))
          (λ n. rw (bit-or, digit_off h t k l q n, c.rest k n, or-false) (w.at k));
    }

-- the same by what a test told
pub walked_told : {p : ℕ → Bool} {word left keep rest t : ℕ} → Walked p word left keep → Cleared left rest t → t < 64 → (told : Bool) → told ≡ p t
    → Walked p word rest (bit_or keep ((bool_byte told * 2 ^ t) % 2 ^ 64))
walked_told {p} {t = t} w c q told e = walked_turn w c (small told) q (sym e ∙ digit told)
  where
    small : (b : Bool) → bool_byte b < 2
    small true = omega arith
    small false = omega arith

    digit : (b : Bool) → b ≡ eqb (bool_byte b) 1
    digit true = refl
    digit false = refl

-- the test of pass 1: the cell of row k of the word is one of the places m
unfoldable pub cell_in : List ℕ → ℕ → ℕ → ℕ → ℕ → ℕ → Bool
cell_in b begin from j m k = bit (cell_at b begin (from + k) j % 64) m

pub kept_end : {b : List ℕ} {begin from j m word keep : ℕ} → Walked (cell_in b begin from j m) word 0 keep → KeptBy b begin from j m word keep
unfolding cell_in
kept_end w = record { at = walked_end w }

-- the code's numbers: x is that cell, and h says whether m has its place
pub cell_in_lem : (b : List ℕ) (begin from j m t x h : ℕ) → x ≡ cell_at b begin (from + t) j → h ≡ m / 2 ^ (x % 64) % 2 → cell_in b begin from j m t ≡ eqb h 1
unfolding cell_in bit
cell_in_lem b begin from j m t x h e f = rw (f, ← e)

-- of rows that were looked at some, and two parts of a word
pub kept_part : {b : List ℕ} {begin from j m all word a : ℕ} → Part word all → KeptBy b begin from j m all a → KeptBy b begin from j m word (bit_and a word)
kept_part {b} {begin} {from} {j} {m} {all} {word} {a} p h = record { at = λ k. bit-and k a word ∙ go k (either (bit k word)) }
  where
    go : (k : ℕ) → (bit k word ≡ true) ⊎ (bit k word ≡ false) → (bit k a && bit k word) ≡ (bit k word && bit (cell_at b begin (from + k) j % 64) m)
    go k (inl e) = rw (e, and_true (bit k a)) (h.at k ∙ (rw (p.at k e) refl))
    go k (inr e) = rw e (and_false (bit k a))

pub kept_join : {b : List ℕ} {begin from j m word x y a c : ℕ} → TwoParts word x y → KeptBy b begin from j m x a → KeptBy b begin from j m y c
    → KeptBy b begin from j m word (bit_or a c)
kept_join {b} {begin} {from} {j} {m} {word} {x} {y} {a} {c} e p q =
    record { at = λ k. rw (bit-or k a c, p.at k, q.at k, e.at k) (both (bit k x) (bit k y) (bit (cell_at b begin (from + k) j % 64) m)) }
  where
    both : (s t u : Bool) → ((s && u) || (t && u)) ≡ ((s || t) && u)
    both true true true = refl
    both true true false = refl
    both true false u = or-false u
    both false t u = refl

-- ---- the places of a domain and of 255
any_place : (x : ℕ) → is_any x ≡ true → x % 64 ≡ 63
any_place x e = let z = eqb-true x 255 e in omega arith

plain_any : (x : ℕ) → x < 32 → is_any x ≡ false
plain_any x l = ne_eqb x 255 (λ e. omega arith)

-- no value
pub with_none : {d : ℕ} → d ≡ 0 → WithAny d 0
unfolding in_domain
with_none {d} z = record { at = at }
  where
    at : (x : ℕ) → IsCell x → bit (x % 64) 0 ≡ cond (is_any x) (ltb 0 d) (bit x d)
    at x (inl a) = rw (a, z) (bit_of_zero (x % 64))
    at x (inr l) = rw (plain_any x l, z) (bit_of_zero (x % 64) ∙ sym (bit_of_zero x))

-- the place of 255 beside those of the values
pub with_some : {d : ℕ} → d < 2 ^ 32 → (d ≡ 0 → ⊥) → WithAny d (bit_or d (2 ^ 63))
unfolding in_domain
with_some {d} f n = record { at = λ x c. bit-or (x % 64) d (2 ^ 63) ∙ at x c }
  where
    at : (x : ℕ) → IsCell x → (bit (x % 64) d || bit (x % 64) (2 ^ 63)) ≡ cond (is_any x) (ltb 0 d) (bit x d)
    at x (inl a) =
        rw (a, any_place x a, bit_high 32 d 63 f (omega arith), bit_pow 63, lt-ltb 0 d (positive d n)) refl
    at x (inr l) =
        let e : x % 64 ≡ x = omega arith in
        rw (plain_any x l, e, bit_pow_other 63 x (λ z. omega arith)) (or-false (bit x d))

-- of the rows of a word whose cells are places of m, those with a cell in the domain
module _ {b : List ℕ} {begin from j word r : ℕ} (h : Readable b begin from word) (l : j < 4) where
  by_set : (m : ℕ) (test : ℕ → Bool) → ((x : ℕ) → IsCell x → bit (x % 64) m ≡ test x) → KeptBy b begin from j m word r
      → (k : ℕ) → bit k r ≡ (bit k word && test (cell_at b begin (from + k) j))
  by_set m test e p k = p.at k ∙ go (either (bit k word))
    where
      go : (bit k word ≡ true) ⊎ (bit k word ≡ false)
          → (bit k word && bit (cell_at b begin (from + k) j % 64) m) ≡ (bit k word && test (cell_at b begin (from + k) j))
      go (inl t) = ap (λ (y : Bool). bit k word && y) (e _ (h.cell k j t l))
      go (inr t) = rw t refl

  pub kept_with : {d m : ℕ} → WithAny d m → KeptBy b begin from j m word r → Kept b begin from j d word r
  kept_with {d} {m} a p = record { at = by_set m (λ x. in_domain x d) a.at p }

  pub kept_any : KeptBy b begin from j (2 ^ 63) word r → KeptAny b begin from j word r
  kept_any p = record { at = by_set (2 ^ 63) is_any any p }
    where
      any : (x : ℕ) → IsCell x → bit (x % 64) (2 ^ 63) ≡ is_any x
      any x (inl a) = rw (any_place x a, a) (bit_pow 63)
      any x (inr q) = rw (plain_any x q) (bit_pow_other 63 (x % 64) (λ z. omega arith))
