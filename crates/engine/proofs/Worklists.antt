-- Laws of the worklist. Assumes nothing.
-- ---- the head of an accepted book
use mathlib.Core.Path.{◌∙◌, ◌≡◌, ap, refl, sym}
use mathlib.Core.Bool.{Bool, ◌&&◌, ◌||◌, cond, false, false≢true, not, or-false, true}
use mathlib.Core.Logic.{◌⊎◌, inl, inr}
use mathlib.Core.List.{List}
use Prim.Native.Nat.{◌%◌, ◌*◌, ◌+◌, ◌-◌, ◌<◌, ◌^◌, ◌≤◌, ℕ}
use native.Mathlib.Nat.{lt_of_le_of_lt}
use native.Mathlib.Omega.{arith}
use lib.Arith.{lt_of_le-ne}
use lib.Bits.{and_le_l, and_zero_l, and_zero_r, bit_and, bit_or, or_lt, or_zero_r}
use lib.Dec.{eqb, ltb}
use lib.ListN.{get_or, length, length-set, set}
use lib.Pow.{pow-lt}
use lib.Seq.{get_or-set_other, get_or-set_same}
use borrow.Author.Tests.{eqb-false, eqb-true, le-ltb, lt-ltb, not-false}
use Rattle.model.specs.Masks.{bit}
use Rattle.model.proofs.Masks.{bit-and, bit_of_zero, bit-or, bit_pow, bit_pow_other, mask_ext, ones32}
use Rattle.model.proofs.Tests.{and_false, and_i, and_true, below, either}
use Rattle.heads.specs.Heads.{column_of, columns_of, rows_of, sheets_of, values_of, width_of}
use Rattle.rows.specs.Rows.{blocks_needed, blocks_of}
use Rattle.book.specs.Verdicts.{Accepted}
use Rattle.book.proofs.Decoding.{accepted_right}
use Rattle.rows.proofs.Rows.{first_block_later, right_length}
use Rattle.heads.proofs.Heads.{columns_range, rows_most, sheets_most, values_range}
use Rattle.words.specs.Sheets.{first_byte}
use Rattle.counters.proofs.Ones.{complement}
use Rattle.cells.proofs.Walks.{shifted_one}
use Rattle.engine.specs.Layouts.{LayoutOf}
use Rattle.engine.specs.Worklists.{Added, WaitingFor, Woken, touches, waits_bit}

module _ (b : List ℕ) (acc : Accepted b) where
  pub head_length : 512 ≤ length b
  head_length = omega (arith, right_length b (accepted_right b acc).length_right)

  pub eight_sheets : (s : ℕ) → s < sheets_of b → s < 8
  eight_sheets s l = omega (arith, sheets_most b (accepted_right b acc).head)

  pub sixteen_columns : (c : ℕ) → c < columns_of b → c < 16
  sixteen_columns c l = omega (arith, (columns_range b (accepted_right b acc).head).1)

  pub values_few : (c : ℕ) → c < columns_of b → values_of b c ≤ 32
  values_few c l = (values_range b (accepted_right b acc).head c l).1

  pub rows_few : (s : ℕ) → s < sheets_of b → rows_of b s ≤ 508
  rows_few s l = rows_most b (accepted_right b acc).head s l

  -- the rows of a sheet end within the file
  pub rows_there : (s : ℕ) → s < sheets_of b → first_byte b s + 512 * blocks_of b s ≤ length b
  unfolding blocks_needed
  rows_there s l =
      let h = accepted_right b acc in
      omega (arith, right_length b h.length_right, h.blocks, first_block_later b s (sheets_of b) l)

  pub rows_end : (s : ℕ) → s < sheets_of b → first_byte b s + 512 * blocks_of b s ≤ 16896
  rows_end s l = omega (arith, right_length b (accepted_right b acc).length_right, rows_there s l)

-- how many columns, or sheets, the head h of the book counts: the end of a loop over them
module _ {b h : List ℕ} {n : ℕ} (acc : Accepted b) (e : h ≡ b) where
  pub columns_counted : n ≡ columns_of h → (n ≡ columns_of b) × (n ≤ 16)
  columns_counted f = (f ∙ ap columns_of e, omega (arith, f, ap columns_of e, (columns_range b (accepted_right b acc).head).1))

  pub sheets_counted : n ≡ sheets_of h → (n ≡ sheets_of b) × (n ≤ 8)
  sheets_counted f = (f ∙ ap sheets_of e, omega (arith, f, ap sheets_of e, sheets_most b (accepted_right b acc).head))

-- another number than n is below n + 1 exactly when it is below n
ltb_next : (f n : ℕ) → (f ≡ n → ⊥) → ltb f n ≡ ltb f (n + 1)
ltb_next f n m = go (below f n)
  where
    go : (f < n) ⊎ (n ≤ f) → ltb f n ≡ ltb f (n + 1)
    go (inl x) = lt-ltb f n x ∙ sym (lt-ltb f (n + 1) (omega arith))
    go (inr x) =
        let y : n + 1 ≤ f = let z : n < f = lt_of_le-ne x (λ q. m (sym q)) in omega arith in
        le-ltb f n x ∙ sym (le-ltb f (n + 1) y)

-- ---- which sheets wait
pub waiting_none : (M : List ℕ) (lost : ℕ) → WaitingFor M lost 0 0
waiting_none M lost = record { at = λ f. bit_of_zero f ∙ sym (none f); small = omega arith }
  where
    none : (f : ℕ) → (ltb f 0 && touches (get_or M f 0) lost) ≡ false
    none f = rw (le-ltb f 0 (omega arith))

pub waiting_more : {M : List ℕ} {lost n r w : ℕ} → WaitingFor M lost n r → n < 8 → w ≡ waits_bit (get_or M n 0) lost n → w < 256
    → WaitingFor M lost (n + 1) (bit_or r w)
unfolding waits_bit
waiting_more {M} {lost} {n} {r} {w} h l e small = record { at = λ f. bit-or f r w ∙ go f (either (eqb f n)) (either (touches (get_or M n 0) lost)); small = or_lt 8 r w h.small small }
  where
    bit_w : (f : ℕ) → (eqb f n ≡ true) ⊎ (eqb f n ≡ false) → (touches (get_or M n 0) lost ≡ true) ⊎ (touches (get_or M n 0) lost ≡ false)
        → bit f w ≡ (eqb f n && touches (get_or M n 0) lost)
    bit_w f p (inr q) = rw (e, q, and_false (eqb f n)) (bit_of_zero f)
    bit_w f (inl p) (inl q) = let z = eqb-true f n p in rw (e, q, p, z) (bit_pow n)
    bit_w f (inr p) (inl q) = rw (e, q, p) (bit_pow_other n f (eqb-false f n p))

    go : (f : ℕ) → (eqb f n ≡ true) ⊎ (eqb f n ≡ false) → (touches (get_or M n 0) lost ≡ true) ⊎ (touches (get_or M n 0) lost ≡ false)
        → (bit f r || bit f w) ≡ (ltb f (n + 1) && touches (get_or M f 0) lost)
    go f (inl p) q =
        let z = eqb-true f n p in
        rw (h.at f, bit_w f (inl p) q, p, z, le-ltb n n (omega arith), lt-ltb n (n + 1) (omega arith))
    go f (inr p) q = rw (h.at f, bit_w f (inr p) q, p, or-false (ltb f n && touches (get_or M f 0) lost)) (ap (λ (t : Bool). t && touches (get_or M f 0) lost) (ltb_next f n (eqb-false f n p)))

-- ---- columns that are added
pub added_none : {G : List ℕ} (lost : ℕ) → length G ≡ 8 → Added G lost 0 G
added_none {G} lost e = record { size = e; at = λ f l. rw (le-ltb f 0 (omega arith)) refl }

pub added_more : {G G' : List ℕ} {lost n : ℕ} → Added G lost n G' → n < 8 → Added G lost (n + 1) (set G' n (bit_or (get_or G' n 0) lost))
added_more {G} {G'} {lost} {n} h l =
    record { size = length-set G' n _ ∙ h.size; at = λ f k. go f k (either (eqb f n)) }
  where
    go : (f : ℕ) → f < 8 → (eqb f n ≡ true) ⊎ (eqb f n ≡ false)
        → get_or (set G' n (bit_or (get_or G' n 0) lost)) f 0 ≡ cond (ltb f (n + 1)) (bit_or (get_or G f 0) lost) (get_or G f 0)
    go f k (inl p) =
        let z = eqb-true f n p in
        let y : get_or G' n 0 ≡ get_or G n 0 = rw (le-ltb n n (omega arith)) at (h.at n l) in
        rw (z, get_or-set_same G' n (bit_or (get_or G' n 0) lost) 0 (omega (arith, h.size)), lt-ltb n (n + 1) (omega arith), y) refl
    go f k (inr p) =
        get_or-set_other G' n f (bit_or (get_or G' n 0) lost) 0 (eqb-false f n p)
        ∙ h.at f k
        ∙ ap (λ (t : Bool). cond t (bit_or (get_or G f 0) lost) (get_or G f 0)) (ltb_next f n (eqb-false f n p))

-- ---- a sheet that struck columns
module _ {M G : List ℕ} {s waiting : ℕ} (small : waiting < 256) (size : length G ≡ 8) (clear : get_or G s 0 ≡ 0) where
  pub woken_none : Woken M s 0 G waiting G waiting
  unfolding touches
  woken_none = record {
    small = small;
    size = size;
    waits = λ f l. sym (rw (and_zero_r (get_or M f 0), and_false (not (eqb f s)), or-false (bit f waiting)) refl);
    changed = λ f l. go f (either (eqb f s));
  }
    where
      go : (f : ℕ) → (eqb f s ≡ true) ⊎ (eqb f s ≡ false) → get_or G f 0 ≡ cond (eqb f s) 0 (bit_or (get_or G f 0) 0)
      go f (inl e) = let z = eqb-true f s e in rw (e, z) clear
      go f (inr e) = rw (e, or_zero_r (get_or G f 0)) refl

  pub woken_some : {lost w one : ℕ} {G' : List ℕ} → s < 8 → Added G lost 8 G' → WaitingFor M lost 8 w → one ≡ (1 * 2 ^ s) % 2 ^ 32
      → Woken M s lost G waiting (set G' s 0) (bit_or waiting (bit_and w (ones32 - one)))
  woken_some {lost} {w} {one} {G'} l a h e = record {
    small = or_lt 8 waiting (bit_and w (ones32 - one)) small (lt_of_le_of_lt (and_le_l w (ones32 - one)) h.small);
    size = length-set G' s 0 ∙ a.size;
    waits = λ f k. bit-or f waiting _ ∙ ap (λ (t : Bool). bit f waiting || t) (bit-and f w _ ∙ waits f k (either (eqb f s)));
    changed = λ f k. changed f k (either (eqb f s));
  }
    where
      is_one : one ≡ 2 ^ s
      is_one = e ∙ shifted_one 32 s (omega arith)

      not_s : (f : ℕ) → f < 8 → bit f (ones32 - one) ≡ not (bit f (2 ^ s))
      not_s f k = rw is_one (complement 32 (2 ^ s) f (pow-lt (let k : s < 32 = omega arith in k)) (omega arith))

      waits : (f : ℕ) → f < 8 → (eqb f s ≡ true) ⊎ (eqb f s ≡ false)
          → (bit f w && bit f (ones32 - one)) ≡ (not (eqb f s) && touches (get_or M f 0) lost)
      waits f k (inl p) =
          let z = eqb-true f s p in rw (not_s f k, p, z, bit_pow s) (and_false (bit s w))
      waits f k (inr p) =
          rw (not_s f k, p, bit_pow_other s f (eqb-false f s p), h.at f, lt-ltb f 8 k) (and_true (touches (get_or M f 0) lost))

      changed : (f : ℕ) → f < 8 → (eqb f s ≡ true) ⊎ (eqb f s ≡ false) → get_or (set G' s 0) f 0 ≡ cond (eqb f s) 0 (bit_or (get_or G f 0) lost)
      changed f k (inl p) = let z = eqb-true f s p in rw (p, z) (get_or-set_same G' s 0 0 (omega (arith, a.size)))
      changed f k (inr p) = rw p (get_or-set_other G' s f 0 0 (eqb-false f s p) ∙ (rw (lt-ltb f 8 k) at (a.at f k)))

-- nothing struck, nothing woken
pub woken_same : {M G G' : List ℕ} {s lost waiting waiting' : ℕ} → Woken M s lost G waiting G' waiting' → waiting < 256 → lost ≡ 0 → waiting' ≡ waiting
unfolding touches
woken_same {M} {G} {G'} {s} {lost} {waiting} {waiting'} h l e =
    mask_ext 8 waiting' waiting h.small l
    (λ f k.
    h.waits f k
    ∙ (rw (e, and_zero_r (get_or M f 0), and_false (not (eqb f s)), or-false (bit f waiting)) refl))

-- ---- sheets that a set of columns touches
-- a sheet with a column in `lost` is one of the book's

pub touched_sheet : {b begins M S : List ℕ} → LayoutOf b begins M S → (s lost : ℕ) → touches (get_or M s 0) lost ≡ true → s < sheets_of b
unfolding touches
touched_sheet {b} {begins} {M} lay s lost f = go (below s (sheets_of b))
  where
    go : (s < sheets_of b) ⊎ (sheets_of b ≤ s) → s < sheets_of b
    go (inl l) = l
    go (inr l) =
        absurd (false≢true (sym (ap (λ (x : ℕ). touches x lost) (lay.past s l) ∙ ap (λ (x : ℕ). not (eqb x 0)) (and_zero_l lost)) ∙ f))

-- one without has none of its columns in it
pub untouched_column : {b begins M S : List ℕ} → LayoutOf b begins M S → (s lost j : ℕ) → s < sheets_of b → j < width_of b s
    → touches (get_or M s 0) lost ≡ false → bit (column_of b s j) lost ≡ false
unfolding touches
untouched_column {b} {begins} {M} lay s lost j l m f = go (either (bit (column_of b s j) lost))
  where
    go : (bit (column_of b s j) lost ≡ true) ⊎ (bit (column_of b s j) lost ≡ false) → bit (column_of b s j) lost ≡ false
    go (inr e) = e
    go (inl e) =
        absurd
        (false≢true
        (sym (bit_of_zero (column_of b s j))
        ∙ ap (bit (column_of b s j)) (sym (eqb-true (bit_and (get_or M s 0) lost) 0 (not-false _ f)))
        ∙ bit-and (column_of b s j) (get_or M s 0) lost
        ∙ and_i ((lay.columns s l).all j m) e))
