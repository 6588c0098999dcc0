-- Laws of the layout: the columns of a sheet, the places at which it has 255, and both of every sheet. Assumes nothing.
use mathlib.Core.Path.{◌∙◌, ◌≡◌, ap, refl, sym}
use mathlib.Core.Bool.{◌||◌, Bool-set, false≢true, true}
use mathlib.Core.Logic.{◌⊎◌, inl, inr, ∥∥₁_elim}
use mathlib.Core.List.{List}
use Prim.Native.Nat.{◌%◌, ◌*◌, ◌+◌, ◌-◌, ◌<◌, ◌^◌, ◌≤◌, ℕ}
use native.Mathlib.Omega.{arith}
use lib.Bits.{bit_and, bit_or}
use lib.Dec.{eqb}
use lib.ListN.{get_or, length, length-replicate, length-set, replicate, set}
use lib.Seq.{get_or-set_other, get_or-set_same}
use borrow.Author.Tests.{eq-eqb, eqb-true}
use Rattle.fields.specs.Bytes.{byte_at}
use Rattle.model.specs.Books.{is_any}
use Rattle.model.specs.Masks.{bit}
use Rattle.model.specs.Tests.{any_below}
use Rattle.model.proofs.Masks.{bit-and, bit_of_zero, bit-or, bit_pow, bit_pow_only}
use Rattle.model.proofs.Tests.{and_i, any_below_e, any_below_i, below, or_e, or_l, or_r, zeros_at}
use Rattle.heads.specs.Blocks.{block_at, word}
use Rattle.heads.specs.Heads.{column_of, rows_of, sheets_of, width_of}
use Rattle.rows.specs.Bounds.{joined}
use Rattle.rows.specs.Rows.{blocks_of, first_block, row_place}
use Rattle.book.specs.Verdicts.{Accepted}
use Rattle.book.proofs.Decoding.{accepted_right, any_shows}
use Rattle.counters.specs.Counters.{cell_place}
use Rattle.cells.proofs.Walks.{four_all, shifted_one}
use Rattle.words.specs.Sheets.{ShortPlaces, first_byte, value_at}
use Rattle.engine.specs.Layouts.{ColumnsIn, LayoutOf, SheetsLaid}

-- ---- the columns of a sheet

pub record ColumnsTo (b : List ℕ) (s n m : ℕ) : Type 0 where
  pub all : (j : ℕ) → j < n → bit (column_of b s j) m ≡ true
  pub only : (c : ℕ) → bit c m ≡ true → (j : ℕ) × (j < n) × (column_of b s j ≡ c)

pub columns_none : (b : List ℕ) (s : ℕ) → ColumnsTo b s 0 0
columns_none b s = record { all = λ j l. absurd (omega arith); only = λ c e. absurd (false≢true (sym (bit_of_zero c) ∙ e)) }

pub columns_more : {b : List ℕ} {s n m c : ℕ} → ColumnsTo b s n m → c ≡ column_of b s n → c < 32 → ColumnsTo b s (n + 1) (bit_or m ((1 * 2 ^ c) % 2 ^ 32))
columns_more {b} {s} {n} {m} {c} h e l =
    record {
      all = λ j k. into (column_of b s j) (here j (below j n) k);
      only = λ k f. from k (or_e (bit k m) _ (sym (bit-or k m _) ∙ f));
    }
  where
    one : (1 * 2 ^ c) % 2 ^ 32 ≡ 2 ^ c
    one = shifted_one 32 c l

    into : (k : ℕ) → (bit k m || bit k ((1 * 2 ^ c) % 2 ^ 32)) ≡ true → bit k (bit_or m ((1 * 2 ^ c) % 2 ^ 32)) ≡ true
    into k f = bit-or k m _ ∙ f

    here : (j : ℕ) → (j < n) ⊎ (n ≤ j) → j < n + 1 → (bit (column_of b s j) m || bit (column_of b s j) ((1 * 2 ^ c) % 2 ^ 32)) ≡ true
    here j (inl p) k = or_l (bit (column_of b s j) m) _ (h.all j p)
    here j (inr p) k =
        let z : j ≡ n = omega arith in or_r (bit (column_of b s j) m) _ (rw (z, ← e, one) (bit_pow c))

    from : (k : ℕ) → (bit k m ≡ true) ⊎ (bit k ((1 * 2 ^ c) % 2 ^ 32) ≡ true) → (j : ℕ) × (j < n + 1) × (column_of b s j ≡ k)
    from k (inl f) = let r = h.only k f in (r.0, omega (arith, r.1), r.2)
    from k (inr f) = (n, omega arith, sym e ∙ sym (bit_pow_only c k (rw one at f)))

pub columns_end : {b : List ℕ} {s n m : ℕ} → n ≡ width_of b s → ColumnsTo b s n m → ColumnsIn b s m
columns_end e h =
    record { all = λ j l. h.all j (omega arith); only = λ c f. let r = h.only c f in ∣ (r.0, omega (arith, r.1), r.2) ∣₁ }

-- which place of the sheet a column of m is at: the definition says that there is one
pub column_place : {b : List ℕ} {s m : ℕ} → ColumnsIn b s m → (c : ℕ) → bit c m ≡ true → (j : ℕ) × (j < width_of b s) × (column_of b s j ≡ c)
column_place {b} {s} {m} h c e =
    let r = any_below_e _ _ (found (h.only c e)) in (r.0, r.1, eqb-true _ _ r.2)
  where
    found : ∥ ((j : ℕ) × (j < width_of b s) × (column_of b s j ≡ c)) ∥₁ → any_below (width_of b s) (λ j. eqb (column_of b s j) c) ≡ true
    found t = ∥∥₁_elim t (Bool-set _ _) (λ r. any_below_i _ _ r.0 r.1 (eq-eqb _ _ r.2))

-- ---- the places with 255, block by block
-- those of the rows in the blocks below n
pub record ShortTo (b : List ℕ) (s n m : ℕ) : Type 0 where
  pub at : (r j : ℕ) → r < rows_of b s → r < 127 * n → j < 4 → is_any (value_at b s r j) ≡ true → bit (8 * j + 7) m ≡ true

pub short_none : (b : List ℕ) (s : ℕ) → ShortTo b s 0 0
short_none b s = record { at = λ r j l q. absurd (omega arith) }

pub short_more : {b : List ℕ} {s n m t : ℕ} → Accepted b → s < sheets_of b → ShortTo b s n m → t ≡ joined (word (block_at b (first_block b s + n))) 127
    → ShortTo b s (n + 1) (bit_or m t)
unfolding row_place
short_more {b} {s} {n} {m} {t} acc l h e =
    record { at = λ r j q p k a. bit-or (8 * j + 7) m t ∙ go r j q p k a (below r (127 * n)) }
  where
    go : (r j : ℕ) → r < rows_of b s → r < 127 * (n + 1) → j < 4 → is_any (value_at b s r j) ≡ true → (r < 127 * n) ⊎ (127 * n ≤ r)
        → (bit (8 * j + 7) m || bit (8 * j + 7) t) ≡ true
    go r j q p k a (inl o) = or_l _ _ (h.at r j q o k a)
    go r j q p k a (inr o) =
        let i : 127 * n + (r - 127 * n) ≡ r = omega arith in
        let z : row_place b s (127 * n + (r - 127 * n)) + j ≡ cell_place (first_byte b s) r j = omega arith in
        or_r (bit (8 * j + 7) m) _
        (ap (bit (8 * j + 7)) e
        ∙ any_shows b (accepted_right b acc) s l n (r - 127 * n) j (omega arith) (rw i q) k (ap (λ (x : ℕ). is_any (byte_at b x)) z ∙ a))

-- of the joined rows the highest bit of each byte
pub short_end : {b : List ℕ} {s n m : ℕ} → n ≡ blocks_of b s → ShortTo b s n m → ShortPlaces b s (bit_and m 2155905152)
unfolding blocks_of bit
short_end {b} {s} {n} {m} e h =
    record { at = λ r j q k a. bit-and (8 * j + 7) m 2155905152 ∙ and_i (h.at r j q (omega arith) k a) (four_all (λ j. bit (8 * j + 7) 2155905152 ≡ true) refl refl refl refl j k) }

-- ---- the layout, sheet by sheet
pub record LaidTo (b : List ℕ) (n : ℕ) (begins scopes shorts : List ℕ) : Type 0 where
  pub begins_size : length begins ≡ 8
  pub scopes_size : length scopes ≡ 8
  pub shorts_size : length shorts ≡ 8
  pub starts : (s : ℕ) → s < n → get_or begins s 0 ≡ first_byte b s
  pub columns : (s : ℕ) → s < n → ColumnsIn b s (get_or scopes s 0)
  pub any : (s : ℕ) → s < n → ShortPlaces b s (get_or shorts s 0)
  pub past : (s : ℕ) → n ≤ s → get_or scopes s 0 ≡ 0

pub laid_none : (b : List ℕ) {begins scopes shorts : List ℕ} → begins ≡ replicate 8 0 → scopes ≡ replicate 8 0 → shorts ≡ replicate 8 0
    → LaidTo b 0 begins scopes shorts
laid_none b e f g =
    record {
      begins_size = size e;
      scopes_size = size f;
      shorts_size = size g;
      starts = λ s l. absurd (omega arith);
      columns = λ s l. absurd (omega arith);
      any = λ s l. absurd (omega arith);
      past = λ s l. ap (λ (l : List ℕ). get_or l s 0) f ∙ zeros_at 8 s;
    }
  where
    size : {xs : List ℕ} → xs ≡ replicate 8 0 → length xs ≡ 8
    size e = ap (λ (l : List ℕ). length l) e ∙ length-replicate {A = ℕ} 8 0

-- what holds of the entries below n holds below n + 1 with entry n put in
put_next : (P : ℕ → ℕ → Type 0) (xs : List ℕ) (n x : ℕ) → n < length xs → ((s : ℕ) → s < n → P s (get_or xs s 0)) → P n x
    → (s : ℕ) → s < n + 1 → P s (get_or (set xs n x) s 0)
put_next P xs n x l h p s q = go (below s n)
  where
    go : (s < n) ⊎ (n ≤ s) → P s (get_or (set xs n x) s 0)
    go (inl k) = rw (get_or-set_other xs n s x 0 (λ z. omega arith)) (h s k)
    go (inr k) = let z : s ≡ n = omega arith in rw (z, get_or-set_same xs n x 0 l) p

pub laid_more : {b : List ℕ} {n at m t : ℕ} {begins scopes shorts : List ℕ} → LaidTo b n begins scopes shorts → n < 8 → at ≡ first_byte b n
    → ColumnsIn b n m → ShortPlaces b n t → LaidTo b (n + 1) (set begins n at) (set scopes n m) (set shorts n t)
laid_more {b} {n} {at} {m} {t} {begins} {scopes} {shorts} h l e k j =
    record {
      begins_size = length-set begins n at ∙ h.begins_size;
      scopes_size = length-set scopes n m ∙ h.scopes_size;
      shorts_size = length-set shorts n t ∙ h.shorts_size;
      starts = put_next (λ s x. x ≡ first_byte b s) begins n at (omega (arith, h.begins_size)) h.starts e;
      columns = put_next (λ s x. ColumnsIn b s x) scopes n m (omega (arith, h.scopes_size)) h.columns k;
      any = put_next (λ s x. ShortPlaces b s x) shorts n t (omega (arith, h.shorts_size)) h.any j;
      past = λ s q. get_or-set_other scopes n s m 0 (λ z. omega arith) ∙ h.past s (omega arith);
    }

pub laid_end : {b : List ℕ} {n : ℕ} {begins scopes shorts : List ℕ} → Accepted b → n ≡ sheets_of b → LaidTo b n begins scopes shorts
    → LayoutOf b begins scopes shorts
laid_end acc e h =
    record {
      accepted = acc;
      starts = λ s l. h.starts s (omega arith);
      columns = λ s l. h.columns s (omega arith);
      any = λ s l. h.any s (omega arith);
      past = λ s l. h.past s (omega arith);
    }

pub laid_sheets : {b begins scopes shorts : List ℕ} → LayoutOf b begins scopes shorts → SheetsLaid b begins shorts
laid_sheets h = record { accepted = h.accepted; starts = h.starts; any = h.any }
