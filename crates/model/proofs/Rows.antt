-- Laws of valid rows: in a sheet that allows its rows a value is supported exactly when a valid row carries it. Assumes nothing.
use mathlib.Core.Path.{◌∙◌, ◌≡◌, ap, ap₂, refl, sym}
use mathlib.Core.Bool.{Bool, ◌&&◌, false, false≢true, true}
use mathlib.Core.List.{List, Memᴰ, [], ◌∷◌}
use Prim.Native.Nat.{◌*◌, ◌+◌, ◌<◌, ◌^◌, suc, zero, ℕ}
use native.Mathlib.Nat.{le_of_suc-le-suc, not-suc-le-zero, zero-lt-suc}
use native.Mathlib.Omega.{arith}
use lib.Dec.{ltb}
use lib.ListN.{drop, get_or, length}
use borrow.Author.Tests.{lt-ltb, ltb-true}
use Rattle.model.specs.Books.{Sheet, Support, in_domain, is_any, matches, row_matches}
use Rattle.model.specs.Choices.{Takes, pick}
use Rattle.model.specs.Masks.{bit}
use Rattle.model.specs.States.{SupportsByRows, ValidSupport, valid, valid_row, valid_word}
use Rattle.model.specs.Stores.{has}
use Rattle.model.proofs.Books.{allows_e, allows_i, in_domain_e, in_domain_i, matches_plain, matches_self}
use Rattle.model.proofs.Choices.{length-pick, pick_e}
use Rattle.model.proofs.Masks.{bit-mask_of, mask_ext, mask_of_lt, mask_of_same}
use Rattle.model.proofs.Tests.{and_i, and_l, and_r}

-- ---- a row cell by cell
pub valid_e : (D cs r : List ℕ) → valid D cs r ≡ true
    → (length r ≡ length cs) × ((i : ℕ) → i < length cs → in_domain (get_or r i 0) (get_or D (get_or cs i 0) 0) ≡ true)
unfolding valid
valid_e D [] [] e = (refl, λ i l. absurd (not-suc-le-zero l))
valid_e D [] (x ∷ r) e = absurd (false≢true e)
valid_e D (c ∷ cs) [] e = absurd (false≢true e)
valid_e D (c ∷ cs) (x ∷ r) e = go (valid_e D cs r (and_r (in_domain x (get_or D c 0)) _ e))
  where
    go : (length r ≡ length cs) × ((i : ℕ) → i < length cs → in_domain (get_or r i 0) (get_or D (get_or cs i 0) 0) ≡ true)
        → (suc (length r) ≡ suc (length cs))
        × ((i : ℕ) → i < suc (length cs) → in_domain (get_or (x ∷ r) i 0) (get_or D (get_or (c ∷ cs) i 0) 0) ≡ true)
    go h = (ap suc h.0, at)
      where
        at : (i : ℕ) → i < suc (length cs) → in_domain (get_or (x ∷ r) i 0) (get_or D (get_or (c ∷ cs) i 0) 0) ≡ true
        at zero l = and_l (in_domain x (get_or D c 0)) _ e
        at (suc i) l = h.1 i (le_of_suc-le-suc l)

pub valid_i : (D cs r : List ℕ) → length r ≡ length cs → ((i : ℕ) → i < length cs → in_domain (get_or r i 0) (get_or D (get_or cs i 0) 0) ≡ true)
    → valid D cs r ≡ true
unfolding valid
valid_i D [] [] e h = refl
valid_i D [] (x ∷ r) e h = absurd (omega arith)
valid_i D (c ∷ cs) [] e h = absurd (omega arith)
valid_i D (c ∷ cs) (x ∷ r) e h =
    and_i (h 0 (zero-lt-suc (length cs))) (valid_i D cs r (omega arith) (λ i l. h (suc i) (omega arith)))

pub row_matches_e : (r t : List ℕ) → row_matches r t ≡ true → (length r ≡ length t) × ((i : ℕ) → i < length t → matches (get_or r i 0) (get_or t i 0) ≡ true)
unfolding row_matches
row_matches_e [] [] e = (refl, λ i l. absurd (not-suc-le-zero l))
row_matches_e [] (v ∷ t) e = absurd (false≢true e)
row_matches_e (x ∷ r) [] e = absurd (false≢true e)
row_matches_e (x ∷ r) (v ∷ t) e = go (row_matches_e r t (and_r (matches x v) _ e))
  where
    go : (length r ≡ length t) × ((i : ℕ) → i < length t → matches (get_or r i 0) (get_or t i 0) ≡ true)
        → (suc (length r) ≡ suc (length t)) × ((i : ℕ) → i < suc (length t) → matches (get_or (x ∷ r) i 0) (get_or (v ∷ t) i 0) ≡ true)
    go h = (ap suc h.0, at)
      where
        at : (i : ℕ) → i < suc (length t) → matches (get_or (x ∷ r) i 0) (get_or (v ∷ t) i 0) ≡ true
        at zero l = and_l (matches x v) _ e
        at (suc i) l = h.1 i (le_of_suc-le-suc l)

pub row_matches_i : (r t : List ℕ) → length r ≡ length t → ((i : ℕ) → i < length t → matches (get_or r i 0) (get_or t i 0) ≡ true) → row_matches r t ≡ true
unfolding row_matches
row_matches_i [] [] e h = refl
row_matches_i [] (v ∷ t) e h = absurd (omega arith)
row_matches_i (x ∷ r) [] e h = absurd (omega arith)
row_matches_i (x ∷ r) (v ∷ t) e h = and_i (h 0 (zero-lt-suc (length t))) (row_matches_i r t (omega arith) (λ i l. h (suc i) (omega arith)))

-- a row that matches a choice from the domains is valid in them
pub matched_valid : (D cs r t : List ℕ) → row_matches r t ≡ true → Takes (pick D cs) t → valid D cs r ≡ true
unfolding has
matched_valid D cs r t e h =
    let m = row_matches_e r t e in
    let size : length t ≡ length cs = h.size ∙ length-pick D cs in
    valid_i D cs r (m.0 ∙ size)
    (λ i l.
    in_domain_i (get_or r i 0) (get_or D (get_or cs i 0) 0) (get_or t i 0) (m.1 i (rw size l))
    (pick_e D cs i (get_or t i 0) (h.each i (rw (length-pick D cs) l))).1)

-- a choice from the domains of these columns that a row matches, and that has v at place i
record Chosen (D cs r : List ℕ) : Type 0 where
  pub tuple : List ℕ
  pub takes : Takes (pick D cs) tuple
  pub fits : row_matches r tuple ≡ true

chosen_more : (D cs r : List ℕ) (c x v : ℕ) → bit v (get_or D c 0) ≡ true → matches x v ≡ true → Chosen D cs r → Chosen D (c ∷ cs) (x ∷ r)
unfolding has row_matches
chosen_more D cs r c x v e m h =
    record { tuple = v ∷ h.tuple; takes = record { size = ap suc h.takes.size; each = at }; fits = and_i m h.fits }
  where
    at : (i : ℕ) → i < suc (length (pick D cs)) → bit (get_or (v ∷ h.tuple) i 0) (get_or (pick D (c ∷ cs)) i 0) ≡ true
    at zero l = e
    at (suc i) l = h.takes.each i (le_of_suc-le-suc l)

-- a valid row matches some choice
chosen : (D cs r : List ℕ) → valid D cs r ≡ true → Chosen D cs r
unfolding valid has row_matches
chosen D [] [] e = record { tuple = []; takes = record { size = refl; each = λ i l. absurd (not-suc-le-zero l) }; fits = refl }
chosen D [] (x ∷ r) e = absurd (false≢true e)
chosen D (c ∷ cs) [] e = absurd (false≢true e)
chosen D (c ∷ cs) (x ∷ r) e =
    let v = in_domain_e x (get_or D c 0) (and_l (in_domain x (get_or D c 0)) _ e) in
    chosen_more D cs r c x v.0 v.1 v.2 (chosen D cs r (and_r (in_domain x (get_or D c 0)) _ e))

-- and one with the value v at place i, where it carries v
chosen_with : (D cs r : List ℕ) (i v : ℕ) → valid D cs r ≡ true → i < length cs → matches (get_or r i 0) v ≡ true → has D (get_or cs i 0) v ≡ true
    → (h : Chosen D cs r) × (get_or h.tuple i 0 ≡ v)
unfolding valid has chosen_more
chosen_with D [] r i v e l m d = absurd (not-suc-le-zero l)
chosen_with D (c ∷ cs) [] i v e l m d = absurd (false≢true e)
chosen_with D (c ∷ cs) (x ∷ r) zero v e l m d =
    (chosen_more D cs r c x v d m (chosen D cs r (and_r (in_domain x (get_or D c 0)) _ e)), refl)
chosen_with D (c ∷ cs) (x ∷ r) (suc i) v e l m d =
    let u = in_domain_e x (get_or D c 0) (and_l (in_domain x (get_or D c 0)) _ e) in
    let h = chosen_with D cs r i v (and_r (in_domain x (get_or D c 0)) _ e) (le_of_suc-le-suc l) m d in
    (chosen_more D cs r c x u.0 u.1 u.2 h.0, h.1)

-- it goes by the domains of its own columns
valid_same : (D E cs r : List ℕ) → pick D cs ≡ pick E cs → valid D cs r ≡ valid E cs r
unfolding valid
valid_same D E [] [] e = refl
valid_same D E [] (x ∷ r) e = refl
valid_same D E (c ∷ cs) [] e = refl
valid_same D E (c ∷ cs) (x ∷ r) e =
    ap₂ (λ (d : ℕ) (t : Bool). in_domain x d && t) (ap (λ (l : List ℕ). get_or l 0 0) e) (valid_same D E cs r (ap (drop 1) e))

-- an element of a list has a place, and what stands at a place is an element
pub at_place : {A : Type 0} (d x : A) (l : List A) → Memᴰ x l → (i : ℕ) × (i < length l) × (get_or l i d ≡ x)
at_place {A = A} d x [] m = elim m [ ]
at_place d x (y ∷ l) (Memᴰ.head e) = (0, zero-lt-suc (length l), sym e)
at_place d x (y ∷ l) (Memᴰ.tail m) = let r = at_place d x l m in (suc r.0, omega arith, r.2)

pub in_list : {A : Type 0} (d : A) (l : List A) (i : ℕ) → i < length l → Memᴰ (get_or l i d) l
in_list d [] i h = absurd (not-suc-le-zero h)
in_list d (y ∷ l) zero h = Memᴰ.head refl
in_list d (y ∷ l) (suc i) h = Memᴰ.tail (in_list d l i (le_of_suc-le-suc h))

-- ---- a value has support exactly when a valid row carries it
pub supports_by_rows : SupportsByRows
unfolding valid_row
supports_by_rows D s plain i v l = (to, from)
  where
    to : Support D s i v → ValidSupport D s i v
    to k =
        let m = allows_e s plain k.tuple k.sheet_allows in
        let r = at_place [] m.0 s.rows m.1 in
        let p : i < length (pick D s.columns) = rw (length-pick D s.columns) l in
        record {
          row = r.0;
          is_valid = and_i (lt-ltb r.0 (length s.rows) r.1) (rw r.2 (matched_valid D s.columns m.0 k.tuple m.2 k.valid));
          value = rw (r.2, ← k.value) ((row_matches_e m.0 k.tuple m.2).1 i (rw k.valid.size p));
          there = rw (← k.value) (pick_e D s.columns i (get_or k.tuple i 0) (k.valid.each i p)).1;
        }

    from : ValidSupport D s i v → Support D s i v
    from k =
        let n = ltb-true k.row (length s.rows) (and_l (ltb k.row (length s.rows)) _ k.is_valid) in
        let h = chosen_with D s.columns (get_or s.rows k.row []) i v (and_r (ltb k.row (length s.rows)) _ k.is_valid) l k.value k.there in
        record {
          tuple = h.0.tuple;
          sheet_allows = allows_i s plain _ _ (in_list [] s.rows k.row n) h.0.fits;
          valid = h.0.takes;
          value = h.1;
        }

-- ---- a row without 255
-- a row matches itself, and a plain row nothing else
pub row_self : (t : List ℕ) → row_matches t t ≡ true
unfolding row_matches
row_self [] = refl
row_self (v ∷ t) = and_i (matches_self v) (row_self t)

pub row_plain : (r t : List ℕ) → ((i : ℕ) → i < length r → is_any (get_or r i 0) ≡ false) → row_matches r t ≡ true → r ≡ t
unfolding row_matches
row_plain [] [] h e = refl
row_plain [] (v ∷ t) h e = absurd (false≢true e)
row_plain (x ∷ r) [] h e = absurd (false≢true e)
row_plain (x ∷ r) (v ∷ t) h e =
    let p : x ≡ v = matches_plain x v (h 0 (zero-lt-suc (length r))) (and_l (matches x v) _ e) in
    let q : r ≡ t = row_plain r t (λ i l. h (suc i) (omega arith)) (and_r (matches x v) _ e) in
    cc

-- ---- the words
-- bit r mod 64 of word r div 64 says whether row r is valid
pub word_row : (D : List ℕ) (s : Sheet) (w k : ℕ) → k < 64 → bit k (valid_word D s w) ≡ valid_row D s (64 * w + k)
unfolding valid_word
word_row D s w k h = bit-mask_of 64 (λ k. valid_row D s (64 * w + k)) k h

-- a word with the same rows is the sheet's word
pub word_same : (D : List ℕ) (s : Sheet) (w x : ℕ) → x < 2 ^ 64 → ((k : ℕ) → k < 64 → bit k x ≡ valid_row D s (64 * w + k)) → x ≡ valid_word D s w
unfolding valid_word
word_same D s w x l h =
    mask_ext 64 x (valid_word D s w) l (mask_of_lt 64 (λ k. valid_row D s (64 * w + k))) (λ k m. h k m ∙ sym (word_row D s w k m))

-- rows and words go by the domains of the sheet's own columns
pub words_same : (D E : List ℕ) (s : Sheet) → pick D s.columns ≡ pick E s.columns → (w : ℕ) → valid_word D s w ≡ valid_word E s w
unfolding valid_word valid_row
words_same D E s e w =
    mask_of_same 64 _ _
    (λ k l. ap (λ (t : Bool). ltb (64 * w + k) (length s.rows) && t) (valid_same D E s.columns (get_or s.rows (64 * w + k) []) e))
