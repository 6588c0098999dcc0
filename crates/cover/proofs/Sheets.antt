-- The sheet in the model's words: its choices are matched exactly when it is subsumed. Assumes nothing.
use mathlib.Core.Path.{◌∙◌, ◌≡◌, ap, sym}
use mathlib.Core.Bool.{Bool, cond, false, false≢true, true}
use mathlib.Core.Logic.{◌⊎◌, ◌↔◌, inl, inr}
use mathlib.Core.List.{List, []}
use Prim.Native.Nat.{◌%◌, ◌*◌, ◌+◌, ◌/◌, ◌<◌, ◌^◌, ◌≤◌, ℕ}
use native.Mathlib.Omega.{arith}
use lib.Dec.{eqb, ltb}
use lib.ListN.{get_or-eq_default, get_or, length}
use borrow.Author.Tests.{eqb-false, eqb-true, le-ltb, lt-ltb, ltb-true}
use Rattle.model.specs.Answers.{Subsumed, subsumed}
use Rattle.model.specs.Books.{Sheet, WellFormedSheet, allows, matches, row_matches, sheet_at}
use Rattle.model.specs.Choices.{Takes, pick}
use Rattle.model.specs.Masks.{bit}
use Rattle.model.specs.States.{of_sheet, valid_row}
use Rattle.model.specs.Stores.{IsStore, has}
use Rattle.model.specs.Tests.{tab}
use Rattle.model.proofs.Books.{allows_e, allows_i, matches_self}
use Rattle.model.proofs.Choices.{length-pick, pick_e, pick_i}
use Rattle.model.proofs.Counting.{none_forbidden, some_forbidden}
use Rattle.model.proofs.Masks.{bit_pow, bit_pow_only, some_bit}
use Rattle.model.proofs.Rows.{at_place, in_list, matched_valid, row_matches_e, row_matches_i, word_row}
use Rattle.model.proofs.Subsumptions.{subsumed_iff}
use Rattle.model.proofs.Tests.{and_i, below, either, get_or-tab, get_or-tab_out, length-tab, same_test}
use Rattle.book.specs.Decoding.{book_of}
use Rattle.heads.specs.Heads.{column_of, forbids_of, rows_of, width_of}
use Rattle.words.specs.Sheets.{AtSheet, SheetWords, ShortPlaces, Wanted, is_set, rows_to, value_at}
use Rattle.words.proofs.Cuts.{row_word}
use Rattle.words.proofs.Gathers.{at_position}
use Rattle.words.proofs.Places.{column_value, columns_size, formed, row_value, rows_few, rows_size, sheet_forbids, sheet_in, unused_value, valid_e, width_most}
use Rattle.cover.specs.Covers.{AllMatched, ChosenFrom, FilledSets, MatchedBy, SettledSheet, SizesTo, TellsMatched, plain_choices, plain_in}
use Rattle.cover.proofs.Fewer.{few_missed, plain_same}

-- a row is set exactly when it is valid
set_valid : {b : List ℕ} {s : ℕ} {D W : List ℕ} → SettledSheet b s D W → (r : ℕ) → r < 512 → is_set W s r ≡ valid_row D (sheet_at (book_of b) s) r
unfolding is_set
set_valid {b} {s} {D} k r l =
    let z : 64 * (r / 64) + r % 64 ≡ r = omega arith in
    ap (bit (r % 64)) (k.rows (r / 64) (omega arith)) ∙ word_row D (sheet_at (book_of b) s) (r / 64) (r % 64) (omega arith) ∙ ap (valid_row D (sheet_at (book_of b) s)) z

module _ {b : List ℕ} {begin s : ℕ} (a : AtSheet b begin s) {D W X N x : List ℕ} (d : IsStore 16 D) (h : SheetWords b s W X N) (k : SettledSheet b s D W)
    (plain : forbids_of b s ≡ false) (w : Wanted b s D (width_of b s) x) where
  abbrev sheet : Sheet
  sheet = sheet_at (book_of b) s

  filled_sets : FilledSets x
  filled_sets = record { some = λ j l. go j l (below j (width_of b s)) }
    where
      go : (j : ℕ) → j < 4 → (j < width_of b s) ⊎ (width_of b s ≤ j) → (v : ℕ) × (bit v (get_or x j 0) ≡ true)
      go j l (inl p) = let v = k.filled j p in (v.0, rw (w.at j p) v.1)
      go j l (inr p) = (0, rw (w.rest j p l) (bit_pow 0))

  -- ---- every choice of the places is matched, so every choice of the columns is allowed
  module _ {t : List ℕ} (c : Takes (pick D sheet.columns) t) where
    size : length t ≡ width_of b s
    size = c.size ∙ length-pick D sheet.columns ∙ columns_size a

    chosen : ChosenFrom x (λ j. get_or t j 0)
    unfolding has
    chosen = record { each = λ j l. go j l (below j (width_of b s)) }
      where
        go : (j : ℕ) → j < 4 → (j < width_of b s) ⊎ (width_of b s ≤ j) → bit (get_or t j 0) (get_or x j 0) ≡ true
        go j l (inl p) =
            let q : j < length (pick D sheet.columns) = omega (arith, c.size, size) in
            rw (w.at j p, ← column_value a j p) (pick_e D sheet.columns j (get_or t j 0) (c.each j q)).1
        go j l (inr p) =
            let out : length t ≤ j = omega (arith, size) in
            let z : get_or t j 0 ≡ 0 = get_or-eq_default t 0 out in
            rw (w.rest j p l, z) (bit_pow 0)

    allowed : MatchedBy b s W (λ j. get_or t j 0) → allows sheet t ≡ true
    allowed m =
        let r = m.row in
        let l = h.inside.at r m.small m.set_row in
        let n : r < length sheet.rows = omega (arith, rows_size a) in
        let wide : length (get_or sheet.rows r []) ≡ length t = ((formed a).sheet sheet (sheet_in a)).row_size r n ∙ columns_size a ∙ sym size in
        allows_i sheet (sheet_forbids a ∙ plain) (get_or sheet.rows r []) t (in_list [] sheet.rows r n)
        (row_matches_i (get_or sheet.rows r []) t wide
        (λ j p. let q : j < width_of b s = omega (arith, size) in rw (row_value a r j l q) (m.cells j (omega (arith, (width_most a).1)))))

  -- ---- and the other way round
  module _ {t : ℕ → ℕ} (c : ChosenFrom x t) where
    abbrev tuple : List ℕ
    tuple = tab (width_of b s) t

    takes : Takes (pick D sheet.columns) tuple
    unfolding has
    takes = record {
      size = length-tab (width_of b s) t ∙ sym (length-pick D sheet.columns ∙ columns_size a);
      each = λ j l.
          let p : j < width_of b s = omega (arith, length-pick D sheet.columns, columns_size a) in
          pick_i D sheet.columns j (get_or tuple j 0) (omega (arith, length-pick D sheet.columns))
          (rw (get_or-tab 0 (width_of b s) t j p, column_value a j p, ← w.at j p) (c.each j (omega (arith, (width_most a).1))));
    }

    matched : allows sheet tuple ≡ true → MatchedBy b s W t
    unfolding valid_row
    matched e =
        let m = allows_e sheet (sheet_forbids a ∙ plain) tuple e in
        let i = at_place [] m.0 sheet.rows m.1 in
        let r = i.0 in
        let l : r < rows_of b s = omega (arith, rows_size a, i.1) in
        let valid-row : valid_row D sheet r ≡ true =
        and_i (lt-ltb r (length sheet.rows) i.1) (rw i.2 (matched_valid D sheet.columns m.0 tuple m.2 takes)) in
        record {
          row = r;
          small = omega (arith, rows_few a);
          set_row = set_valid k r (omega (arith, rows_few a)) ∙ valid-row;
          cells = λ j p. cells r l m.0 i.2 m.2 j p (below j (width_of b s));
        }
      where
        cells : (r : ℕ) → r < rows_of b s → (row : List ℕ) → get_or sheet.rows r [] ≡ row → row_matches row tuple ≡ true → (j : ℕ) → j < 4
            → (j < width_of b s) ⊎ (width_of b s ≤ j) → matches (value_at b s r j) (t j) ≡ true
        cells r l row f m j p (inl q) =
            rw (← row_value a r j l q, f, ← get_or-tab 0 (width_of b s) t j q) ((row_matches_e row tuple m).1 j (rw (length-tab (width_of b s) t) q))
        cells r l row f m j p (inr q) =
            rw (unused_value a r j l q p, bit_pow_only 0 (t j) (rw (w.rest j q p) at (c.each j p))) (matches_self 0)

  matched_subsumed : AllMatched b s W x → Subsumed D sheet
  matched_subsumed m = record { each = λ t c. allowed c (m.each (λ j. get_or t j 0) (chosen c)) }

  subsumed_matched : Subsumed D sheet → AllMatched b s W x
  subsumed_matched m = record { each = λ t c. matched c (m.each (tab (width_of b s) t) (takes c)) }

  -- ---- what the code gives
  pub tells_subsumed : {r : Bool} → TellsMatched b s W x r → r ≡ subsumed D sheet
  tells_subsumed {r} m = same_test r (subsumed D sheet) (λ e. i.1 (matched_subsumed (m.yes e))) (λ e. no e (either r))
    where
      i : (subsumed D sheet ≡ true) ↔ Subsumed D sheet
      i = subsumed_iff D d.bits sheet

      no : subsumed D sheet ≡ true → (r ≡ true) ⊎ (r ≡ false) → r ≡ true
      no e (inl y) = y
      no e (inr n) = absurd (m.no n (subsumed_matched (i.0 e)))

  few_subsumed : {shorts : ℕ} → ShortPlaces b s shorts → ltb (rows_to W X s (get_or N s 0)) (plain_choices shorts x 4) ≡ true → false ≡ subsumed D sheet
  few_subsumed c e =
      tells_subsumed (record { yes = λ z. absurd (false≢true z); no = λ z. few_missed a h c w.small filled_sets (ltb-true _ _ e) })

-- ---- before the sets of the places are laid out
-- they are these
wanted_list : {b : List ℕ} {begin s : ℕ} (a : AtSheet b begin s) {D : List ℕ} → IsStore 16 D
    → Wanted b s D (width_of b s) (tab 4 (λ j. cond (ltb j (width_of b s)) (get_or D (column_of b s j) 0) 1))
wanted_list {b} {begin} {s} a {D} d = record {
  small = record { size = length-tab 4 sets; fits = λ j. fits j (below j 4) };
  at = λ j l. get_or-tab 0 4 sets j (omega (arith, (width_most a).1)) ∙ rw (lt-ltb j (width_of b s) l);
  rest = λ j l m. get_or-tab 0 4 sets j m ∙ rw (le-ltb j (width_of b s) l);
}
  where
    sets : ℕ → ℕ
    sets j = cond (ltb j (width_of b s)) (get_or D (column_of b s j) 0) 1

    bounded : (t : Bool) (m : ℕ) → m < 2 ^ 32 → cond t m 1 < 2 ^ 32
    bounded true m l = l
    bounded false m l = omega arith

    fits : (j : ℕ) → (j < 4) ⊎ (4 ≤ j) → get_or (tab 4 sets) j 0 < 2 ^ 32
    fits j (inl l) = rw (get_or-tab 0 4 sets j l) (bounded (ltb j (width_of b s)) _ (d.bits (column_of b s j)))
    fits j (inr l) = rw (get_or-tab_out 4 sets j l) (omega arith)

-- with fewer rows than choices the sheet is not subsumed
pub few_rows : {b : List ℕ} {begin s : ℕ} (a : AtSheet b begin s) {D W X N Z : List ℕ} → IsStore 16 D → SheetWords b s W X N → SettledSheet b s D W → forbids_of b s ≡ false
    → SizesTo D 16 Z → {shorts : ℕ} → ShortPlaces b s shorts → ltb (rows_to W X s (get_or N s 0)) (plain_in b s shorts Z (width_of b s)) ≡ true
    → false ≡ subsumed D (sheet_at (book_of b) s)
few_rows a {Z = Z} d h k plain z {shorts} c e =
    few_subsumed a d h k plain (wanted_list a d) c (rw (plain_same a shorts Z z (wanted_list a d)) at e)

-- ---- a sheet that forbids its rows: no row is set exactly when no word is
pub forbidden_covered : {b : List ℕ} {begin s : ℕ} (a : AtSheet b begin s) {D W X N : List ℕ} {n : ℕ} → IsStore 16 D → SheetWords b s W X N → SettledSheet b s D W
    → forbids_of b s ≡ true → n ≡ get_or N s 0 → eqb n 0 ≡ subsumed D (sheet_at (book_of b) s)
unfolding is_set
forbidden_covered {b} {begin} {s} a {D} {W} {X} {N} {n} d h k f e = same_test _ _ (λ t. i.1 (none_forbidden D (book_of b).counts sheet formed_sheet few d.bits forbids (none t))) (λ t. empty (i.0 t) (either (eqb n 0)))
  where
    sheet : Sheet
    sheet = sheet_at (book_of b) s

    i : (subsumed D (sheet_at (book_of b) s) ≡ true) ↔ Subsumed D (sheet_at (book_of b) s)
    i = subsumed_iff D d.bits (sheet_at (book_of b) s)

    formed_sheet : WellFormedSheet (book_of b).counts (sheet_at (book_of b) s)
    formed_sheet = (formed a).sheet _ (sheet_in a)

    few : (c : ℕ) → c < length (book_of b).counts → get_or (book_of b).counts c 0 ≤ 32
    few = (formed a).few_values

    forbids : (sheet_at (book_of b) s).forbids ≡ true
    forbids = sheet_forbids a ∙ f

    -- no word is left, so no row is
    none : eqb n 0 ≡ true → (r : ℕ) → valid_row D (sheet_at (book_of b) s) r ≡ true → ⊥
    none t r v =
        let l : r < 512 = omega (arith, (valid_e a D r v).0, rows_few a) in
        let z : n ≡ 0 = eqb-true n 0 t in
        let q = at_position a h r l (set_valid k r l ∙ v) in
        omega (arith, q.1)

    -- a word that is left has a row
    empty : Subsumed D (sheet_at (book_of b) s) → (eqb n 0 ≡ true) ⊎ (eqb n 0 ≡ false) → eqb n 0 ≡ true
    empty u (inl t) = t
    empty u (inr t) =
        let ne : n ≡ 0 → ⊥ = eqb-false n 0 t in
        let w = of_sheet X s 0 in
        let m : w < 8 = h.indexed.each 0 (omega arith) in
        let p = some_bit 64 (of_sheet W s w) (h.sized.bits (8 * s + w)) ((h.indexed.limit 0 (omega arith)).0 (omega arith)) in
        let r = 64 * w + p.0 in
        let l : r < 512 = omega (arith, m, p.1) in
        absurd (some_forbidden D (book_of b).counts (sheet_at (book_of b) s) formed_sheet few d.bits forbids u r (sym (set_valid k r l) ∙ row_word W s w p.0 p.1 ∙ p.2))
