-- Laws of the head: which field begins at which offset, and what the fields of a right head are. Assumes nothing.
use Rattle.std.proofs.Common.{◌≡◌, ℕ, suc, ◌+◌, ◌-◌, ◌*◌, ◌/◌, ◌%◌, ◌<◌, ◌≤◌, false, cond, ◌||◌, ltb, leb, List, sym, refl, ap, ◌∙◌, le_refl, arith, le-ltb, lt-ltb, ne_eqb, leb-false}
use Rattle.model.specs.Tests.{NoneIn}
use Rattle.model.proofs.Firsts.{none_empty, none_join, none_more, none_to}
use Rattle.model.proofs.Tests.{or_false_l, or_false_r}
use Rattle.heads.specs.Limits.{set_at}
use Rattle.heads.specs.Heads.{sheets_of, wrong_column, wrong_columns, wrong_entry, wrong_field, wrong_in_entry, wrong_letters, wrong_rows, wrong_sheets, wrong_values, wrong_width, RightHead, column_of, columns_of, not_rising, rows_of, values_of, width_of}
use Rattle.heads.proofs.Limits.{in_range}

module _ (b : List ℕ) where
  pub field_letters : wrong_field b 0 ≡ wrong_letters b
  unfolding wrong_field
  field_letters = refl

  -- bytes 1 to 3 belong to the letters
  pub field_gap : (i : ℕ) → 1 ≤ i → i < 4 → wrong_field b i ≡ false
  unfolding wrong_field
  field_gap i p q = rw (ne_eqb i 0 (λ e. omega arith), lt-ltb i 4 q)

  -- the letters are right: nothing is wrong before byte 4
  pub right_letters : false ≡ wrong_letters b → NoneIn (wrong_field b) 0 4
  right_letters e = none_join (none_more (none_empty (le_refl 0)) (field_letters ∙ sym e)) (record { at = field_gap })

  pub field_columns : wrong_field b 4 ≡ wrong_columns b
  unfolding wrong_field
  field_columns = refl

  pub field_sheets : wrong_field b 5 ≡ wrong_sheets b
  unfolding wrong_field
  field_sheets = refl

  -- past the letters, C and S
  later : (i : ℕ) → 6 ≤ i
      → wrong_field b i
      ≡ cond (ltb i 8) (set_at b i) (cond (ltb i 24) (wrong_values b (i - 8)) (cond (ltb i 88) (wrong_entry b ((i - 24) / 8) ((i - 24) % 8)) (set_at b i)))
  unfolding wrong_field
  later i p = rw (ne_eqb i 0 (λ e. omega arith), le-ltb i 4 (omega arith), ne_eqb i 4 (λ e. omega arith), ne_eqb i 5 (λ e. omega arith))

  pub field_zero : (i : ℕ) → 6 ≤ i → i < 8 → wrong_field b i ≡ set_at b i
  field_zero i p q = later i p ∙ rw (lt-ltb i 8 q)

  -- no field of the front
  past : (i : ℕ) → 8 ≤ i
      → wrong_field b i
      ≡ cond (ltb i 24) (wrong_values b (i - 8)) (cond (ltb i 88) (wrong_entry b ((i - 24) / 8) ((i - 24) % 8)) (set_at b i))
  past i p = later i (omega arith) ∙ rw (le-ltb i 8 p)

  pub field_values : (i : ℕ) → 8 ≤ i → i < 24 → wrong_field b i ≡ wrong_values b (i - 8)
  field_values i p q = past i p ∙ rw (lt-ltb i 24 q)

  pub field_rest : (i : ℕ) → 88 ≤ i → wrong_field b i ≡ set_at b i
  field_rest i p = past i (omega arith) ∙ rw (le-ltb i 24 (omega arith), le-ltb i 88 p)

  -- ---- the entry of sheet s
  field_entry : (i s o : ℕ) → i ≡ 24 + 8 * s + o → s < 8 → o < 8 → wrong_field b i ≡ wrong_entry b s o
  field_entry i s o h p q =
      let d : (i - 24) / 8 ≡ s = omega arith in
      let m : (i - 24) % 8 ≡ o = omega arith in
      past i (omega arith) ∙ rw (le-ltb i 24 (omega arith), lt-ltb i 88 (omega arith), d, m)

  -- of a sheet that is not there
  pub field_unused : (i : ℕ) → 24 + 8 * sheets_of b ≤ i → i < 88 → wrong_field b i ≡ set_at b i
  unfolding wrong_entry
  field_unused i p q =
      let s = (i - 24) / 8 in
      let e : 24 + 8 * s + (i - 24) % 8 ≡ i = omega arith in
      field_entry i s ((i - 24) % 8) (omega arith) (omega arith) (omega arith)
      ∙ rw (le-ltb s (sheets_of b) (omega arith)) (ap (set_at b) e)

  module _ (s : ℕ) (there : s < 8) (used : s < sheets_of b) where
    field_used : (i o : ℕ) → i ≡ 24 + 8 * s + o → o < 8 → wrong_field b i ≡ wrong_in_entry b s o
    unfolding wrong_entry
    field_used i o h q = field_entry i s o h there q ∙ rw (lt-ltb s (sheets_of b) used)

    pub field_width : wrong_field b (24 + 8 * s) ≡ wrong_width b s
    unfolding wrong_in_entry
    field_width = field_used (24 + 8 * s) 0 (omega arith) (omega arith)

    pub field_column : (i : ℕ) → 25 + 8 * s ≤ i → i < 29 + 8 * s → wrong_field b i ≡ wrong_column b s (i - (25 + 8 * s))
    unfolding wrong_in_entry
    field_column i p q =
        let o = i - (24 + 8 * s) in
        let e : o - 1 ≡ i - (25 + 8 * s) = omega arith in
        field_used i o (omega arith) (omega arith) ∙ rw (ne_eqb o 0 (λ z. omega arith), lt-ltb o 5 (omega arith), e)

    pub field_five : wrong_field b (29 + 8 * s) ≡ set_at b (29 + 8 * s)
    unfolding wrong_in_entry
    field_five = field_used (29 + 8 * s) 5 (omega arith) (omega arith)

    pub field_rows : wrong_field b (30 + 8 * s) ≡ wrong_rows b s
    unfolding wrong_in_entry
    field_rows = field_used (30 + 8 * s) 6 (omega arith) (omega arith)

    -- byte 7 belongs to the rows
    field_high : wrong_field b (31 + 8 * s) ≡ false
    unfolding wrong_in_entry
    field_high = field_used (31 + 8 * s) 7 (omega arith) (omega arith)

    -- right field by field, so far
    pub right_width : false ≡ wrong_width b s → NoneIn (wrong_field b) (24 + 8 * s) (25 + 8 * s)
    right_width e = none_to (omega arith) (none_empty (le_refl _)) (field_width ∙ sym e)

    pub right_columns : false ≡ wrong_width b s → NoneIn (wrong_field b) (25 + 8 * s) (29 + 8 * s) → NoneIn (wrong_field b) (24 + 8 * s) (29 + 8 * s)
    right_columns e h = none_join (right_width e) h

    pub right_five : NoneIn (wrong_field b) (24 + 8 * s) (29 + 8 * s) → false ≡ set_at b (29 + 8 * s) → NoneIn (wrong_field b) (24 + 8 * s) (30 + 8 * s)
    right_five h e = none_to (omega arith) h (field_five ∙ sym e)

    pub right_rows : NoneIn (wrong_field b) (24 + 8 * s) (30 + 8 * s) → false ≡ wrong_rows b s → NoneIn (wrong_field b) (24 + 8 * s) (32 + 8 * s)
    right_rows h e = none_to {i = 31 + 8 * s} (omega arith) (none_to (omega arith) h (field_rows ∙ sym e)) field_high

-- "sheets S, 0 to 8"
pub few_sheets : (b : List ℕ) → wrong_field b 5 ≡ false → sheets_of b ≤ 8
unfolding wrong_sheets
few_sheets b e = (in_range 0 8 (sheets_of b) (sym (field_sheets b) ∙ e)).1

module _ (b : List ℕ) (h : RightHead b) where
  right : (i : ℕ) → i < 508 → wrong_field b i ≡ false
  right i p = h.at i (omega arith) p

  pub sheets_most : sheets_of b ≤ 8
  sheets_most = few_sheets b (right 5 (omega arith))

  pub columns_range : (1 ≤ columns_of b) × (columns_of b ≤ 16)
  unfolding wrong_columns
  columns_range = in_range 1 16 (columns_of b) (sym (field_columns b) ∙ right 4 (omega arith))

  pub values_range : (c : ℕ) → c < columns_of b → (1 ≤ values_of b c) × (values_of b c ≤ 32)
  unfolding wrong_values
  values_range c p =
      let e : 8 + c - 8 ≡ c = omega arith in
      let q : 8 + c < 24 = omega (arith, columns_range.1) in
      in_range 1 32 (values_of b c) (rw (e, lt-ltb c (columns_of b) p) at (sym (field_values b (8 + c) (omega arith) q) ∙ right (8 + c) (omega arith)))

  module _ (s : ℕ) (used : s < sheets_of b) where
    there : s < 8
    there = omega (arith, sheets_most)

    pub width_range : (1 ≤ width_of b s) × (width_of b s ≤ 4)
    unfolding wrong_width
    width_range = in_range 1 4 (width_of b s) (sym (field_width b s there used) ∙ right (24 + 8 * s) (omega (arith, there)))

    pub rows_most : rows_of b s ≤ 508
    unfolding wrong_rows
    rows_most = (in_range 0 508 (rows_of b s) (sym (field_rows b s there used) ∙ right (30 + 8 * s) (omega (arith, there)))).1

    -- of the columns, number j, one of the k, is below C and above the one before
    placed : (j : ℕ) → j < width_of b s → (leb (columns_of b) (column_of b s j) || not_rising b s j) ≡ false
    unfolding wrong_column
    placed j p =
        let e : 25 + 8 * s + j - (25 + 8 * s) ≡ j = omega arith in
        let q : 25 + 8 * s + j < 29 + 8 * s = omega (arith, width_range.1) in
        rw (e, lt-ltb j (width_of b s) p) at (sym (field_column b s there used (25 + 8 * s + j) (omega arith) q) ∙ right (25 + 8 * s + j) (omega (arith, there)))

    pub column_inside : (j : ℕ) → j < width_of b s → column_of b s j < columns_of b
    column_inside j p = leb-false (columns_of b) (column_of b s j) (or_false_l _ _ (placed j p))

    pub column_rises : (j : ℕ) → suc j < width_of b s → column_of b s j < column_of b s (suc j)
    unfolding not_rising
    column_rises j p =
        let e : suc j - 1 ≡ j = omega arith in
        leb-false (column_of b s (suc j)) (column_of b s j)
        (rw (ne_eqb (suc j) 0 (λ z. omega arith), e) at (or_false_r (leb (columns_of b) (column_of b s (suc j))) _ (placed (suc j) p)))
