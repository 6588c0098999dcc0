-- The columns that a line shows are the book's. Assumes nothing.
use mathlib.Core.Path.{◌≡◌, refl, sym, ◌∙◌}
use mathlib.Core.Logic.{◌⊎◌, inl, inr}
use mathlib.Core.List.{List}
use Prim.Native.Nat.{ℕ, ◌/◌, ◌≤◌, ◌<◌}
use lib.ListN.{length, get_or-eq_default}
use borrow.Author.Tests.{lt-ltb, le-ltb}
use Rattle.model.proofs.Tests.{below}
use Rattle.heads.specs.Heads.{columns_of}
use Rattle.book.proofs.Decoding.{accepted_right}
use Rattle.heads.proofs.Heads.{columns_range}
use Rattle.fit.specs.Prints.{columns_shown, run_text}
use Rattle.lines.specs.Texts.{printed}
use Rattle.lines.proofs.Written.{printed_refused}
use Rattle.runs.specs.Results.{run_result, run_space}
use Rattle.runs.proofs.Results.{accepted_number, right_input}

-- a book too short to say
pub shown_short : (b : List ℕ) → length b ≤ 4 → 0 ≡ columns_shown b
unfolding columns_shown
shown_short b h = let e : columns_of b ≡ 0 = get_or-eq_default b 0 h in rw e

-- more than a book can have
pub shown_none : (b : List ℕ) (c : ℕ) → c ≡ columns_of b → 16 < c → 0 ≡ columns_shown b
unfolding columns_shown
shown_none b c e h = rw (← e, lt-ltb 16 c h)

pub shown_all : (b : List ℕ) (c : ℕ) → c ≡ columns_of b → c ≤ 16 → c ≡ columns_shown b
unfolding columns_shown
shown_all b c e h = rw (← e, le-ltb 16 c h)

-- a line is printed only of an accepted book, which has at most 16
shown_printed : (b o space : List ℕ)
    → printed (run_result b o (length space)) (columns_shown b) (length o / 8) (run_space b o space) ≡ run_text b o space
unfolding run_text
shown_printed b o space = go (below (run_result b o (length space)) 65536)
  where
    go : (run_result b o (length space) < 65536) ⊎ (65536 ≤ run_result b o (length space))
        → printed (run_result b o (length space)) (columns_shown b) (length o / 8) (run_space b o space) ≡ run_text b o space
    go (inl p) =
        let accepted = (right_input b o (length space) (accepted_number b o (length space) p)).book in
        let e : columns_of b ≡ columns_shown b = shown_all b (columns_of b) refl (columns_range b (accepted_right b accepted).head).1 in
        rw (← e)
    go (inr p) = sym (printed_refused _ (columns_shown b) (length o / 8) (run_space b o space) p) ∙ printed_refused _ (columns_of b) (length o / 8) (run_space b o space) p

-- what was printed, of what the run and the book gave
pub run_printed : (b o space : List ℕ) {number columns : ℕ} {answers text : List ℕ} → number ≡ run_result b o (length space)
    → columns ≡ columns_shown b → answers ≡ run_space b o space → text ≡ printed number columns (length o / 8) answers → text ≡ run_text b o space
run_printed b o space {number} {columns} {answers} e f g t =
    let h : printed number columns (length o / 8) answers ≡ printed (run_result b o (length space)) (columns_shown b) (length o / 8) (run_space b o space) = rw (e, f, g) in
    t ∙ h ∙ shown_printed b o space
