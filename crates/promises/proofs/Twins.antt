-- The claims of specs/Twins.antt, proved. Assumes nothing.
use mathlib.Core.Path.{◌∙◌, ◌≡◌, ap, ap₂, sym}
use mathlib.Core.Bool.{cond}
use mathlib.Core.List.{List}
use Prim.Native.Nat.{◌*◌, ◌+◌, ℕ}
use lib.Dec.{eqb, leb, ltb}
use lib.ListN.{length}
use Rattle.model.specs.Answers.{Answer}
use Rattle.model.specs.Twins.{Twins}
use Rattle.model.proofs.Twins.{twins_answer}
use Rattle.model.proofs.WrittenOut.{written_out_twins}
use Rattle.book.specs.Decoding.{book_of}
use Rattle.book.specs.Verdicts.{Accepted, check_result, refused}
use Rattle.book.proofs.Decoding.{accepted_well_formed}
use Rattle.sessions.specs.Lists.{orders_of}
use Rattle.answers.specs.Spaces.{written}
use Rattle.runs.specs.Results.{run_refusal, run_result, run_space, space_needed, wrong_list}
use Rattle.promises.specs.Twins.{TwinsRunAlike, WrittenOutRuns}

module _ (b c : List ℕ) (p : Accepted b) (q : Accepted c) (h : Twins (book_of b) (book_of c)) where
  same_figure : check_result b ≡ check_result c
  same_figure =
      (accepted_well_formed b p).figure
      ∙ ap₂ (λ (C S : ℕ). C * 16 + S) (ap length h.same_counts) h.as_many
      ∙ sym (accepted_well_formed c q).figure

  -- of the book a refusal looks at the number of the check alone
  same_refusal : (o : List ℕ) (room : ℕ) → run_refusal b o room ≡ run_refusal c o room
  unfolding run_refusal
  same_refusal o room =
      ap
      (λ (r : ℕ).
      cond (leb 65536 r) r (cond (wrong_list o) (refused 10 0) (cond (ltb room (space_needed o)) (refused 11 (space_needed o)) 0)))
      same_figure

  same_space : (o space : List ℕ) → run_space b o space ≡ run_space c o space
  unfolding run_space
  same_space o space =
      ap₂ (λ (r : ℕ) (l : List Answer). cond (eqb r 0) (written l space) space) (same_refusal o (length space))
      ((twins_answer (book_of b) (book_of c) (accepted_well_formed b p).well_formed h).every (orders_of o))

  same_number : (o : List ℕ) (room : ℕ) → run_result b o room ≡ run_result c o room
  unfolding run_result
  same_number o room =
      ap₂ (λ (r n : ℕ). cond (eqb r 0) n r) (same_refusal o room)
      ((twins_answer (book_of b) (book_of c) (accepted_well_formed b p).well_formed h).accepted (orders_of o))

pub twins_run_alike : TwinsRunAlike
twins_run_alike b c p q h = record { figure = same_figure b c p q h; spaces = same_space b c p q h; numbers = same_number b c p q h }

pub written_out_runs : WrittenOutRuns
written_out_runs b c p q e = twins_run_alike b c p q (rw e (written_out_twins (book_of b) (accepted_well_formed b p).well_formed))
