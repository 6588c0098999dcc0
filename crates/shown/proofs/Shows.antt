-- Laws of what an answer shows. Assumes nothing.
use mathlib.Core.Path.{◌∙◌, ◌≡◌, ap, refl, subst, sym}
use mathlib.Core.Logic.{◌⊎◌, inl, inr}
use mathlib.Core.List.{List, []}
use Prim.Native.Nat.{◌*◌, ℕ}
use native.Mathlib.Omega.{arith}
use lib.ListN.{get_or}
use Rattle.fields.specs.Bytes.{over}
use Rattle.model.specs.Answers.{answer, answer_bytes, outcome, outcome_masks, showing, state_only}
use Rattle.model.specs.Books.{column_count}
use Rattle.model.specs.Orders.{Entry, depth, domains, kind, push, refusal, try_limit}
use Rattle.model.proofs.Answers.{domain_bytes_same, outcome_finish, outcome_other}
use Rattle.model.proofs.Refusals.{push_finish, push_ind, push_refused}
use Rattle.model.proofs.Trails.{domains_checkpoint}
use Rattle.book.specs.Decoding.{book_of}
use Rattle.engine.specs.declared.state.State.{State}
use Rattle.search.specs.Searches.{Finishes, OutcomeIs, masks_in, number_in, tries_in}
use Rattle.search.specs.declared.Outcome.{Outcome as Held}
use Rattle.search.specs.declared.Outcome.TheVariants.{Found, NotFound, StateOnly, Stopped}
use Rattle.status.specs.Status.{Summarises, SummaryIs, status_number}
use Rattle.status.specs.declared.Summary.{Summary}
use Rattle.answers.specs.Answers.{answer_in}
use Rattle.answers.specs.Spaces.{Adds}
use Rattle.answers.specs.declared.Answer.{Answer as Written}
use Rattle.answers.proofs.Spaces.{adds}
use Rattle.shown.specs.Shows.{AnswersAt, OpensWith, ShowsAt, ShowsBesides, TellsAfter, refusal_shown}
use Rattle.std.specs.Result.{result_err}
use Rattle.std.specs.Prelude.{Err, MatchOption, None, Ok, Option, Result, Some}
use Rattle.sessions.specs.Readings.{refused_in, refused_number}
use Rattle.sessions.specs.declared.orders.Order.{Order}
use Rattle.sessions.specs.declared.orders.Refused.{Refused}

-- ---- what is shown besides the state
-- the state alone
state_is : {b D : List ℕ} → OutcomeIs b D state_only StateOnly
state_is = record { number = refl; tries = refl; masks = λ c l. refl }

module _ {b : List ℕ} {st : State} (x : List ℕ) {r : ℕ} where
  -- a refused order, and one of another kind
  pub state_besides : (r ≡ 0 → kind x ≡ 4 → ⊥) → ShowsBesides b x r st StateOnly
  state_besides not-finish L e h = rw (outcome_other (book_of b) L x (λ z. not-finish (e ∙ z.accepted) z.of_kind)) state_is

  pub finish_besides : {n : ℕ} {f : Held} → n ≡ try_limit x → Finishes b st n f → r ≡ 0 → kind x ≡ 4 → ShowsBesides b x r st f
  finish_besides q g z k L e h =
      let p = push_finish (book_of b) L x k in
      rw (p, outcome_finish (book_of b) L x (record { of_kind = k; accepted = sym e ∙ z }), ← q) (g L (rw p at h) (domains (book_of b) L))

-- ---- what the state says
-- the same domains, the same summary
summary_like : {b : List ℕ} {L M : List Entry} {t : Summary} → domains (book_of b) L ≡ domains (book_of b) M → SummaryIs b L t → SummaryIs b M t
summary_like e h = record { status = rw (← e) h.status; done = rw (← e) h.done }

module _ {b : List ℕ} (x : List ℕ) {r : ℕ} {t : Summary} {st : State} where
  pub told_refused : (r ≡ 0 → ⊥) → TellsAfter b x r t st t
  told_refused n L e h s = rw (push_refused (book_of b) L x (λ z. n (e ∙ z))) h

  -- a mark and a finish change no domain
  pub told_same : (kind x ≡ 2) ⊎ (kind x ≡ 4) → TellsAfter b x r t st t
  told_same k L e h s =
      push_ind (book_of b) L x (λ M. SummaryIs b M t) h (λ q z. absurd (other k q (inl refl))) (λ q z. summary_like (sym (domains_checkpoint (book_of b) L)) h)
      (λ q z. absurd (other k q (inr refl)))
    where
      other : (kind x ≡ 2) ⊎ (kind x ≡ 4) → {n : ℕ} → kind x ≡ n → (n ≡ 1) ⊎ (n ≡ 3) → ⊥
      other (inl p) q (inl u) = omega arith
      other (inl p) q (inr u) = omega arith
      other (inr p) q (inl u) = omega arith
      other (inr p) q (inr u) = omega arith

-- ---- one answer
-- masks over domains that are the same
masks_same : (f : Held) (D E : List ℕ) → ((c : ℕ) → get_or D c 0 ≡ get_or E c 0) → (c : ℕ) → get_or (masks_in D f) c 0 ≡ get_or (masks_in E f) c 0
masks_same StateOnly D E h c = h c
masks_same (Found x n) D E h c = refl
masks_same (NotFound n) D E h c = refl
masks_same (Stopped n) D E h c = refl

-- the byte for a refusal, as the code gives it
pub refusal_byte : (o : Option Refused) {n : ℕ} → MatchOption o (n ≡ 0) (λ r. n ≡ refused_number r) → n ≡ refusal_shown o
refusal_byte None e = e
refusal_byte (Some r) e = e

-- that of an order as it was read
refusal_read : (x : Result Order Refused) → refusal_shown (result_err x) ≡ refused_in x
refusal_read (Ok y) = refl
refusal_read (Err r) = refl

-- the answer that the code holds has the bytes of the model's
pub shows_at : {d r : ℕ} {t : Summary} {f : Held} {st : State} (i : ℕ) (space : List ℕ) {a : Written} {space' : List ℕ}
    → answer_in a
    ≡ record { refused = r; status = status_number t.status; depth = d; outcome = number_in f; done = t.done; tries = tries_in f; shown = masks_in st.dom f }
    → space' ≡ over space (72 * i) (answer_bytes (answer_in a)) → ShowsAt t d r f st i space space'
unfolding showing answer_bytes
shows_at {d} {r} {t} {f} {st} i space {a} {space'} q e b L x h s dd k =
    rw e
    (subst (λ (l : List ℕ). Adds i (showing (book_of b) L r x) space (over space (72 * i) l)) (sym same)
    (adds i (showing (book_of b) L r x) space))
  where
    same : answer_bytes (answer_in a) ≡ answer_bytes (showing (book_of b) L r x)
    same =
        ap answer_bytes q
        ∙ rw (
          h.status,
          h.done,
          dd,
          k.number,
          k.tries,
          domain_bytes_same (masks_in st.dom f) (outcome_masks (column_count (book_of b)) (domains (book_of b) L) x) 16
              (λ c l. masks_same f _ _ s.holds.domain c ∙ k.masks c l),
        ) refl

pub answers_order : (y : Result Order Refused) {b : List ℕ} {st : State} {d : ℕ} {t t' : Summary} {f : Held} {n : Option Refused} (x : List ℕ) (i : ℕ)
    (space : List ℕ) {space' : List ℕ} → n ≡ result_err y
    → ShowsBesides b x (refused_in y) st f → TellsAfter b x (refused_in y) t st t' → ShowsAt t' d (refusal_shown n) f st i space space'
    → AnswersAt b x (refused_in y) st d t i space t' space'
unfolding answer
answers_order y {b} {st} {d} {t} {t'} {f} {n} x i space z g s w L e h k q =
    let after = s L e h k in
    let shown : refusal_shown n ≡ refusal (book_of b) L x = rw z (refusal_read y ∙ e) in
    (after, rw shown at (w b (push (book_of b) L x) (outcome (book_of b) L x) after k q (g L e k)))

pub opens_with : {b : List ℕ} {st : State} {t : Summary} (space : List ℕ) {space' : List ℕ} → Summarises b st t
    → ShowsAt t 0 0 StateOnly st 0 space space' → OpensWith b st space t space'
unfolding depth
opens_with {b} space s w h = let told = s [] h in (told, w b [] state_only told h refl state_is)
