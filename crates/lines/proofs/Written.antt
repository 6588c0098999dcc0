-- Texts put into a buffer one after the other. Assumes nothing.
use mathlib.Core.Path.{◌≡◌, refl, sym, ◌∙◌, subst}
use mathlib.Core.List.{List, [], ◌∷◌, ◌++◌, append_assoc, append-nil}
use Prim.Native.Nat.{ℕ, ◌+◌, ◌*◌, ◌^◌, ◌≤◌, ◌<◌}
use native.Mathlib.Numerals.{add-one}
use native.Mathlib.Omega.{arith}
use lib.ListN.{length, length-append}
use borrow.Author.Tests.{lt-ltb, le-ltb}
use Rattle.std.specs.Fmt.{decimal}
use Rattle.model.specs.Answers.{answer_at, domain_in}
use Rattle.lines.specs.Texts.{accepted_line, answer_line, answer_lines, domain_fields, field, printed, refused_line}
use Rattle.lines.specs.Written.{Written}
use Rattle.lines.specs.declared.Text.{Text}
use Rattle.lines.proofs.Texts.{decimal_number}

-- nothing is written yet
pub written_none : {m : ℕ} (a : Text) → a.at ≤ length a.out.now → Written m a a []
written_none a h = record { bytes = sym (append-nil _); end = omega arith; short = omega arith; within = h; size = refl; same = refl }

-- a text, and behind it another
pub written_then : {m n : ℕ} {a b c : Text} {s t : List ℕ} → Written m a b s → Written n b c t → Written (m + n) a c (s ++ t)
written_then {s = s} {t = t} v w =
    record {
      bytes = w.bytes ∙ rw (v.bytes, append_assoc);
      end = omega (arith, length-append s t, v.end, w.end);
      short = omega (arith, length-append s t, v.short, w.short);
      within = w.within;
      size = w.size ∙ v.size;
      same = w.same ∙ v.same;
    }

-- the same text under another name
pub written_as : {m : ℕ} {a b : Text} {s t : List ℕ} → s ≡ t → Written m a b s → Written m a b t
written_as {m} {a} {b} e w = subst (λ (l : List ℕ). Written m a b l) e w

-- room for more than the text takes
pub written_most : {m n : ℕ} {a b : Text} {t : List ℕ} → Written m a b t → m ≤ n → Written n a b t
written_most w h = record { bytes = w.bytes; end = w.end; short = omega (arith, w.short); within = w.within; size = w.size; same = w.same }

-- a field is a space and std's decimal text
pub written_field : {m : ℕ} {a b : Text} (x : ℕ) → x < 2 ^ 64 → Written m a b (32 ∷ decimal x) → Written m a b (field x)
written_field x h w = written_as (rw (decimal_number x h)) w

-- ---- the parts of a run's text
-- one domain more
pub written_domain : (answer : List ℕ) (i x : ℕ) {a b c : Text} → x ≡ domain_in answer i → x < 2 ^ 32
    → Written (11 * i) a b (domain_fields answer i) → Written 11 b c (32 ∷ decimal x) → Written (11 * (i + 1)) a c (domain_fields answer (i + 1))
unfolding domain_fields
written_domain answer i x e h v w =
    let t : domain_fields answer i ++ field x ≡ domain_fields answer (i + 1) = rw (add-one, domain_fields, ← e) in
    written_as t (written_most (written_then v (written_field x (omega arith) w)) (omega arith))

-- one answer more
pub written-line : (columns : ℕ) (space : List ℕ) (i : ℕ) {answer : List ℕ} {a b c : Text} → answer ≡ answer_at space i
    → Written (217 * i) a b (answer_lines columns space i) → Written 217 b c (answer_line columns i answer)
    → Written (217 * (i + 1)) a c (answer_lines columns space (i + 1))
unfolding answer_lines
written-line columns space i {answer} e v w =
    let t : answer_lines columns space i ++ answer_line columns i answer ≡ answer_lines columns space (i + 1) = rw (add-one, e, answer_lines) in
    written_as t (written_most (written_then v w) (omega arith))

-- a run that was refused, and one that was accepted
pub printed_refused : (number columns n : ℕ) (space : List ℕ) → 65536 ≤ number → refused_line number ≡ printed number columns n space
unfolding printed
printed_refused number columns n space h = rw (le-ltb number 65536 h)

pub printed_accepted : (number columns n : ℕ) (space : List ℕ) → number < 65536
    → answer_lines columns space (n + 1) ++ accepted_line number ≡ printed number columns n space
unfolding printed
printed_accepted number columns n space h = rw (add-one, lt-ltb number 65536 h)
