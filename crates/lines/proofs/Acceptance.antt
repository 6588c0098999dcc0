-- The worked examples of the text, by computation. Assumes nothing.
use mathlib.Core.Path.{refl}
use Rattle.model.specs.Answers.{all_bytes, domain_bytes}
use Rattle.model.proofs.Acceptance.{computing}
use Rattle.lines.specs.Texts.{number_in, domain_fields, answer_head, answer_line, answer_lines, accepted_line, refused_line, printed}
use Rattle.lines.specs.Acceptance.{TextFacts}

pub text_facts : TextFacts
unfolding computing domain_bytes number_in domain_fields answer_head answer_line answer_lines accepted_line refused_line printed all_bytes
text_facts =
    record {
      example = refl;
      line_3 = refl;
      domain_bytes_shown = refl;
      none = refl;
      inner_zeros = refl;
      largest = refl;
      list_refused = refl;
      book_refused = refl;
    }
