use Rattle.std.proofs.Common.{ap, ◌∙◌}
use Rattle.model.proofs.Tests.{any_below_i}
use Rattle.rows.specs.Rows.{wrong_sheet}
use Rattle.book.specs.Verdicts.{row_verdict}
use Rattle.book.proofs.Refusals.{fault_first}
use Rattle.book.proofs.fault.check_sheet.Goals as goal

pub returns-in-Some-clause-wrong : goal.returns-in-Some-clause-wrong
unfolding wrong_sheet
returns-in-Some-clause-wrong c =
    let q = c.in-Some.ensures in
    let first = rw c.unwrap-i.ensures at c.first_in_block.ensures in
    (any_below_i _ _ c.in-Some.q q.0 (q.1.passes q.0), ap (row_verdict c.args.book.now.bytes.now) (fault_first _ _ _ _ q.1 first.1) ∙ c.fault_at.ensures)
