-- The refusals of the code: the verdict that each stands for, and so its number. For those who read the code.
use Rattle.std.specs.Prelude.{ℕ}
use Rattle.rows.specs.Rows.{RowFault, clean, fault}
use Rattle.book.specs.Verdicts.{Verdict, bad_blocks, bad_check, bad_field, bad_filler, bad_length, bad_order, bad_value, fault_verdict, number_of}
use Rattle.book.specs.declared.refused.Refusal.{Refusal}
use Rattle.book.specs.declared.refused.Refusal.TheVariants.{Blocks, Check, Field, Filler, Length, Order, Value}

-- its verdict: each of them but `accepted`
abbrev pub verdict_of : Refusal → Verdict
verdict_of Length = bad_length
verdict_of (Check n) = bad_check n
verdict_of (Field i) = bad_field i
verdict_of (Blocks n) = bad_blocks n
verdict_of (Value place) = bad_value place
verdict_of (Filler place) = bad_filler place
verdict_of (Order place) = bad_order place

-- the number that the call returns for it
abbrev pub refusal_number : Refusal → ℕ
refusal_number e = number_of (verdict_of e)

-- a fault of the rows as a number: that of its refusal, 5 or 6, or 0 where there is none
abbrev pub fault_number : RowFault → ℕ
fault_number clean = 0
fault_number (fault offset kind) = number_of (fault_verdict offset kind)
