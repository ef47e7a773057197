use Rattle.std.proofs.Common.{arith, sym, ◌∙◌}
use Rattle.tt_journal_read.proofs.Numerals.{no_digit, too_large}
use Rattle.tt_journal_read.proofs.parts.value_up_to.Goals as goal
use Rattle.tt_journal_read.proofs.parts.value_up_to.Goals.{then-not-is_digit-via-then-not-is_digit, then-not-is_digit-via-else-not-is_digit+then-value-most}

pub returns-then-not-is_digit-clause-value : goal.returns-then-not-is_digit-clause-value
returns-then-not-is_digit-clause-value c = elim c.then-not-is_digit.branch [
  | then-not-is_digit-via-then-not-is_digit w ↦ no_digit c.args.most c.args.digits.now c.loop-digit.digit-index (omega arith) (sym w.if-not-is_digit.ensures)
  | then-not-is_digit-via-else-not-is_digit+then-value-most w ↦ too_large c.args.most c.args.digits.now c.loop-digit.digit-index (omega arith) (omega arith)
]

pub returns-in_err-value-clause-value : goal.returns-in_err-value-clause-value
returns-in_err-value-clause-value c =
    c.from_residual.ensures ∙ too_large c.args.most c.args.digits.now c.loop-digit.digit-index (omega arith) (omega arith)
