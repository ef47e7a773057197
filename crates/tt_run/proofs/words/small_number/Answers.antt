use Rattle.std.proofs.Common.{sym, arith}
use Rattle.tt_run.proofs.Digits.{no_digit, no_small_number}
use Rattle.tt_run.proofs.words.small_number.Goals as goal
use Rattle.tt_run.proofs.words.small_number.Goals.{then-not-is_digit-via-then-not-is_digit, then-not-is_digit-via-else-not-is_digit+then-value}

pub returns-then-not-is_digit : goal.returns-then-not-is_digit
returns-then-not-is_digit c = elim c.then-not-is_digit.branch [
  | then-not-is_digit-via-then-not-is_digit w ↦ no_digit c.args.digits.now c.loop-digit.digit-index (omega arith) (sym w.if-not-is_digit.ensures)
  | then-not-is_digit-via-else-not-is_digit+then-value w ↦ no_small_number c.args.digits.now c.loop-digit.digit-index (omega arith) (omega arith)
]
