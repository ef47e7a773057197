use Rattle.std.proofs.Common.{sym, ◌∙◌}
use Rattle.tt_time.proofs.Fractions.{first_none}
use Rattle.tt_time.proofs.timestamps.first_digit.Goals as goal

pub returns-in_err-digit-clause-value : goal.returns-in_err-digit-clause-value
returns-in_err-digit-clause-value c = c.from_residual.ensures ∙ sym (first_none c.args.bytes.now c.in_err-digit.ensures.none)
