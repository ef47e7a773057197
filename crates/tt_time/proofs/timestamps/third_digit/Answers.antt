use Rattle.std.proofs.Common.{sym, ◌∙◌}
use Rattle.tt_time.proofs.Fractions.{third_none}
use Rattle.tt_time.proofs.timestamps.third_digit.Goals as goal

pub returns-in-None-clause-value : goal.returns-in-None-clause-value
returns-in-None-clause-value c = c.zone-in-None.ensures.value ∙ sym (third_none c.args.bytes.now c.args.read c.in-None.ensures.none)
