use Rattle.std.proofs.Common.{sym, ◌∙◌}
use Rattle.tt_time.proofs.Fractions.{second_none}
use Rattle.tt_time.proofs.timestamps.second_digit.Goals as goal

pub returns-in-None-clause-value : goal.returns-in-None-clause-value
returns-in-None-clause-value c = c.zone.ensures.value ∙ sym (second_none c.args.bytes.now c.args.read c.in-None.ensures.none)
