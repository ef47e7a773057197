use Rattle.std.proofs.Common.{◌∙◌}
use Rattle.tt_owner.proofs.Gathering.{hold_is}
use Rattle.tt_owner.proofs.holders.is_hold.Goals as goal

pub returns : goal.returns
returns c = c.eq.ensures ∙ hold_is c.args.hold c.args.wanted
