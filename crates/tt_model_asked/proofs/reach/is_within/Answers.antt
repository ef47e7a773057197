use Rattle.std.proofs.Common.{sym}
use Rattle.tt_plain.specs.asked.Request.{request_in}
use Rattle.tt_plain.specs.asked.Reach.{reaches_needed, reach_number}
use Rattle.tt_model_asked.specs.ReachAs.{reach_in}
use Rattle.tt_model_asked.proofs.Reaches.{all_below}
use Rattle.tt_model_asked.proofs.reach.is_within.Goals as goal

pub returns : goal.returns
returns c = rw (c.number_of.ensures, c.number_of-2.ensures, c.needed.ensures) (sym (all_below (reach_number (reach_in c.args.reach)) (reaches_needed (request_in c.args.statement.now))))
