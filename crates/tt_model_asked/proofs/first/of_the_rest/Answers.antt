use Rattle.tt_model_asked.specs.AskedAs.{asked_in}
use Rattle.tt_model_asked.specs.RefusalsAs.{refusals_of_content, refusals_of_state}
use Rattle.tt_model_asked.specs.TravelAs.{refusals_of_points}
use Rattle.tt_model_asked.proofs.Firsts.{three_groups}
use Rattle.tt_model_asked.proofs.first.of_the_rest.Goals as goal

pub returns : goal.returns
returns c =
    let asked = asked_in c.args.asked.now in
    rw (c.or-2.ensures, c.or.ensures, c.of_content-content.ensures, c.travels-travel.ensures, c.of_state.ensures)
    (three_groups (refusals_of_content asked) (refusals_of_points asked) (refusals_of_state asked))
