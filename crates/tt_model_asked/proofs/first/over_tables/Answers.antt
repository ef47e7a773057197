use Rattle.std.proofs.Common.{sym, ap, ◌∙◌, ◌++◌, ◌∷◌}
use Rattle.tt_plain.specs.refusal.{first_some}
use Rattle.tt_plain.specs.refusal.TableExists.{table_exists}
use Rattle.tt_model_asked.specs.AskedAs.{asked_in}
use Rattle.tt_model_asked.specs.RefusalsAs.{refusals_of_the_rest, refusals_of_typing}
use Rattle.tt_model_asked.proofs.Firsts.{first_none}
use Rattle.tt_model_asked.proofs.first.over_tables.Goals as goal

pub returns-in-Some : goal.returns-in-Some
returns-in-Some c =
    let asked = asked_in c.args.asked.now in
    sym (ap (λ r. first_some (r ∷ refusals_of_typing asked ++ refusals_of_the_rest asked)) (sym c.table_exists.ensures ∙ c.in-Some.is))

pub returns-in-None : goal.returns-in-None
returns-in-None c =
    let asked = asked_in c.args.asked.now in
    c.over_types.ensures ∙ first_none (table_exists asked) (refusals_of_typing asked ++ refusals_of_the_rest asked) (sym c.table_exists.ensures ∙ c.in-None.is)
