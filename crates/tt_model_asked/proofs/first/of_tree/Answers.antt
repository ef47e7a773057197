use Rattle.std.proofs.Common.{sym, ap, ◌∙◌, ◌∷◌}
use Rattle.std.specs.Option.{option_map}
use Rattle.tt_history.specs.declared.reply.Refusal.TheVariants as refusal
use Rattle.tt_plain.specs.refusal.{first_some}
use Rattle.tt_model_asked.specs.AskedAs.{asked_in}
use Rattle.tt_model_asked.specs.RefusalsAs.{refusals_of_tables}
use Rattle.tt_model_asked.proofs.Wholes.{first_is}
use Rattle.tt_model_asked.proofs.first.of_tree.Goals as goal

pub returns-in-Some : goal.returns-in-Some
returns-in-Some c =
    let asked = asked_in c.args.asked.now in
    sym (first_is asked c.args.statement.now c.requires.read
    ∙ ap (λ o. first_some (option_map refusal.UnknownTable o ∷ refusals_of_tables asked)) (sym c.unknown_table.ensures ∙ c.in-Some.is))

pub returns-in-None : goal.returns-in-None
returns-in-None c =
    let asked = asked_in c.args.asked.now in
    c.over_tables.ensures ∙ sym (first_is asked c.args.statement.now c.requires.read
    ∙ ap (λ o. first_some (option_map refusal.UnknownTable o ∷ refusals_of_tables asked)) (sym c.unknown_table.ensures ∙ c.in-None.is))
