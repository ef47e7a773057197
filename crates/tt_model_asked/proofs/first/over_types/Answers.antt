use Rattle.std.proofs.Common.{sym, ◌∙◌}
use Rattle.tt_model_asked.specs.AskedAs.{asked_in}
use Rattle.tt_model_asked.proofs.Wholes.{is_typed, is_behind}
use Rattle.tt_model_asked.proofs.first.over_types.Goals as goal

pub returns-in-Some : goal.returns-in-Some
returns-in-Some c = is_typed (asked_in c.args.asked.now) c.args.statement.now c.in-Some.refusal c.requires.read (sym c.typed.ensures ∙ c.in-Some.is)

pub returns-in-None : goal.returns-in-None
returns-in-None c = c.of_the_rest.ensures ∙ is_behind (asked_in c.args.asked.now) c.args.statement.now c.requires.read (sym c.typed.ensures ∙ c.in-None.is)
