use Rattle.std.proofs.Common.{◌∙◌, ◌∷◌, []}
use Rattle.tt_plain.specs.Statements.{insertion}
use Rattle.tt_typer.proofs.Refusals.{free, refused, values_found_in}
use Rattle.tt_typer.proofs.checking.check_values.Goals as goal

pub returns-clause-ok : goal.returns-clause-ok
returns-clause-ok c = free c.first_refusal.result c.in_values.result (c.args.target.now ∷ []) (insertion c.args.insert.now) (c.in_values.ensures ∙ values_found_in c.args.target.now c.args.insert.now c.args.tuples.now c.requires) c.first_refusal.ensures.ok

pub returns-clause-refused : goal.returns-clause-refused
returns-clause-refused c = refused c.first_refusal.result c.in_values.result (c.args.target.now ∷ []) (insertion c.args.insert.now) (c.in_values.ensures ∙ values_found_in c.args.target.now c.args.insert.now c.args.tuples.now c.requires) c.first_refusal.ensures.refused
