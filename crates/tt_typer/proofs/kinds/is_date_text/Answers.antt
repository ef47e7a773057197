use Rattle.std.proofs.Common.{◌∙◌, sym}
use Rattle.tt_typer.proofs.Days.{is_day, no_day}
use Rattle.tt_typer.proofs.kinds.is_date_text.Goals as goal

pub returns-in-Ok : goal.returns-in-Ok
returns-in-Ok c = is_day c.args.text.now c.in-Ok.field-0 c.in-Ok.ensures.found.0 (sym c.as_str.ensures.value ∙ c.in-Ok.ensures.found.1)

pub returns-in-Err : goal.returns-in-Err
returns-in-Err c = no_day c.args.text.now c.in-Err.field-0 (λ day within is. c.in-Err.ensures.only day within (c.as_str.ensures.value ∙ is))
