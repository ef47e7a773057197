use Rattle.std.proofs.Common.{◌∙◌}
use Rattle.tt_script.proofs.Texts.{utf8_tested}
use Rattle.tt_script.proofs.lines.is_utf8.Goals as goal

pub returns : goal.returns
returns c = c.is_ok.ensures.value ∙ utf8_tested c.from_utf8.result c.args.line.now _ _ c.from_utf8.ensures.cases
