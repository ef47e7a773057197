use Rattle.std.proofs.Common.{◌∙◌}
use Rattle.tt_textcol.proofs.TextTests.{no_utf8, has_control, no_control, valid_text}
use Rattle.tt_textcol.proofs.parts.text_of.Goals as goal

pub returns-in_default : goal.returns-in_default
returns-in_default c = no_utf8 c.args.bytes.now c.in_default.ensures.cases.0

pub new-requires : goal.new-requires
new-requires c = valid_text c.in-Ok.text.now c.args.bytes.now c.in-Ok.ensures.cases.0 c.requires c.in-None.ensures

pub returns-in-Some : goal.returns-in-Some
returns-in-Some c = has_control c.args.bytes.now c.in-Some.field-0 c.in-Some.ensures

pub returns-in-None : goal.returns-in-None
returns-in-None c = (no_control c.args.bytes.now c.in-Ok.ensures.cases.1 c.in-None.ensures, c.new.ensures ∙ c.in-Ok.ensures.cases.0)
