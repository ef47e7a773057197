use Rattle.std.proofs.Common.{sym}
use Rattle.tt_script.proofs.Texts.{first_length_some, first_length_none}
use Rattle.tt_script.proofs.lines.line_length.Goals as goal

pub returns-in-Some : goal.returns-in-Some
returns-in-Some c = first_length_some c.args.bytes.now c.in-Some.place (sym c.in-Some.ensures.place)

pub returns-in-None : goal.returns-in-None
returns-in-None c = first_length_none c.args.bytes.now (sym c.in-None.ensures.place)
