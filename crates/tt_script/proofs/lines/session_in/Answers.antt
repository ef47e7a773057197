use Rattle.std.proofs.Common.{sym}
use Rattle.tt_script.proofs.Texts.{session_named}
use Rattle.tt_script.proofs.lines.session_in.Goals as goal

pub returns-in-Some-session_on-clause-named : goal.returns-in-Some-session_on-clause-named
returns-in-Some-session_on-clause-named c = session_named c.said.result.now c.in-Some-session_on.name.now (sym c.in-Some-session_on.ensures)
