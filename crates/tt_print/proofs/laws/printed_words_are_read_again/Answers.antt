use Rattle.tt_print.proofs.again.Spelling.{named}
use Rattle.tt_print.proofs.again.Quoted.{numbered, text_quoted}
use Rattle.tt_print.proofs.again.Literals.{literal_spelled}
use Rattle.tt_print.proofs.laws.printed_words_are_read_again.Goals as goal

pub returns-clause-name : goal.returns-clause-name
returns-clause-name c = named

pub returns-clause-number : goal.returns-clause-number
returns-clause-number c = numbered

pub returns-clause-text : goal.returns-clause-text
returns-clause-text c = text_quoted

pub returns-clause-literal : goal.returns-clause-literal
returns-clause-literal c = literal_spelled
