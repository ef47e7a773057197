use Rattle.tt_print.proofs.again.Texts.{one_text, one_text_read, one_note}
use Rattle.tt_print.proofs.laws.a_statement_has_one_text.Goals as goal

pub returns : goal.returns
returns c = record { written = one_text; read = one_text_read; noted = one_note }
