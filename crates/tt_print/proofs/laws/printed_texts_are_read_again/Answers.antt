use Rattle.tt_print.proofs.again.Texts.{read_again, text_again}
use Rattle.tt_print.proofs.laws.printed_texts_are_read_again.Goals as goal

pub returns : goal.returns
returns c = record { written = read_again; text = text_again }
