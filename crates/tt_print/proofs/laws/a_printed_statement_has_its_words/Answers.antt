use Rattle.tt_print.specs.text.Statements.{statement_words}
use Rattle.tt_print.proofs.again.Placing.{words_are_tokens, words_are_lexemes}
use Rattle.tt_print.proofs.laws.a_printed_statement_has_its_words.Goals as goal

pub returns-clause-tokens : goal.returns-clause-tokens
returns-clause-tokens c = λ s are. words_are_tokens (statement_words s) are

pub returns-clause-lexemes : goal.returns-clause-lexemes
returns-clause-lexemes c = λ s. words_are_lexemes (statement_words s)
