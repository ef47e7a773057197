use Rattle.tt_lex.specs.answer.WholeTexts.{answer}
use Rattle.tt_lex.proofs.OneWay.{same_tokens, same_fault, not_both}
use Rattle.tt_lex.proofs.laws.a_text_has_one_answer.Goals as goal

pub returns-clause-tokens : goal.returns-clause-tokens
returns-clause-tokens c = same_tokens

pub returns-clause-fault : goal.returns-clause-fault
returns-clause-fault c = same_fault

pub returns-clause-not_both : goal.returns-clause-not_both
returns-clause-not_both c = not_both

pub returns-clause-some : goal.returns-clause-some
returns-clause-some c = answer
