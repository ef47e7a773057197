use Rattle.tt_lex.proofs.Function.{tokens_law, fault_law}
use Rattle.tt_lex.proofs.laws.tokens_of_a_text.Goals as goal

pub returns-clause-tokens : goal.returns-clause-tokens
returns-clause-tokens c = tokens_law

pub returns-clause-fault : goal.returns-clause-fault
returns-clause-fault c = fault_law
