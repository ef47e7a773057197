use Rattle.tt_lex.proofs.Characters.{HasTokens-between}
use Rattle.tt_lex.proofs.Places.{HasTokens-in_order, HasTokens-spelled}
use Rattle.tt_lex.proofs.laws.tokens_stand_in_their_text.Goals as goal

pub returns-clause-order : goal.returns-clause-order
returns-clause-order c = HasTokens-in_order

pub returns-clause-characters : goal.returns-clause-characters
returns-clause-characters c = HasTokens-between

pub returns-clause-spelled : goal.returns-clause-spelled
returns-clause-spelled c = HasTokens-spelled
