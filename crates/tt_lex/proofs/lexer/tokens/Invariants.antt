use Rattle.std.proofs.Common.{length}
use Rattle.tt_lex.specs.answer.Pieces.{HasRead}
use Rattle.tt_lex.proofs.lexer.tokens.Given as goal

abbrev pub invariant-loop-rest : goal.invariant-loop-rest
invariant-loop-rest l = HasRead l.text l.rest l.at l.list.items

abbrev pub decreases-loop-rest : goal.decreases-loop-rest
decreases-loop-rest l = length l.rest
