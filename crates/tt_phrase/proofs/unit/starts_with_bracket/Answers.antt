use Rattle.std.proofs.Common.{[], ◌∷◌}
use Rattle.tt_sql.specs.grammar.TokenKinds.{OPEN, STARTSWITH}
use Rattle.tt_phrase.proofs.SelectReads.{begins_not, follow_last, follow_more}
use Rattle.tt_phrase.proofs.unit.starts_with_bracket.Goals as goal

pub returns-in_err-rest : goal.returns-in_err-rest
returns-in_err-rest c = rw c.from_residual.ensures (begins_not STARTSWITH (OPEN ∷ []) c.args.rest c.in_err-rest.ensures)

pub returns : goal.returns
returns c = follow_more STARTSWITH (OPEN ∷ []) c.args.rest c.in_ok-rest.rest c.word-2.result c.in_ok-rest.ensures (follow_last OPEN c.in_ok-rest.rest c.word-2.result c.word-2.ensures)
