use Rattle.std.proofs.Common.{◌∷◌, []}
use Rattle.tt_phrase.proofs.SelectReads.{begins_not, begins_not_later, follow_last, follow_more}
use Rattle.tt_sql.specs.grammar.TokenKinds.{OPEN, SELECT, SYSTEM_CLUSTERING_DEPTH}
use Rattle.tt_parse.proofs.select.depth_words.Goals as goal

pub returns-in_err-rest : goal.returns-in_err-rest
returns-in_err-rest c = rw c.from_residual.ensures (begins_not SELECT (SYSTEM_CLUSTERING_DEPTH ∷ OPEN ∷ []) c.args.rest c.in_err-rest.ensures)

pub returns-in_err-rest-2 : goal.returns-in_err-rest-2
returns-in_err-rest-2 c = rw c.from_residual-in_err-rest-2.ensures (begins_not_later (SYSTEM_CLUSTERING_DEPTH ∷ OPEN ∷ []) c.in_ok-rest.ensures (begins_not SYSTEM_CLUSTERING_DEPTH (OPEN ∷ []) c.in_ok-rest.rest c.in_err-rest-2.ensures))

pub returns : goal.returns
returns c = follow_more SELECT (SYSTEM_CLUSTERING_DEPTH ∷ OPEN ∷ []) c.args.rest c.in_ok-rest.rest c.word-3.result c.in_ok-rest.ensures (follow_more SYSTEM_CLUSTERING_DEPTH (OPEN ∷ []) c.in_ok-rest.rest c.in_ok-rest-2.rest c.word-3.result c.in_ok-rest-2.ensures (follow_last OPEN c.in_ok-rest-2.rest c.word-3.result c.word-3.ensures))
