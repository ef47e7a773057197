use Rattle.std.proofs.Common.{◌∷◌, []}
use Rattle.tt_phrase.proofs.SelectReads.{begins_not, begins_not_later, follow_last, follow_more}
use Rattle.tt_sql.specs.grammar.TokenKinds.{DOT, FROM, INFORMATION_SCHEMA, SELECT, STAR}
use Rattle.tt_parse.proofs.select.view_words.Goals as goal

pub returns-in_err-rest : goal.returns-in_err-rest
returns-in_err-rest c = rw c.from_residual.ensures (begins_not SELECT (STAR ∷ FROM ∷ INFORMATION_SCHEMA ∷ DOT ∷ []) c.args.rest c.in_err-rest.ensures)

pub returns-in_err-rest-2 : goal.returns-in_err-rest-2
returns-in_err-rest-2 c = rw c.from_residual-in_err-rest-2.ensures (begins_not_later (STAR ∷ FROM ∷ INFORMATION_SCHEMA ∷ DOT ∷ []) c.in_ok-rest.ensures (begins_not STAR (FROM ∷ INFORMATION_SCHEMA ∷ DOT ∷ []) c.in_ok-rest.rest c.in_err-rest-2.ensures))

pub returns-in_err-rest-3 : goal.returns-in_err-rest-3
returns-in_err-rest-3 c = rw c.from_residual-in_err-rest-3.ensures (begins_not_later (STAR ∷ FROM ∷ INFORMATION_SCHEMA ∷ DOT ∷ []) c.in_ok-rest.ensures (begins_not_later (FROM ∷ INFORMATION_SCHEMA ∷ DOT ∷ []) c.in_ok-rest-2.ensures (begins_not FROM (INFORMATION_SCHEMA ∷ DOT ∷ []) c.in_ok-rest-2.rest c.in_err-rest-3.ensures)))

pub returns-in_err-rest-4 : goal.returns-in_err-rest-4
returns-in_err-rest-4 c = rw c.from_residual-in_err-rest-4.ensures (begins_not_later (STAR ∷ FROM ∷ INFORMATION_SCHEMA ∷ DOT ∷ []) c.in_ok-rest.ensures (begins_not_later (FROM ∷ INFORMATION_SCHEMA ∷ DOT ∷ []) c.in_ok-rest-2.ensures (begins_not_later (INFORMATION_SCHEMA ∷ DOT ∷ []) c.in_ok-rest-3.ensures (begins_not INFORMATION_SCHEMA (DOT ∷ []) c.in_ok-rest-3.rest c.in_err-rest-4.ensures))))

pub returns : goal.returns
returns c = follow_more SELECT (STAR ∷ FROM ∷ INFORMATION_SCHEMA ∷ DOT ∷ []) c.args.rest c.in_ok-rest.rest c.word-5.result c.in_ok-rest.ensures (follow_more STAR (FROM ∷ INFORMATION_SCHEMA ∷ DOT ∷ []) c.in_ok-rest.rest c.in_ok-rest-2.rest c.word-5.result c.in_ok-rest-2.ensures (follow_more FROM (INFORMATION_SCHEMA ∷ DOT ∷ []) c.in_ok-rest-2.rest c.in_ok-rest-3.rest c.word-5.result c.in_ok-rest-3.ensures (follow_more INFORMATION_SCHEMA (DOT ∷ []) c.in_ok-rest-3.rest c.in_ok-rest-4.rest c.word-5.result c.in_ok-rest-4.ensures (follow_last DOT c.in_ok-rest-4.rest c.word-5.result c.word-5.ensures))))
