use Rattle.std.proofs.Common.{◌∷◌, []}
use Rattle.tt_terminal.specs.KindNumbers.{kind_number}
use Rattle.tt_sql.specs.grammar.TokenKinds.{OPEN}
use Rattle.tt_phrase.proofs.SelectReads.{begins_not, begins_not_later}
use Rattle.tt_phrase.proofs.item.bracket_behind.Goals as goal

pub returns-in_err-place : goal.returns-in_err-place
returns-in_err-place c = rw c.from_residual.ensures (begins_not (kind_number c.args.kind) (OPEN ∷ []) c.args.rest c.in_err-place.ensures)

pub returns-in_err-behind : goal.returns-in_err-behind
returns-in_err-behind c = rw c.from_residual-in_err-behind.ensures (begins_not_later (OPEN ∷ []) c.in_ok-place.ensures.word (begins_not OPEN [] c.in_ok-place.bracket c.in_err-behind.ensures))

pub returns : goal.returns
returns c = (c.in_ok-place.bracket, c.in_ok-place.ensures, c.in_ok-behind.ensures)
