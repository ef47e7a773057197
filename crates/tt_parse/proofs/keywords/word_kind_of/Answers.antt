use Rattle.tt_sql.specs.grammar.TokenKinds.{upper}
use Rattle.tt_terminal.specs.KindNumbers.{kind_number}
use Rattle.tt_parse.proofs.Tables.{word_stands}
use Rattle.tt_parse.proofs.keywords.word_kind_of.Goals as goal

pub returns-in-Some : goal.returns-in-Some
returns-in-Some c = word_stands (upper c.args.word.now) (kind_number c.in-Some.kind) c.in-Some.ensures.within c.in-Some.ensures.number_is
